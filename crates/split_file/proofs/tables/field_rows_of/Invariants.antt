use Rattle.std.proofs.Common.{◌≡◌, ◌-◌, ◌≤◌, List, []}
use Rattle.js_base.specs.declared.limits.TheConstants.{ELEMENTS}
use Rattle.host_code.specs.Code.{CodeFieldShape}
use Rattle.byte_format.specs.Reader.{items_at}
use Rattle.split_file.specs.Reader.{SplitReader}
use Rattle.split_file.specs.Reading.{field_row_at, elements_of}
use Rattle.split_file.proofs.tables.field_rows_of.Given as goal

abbrev pub invariant-loop : goal.invariant-loop
invariant-loop l =
    let item : List CodeFieldShape → SplitReader CodeFieldShape =
    λ before. field_row_at l.hosts l.labels (elements_of before) in
    record {
      read : items_at item l.fields.items (l.count - l.counter) l.rest ≡ items_at item [] l.count l.bytes;
      elements : l.elements ≡ elements_of l.fields.items;
      within : l.elements ≤ ELEMENTS;
    }
