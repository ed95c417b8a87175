use Rattle.std.proofs.Common.{◌≡◌, ◌-◌, List, [], length}
use Rattle.host_code.specs.declared.code.Entry.{Entry}
use Rattle.byte_format.specs.Reader.{items_at}
use Rattle.split_file.specs.Reader.{SplitReader}
use Rattle.split_file.specs.Reading.{entry_row_at, is_empty}
use Rattle.split_file.proofs.starts.entry_rows_of.Given as goal

abbrev pub invariant-loop : goal.invariant-loop
invariant-loop l =
    let item : List Entry → SplitReader Entry = λ before. entry_row_at l.hosts l.labels (is_empty before) in
    record {
      read : items_at item l.entries.items (l.count - l.counter) l.rest ≡ items_at item [] l.count l.bytes;
      count : length l.entries.items ≡ l.counter;
      first : l.is_first ≡ is_empty l.entries.items;
    }
