use Rattle.std.proofs.Common.{◌≡◌, ◌-◌, []}
use Rattle.byte_format.specs.Reader.{items_at}
use Rattle.split_file.specs.Reading.{variable_row_at}
use Rattle.split_file.proofs.tables.variable_rows_of.Given as goal

abbrev pub invariant-loop : goal.invariant-loop
invariant-loop l =
    items_at (λ _. variable_row_at l.labels) l.vars.items (l.count - l.counter) l.rest
    ≡ items_at (λ _. variable_row_at l.labels) [] (l.count) l.bytes
