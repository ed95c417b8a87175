use Rattle.std.proofs.Common.{◌≡◌, ◌-◌, []}
use Rattle.byte_format.specs.Reader.{items_at}
use Rattle.split_file.specs.Reading.{label_at}
use Rattle.split_file.proofs.tables.label_rows_of.Given as goal

abbrev pub invariant-loop : goal.invariant-loop
invariant-loop l =
    items_at (λ _. label_at) l.labels.items (l.count - l.counter) l.rest ≡ items_at (λ _. label_at) [] (l.count) l.bytes
