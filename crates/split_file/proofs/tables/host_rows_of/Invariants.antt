use Rattle.std.proofs.Common.{◌≡◌, ◌-◌, [], length}
use Rattle.byte_format.specs.Reader.{items_at}
use Rattle.split_file.specs.Reading.{host_row_at}
use Rattle.split_file.proofs.tables.host_rows_of.Given as goal

abbrev pub invariant-loop : goal.invariant-loop
invariant-loop l = record {
  read : items_at (λ _. host_row_at) l.hosts.items (l.count - l.counter) l.rest
      ≡ items_at (λ _. host_row_at) [] l.count l.bytes;
  count : length l.hosts.items ≡ l.counter;
}
