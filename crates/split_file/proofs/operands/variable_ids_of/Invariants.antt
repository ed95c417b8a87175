use Rattle.std.proofs.Common.{◌≡◌, ◌-◌, [], length}
use Rattle.byte_format.specs.Reader.{items_at}
use Rattle.split_file.specs.Reading.{variable_id_at}
use Rattle.split_file.proofs.operands.variable_ids_of.Given as goal

abbrev pub invariant-loop : goal.invariant-loop
invariant-loop l = record {
  read : items_at (λ _. variable_id_at l.vars) l.found.items (l.count - l.counter) l.rest
      ≡ items_at (λ _. variable_id_at l.vars) [] l.count l.bytes;
  count : length l.found.items ≡ l.counter;
}
