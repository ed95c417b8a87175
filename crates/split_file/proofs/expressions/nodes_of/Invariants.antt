use Rattle.std.proofs.Common.{◌≡◌, ◌-◌, [], length}
use Rattle.byte_format.specs.Reader.{items_at}
use Rattle.split_file.specs.Reading.{node_at}
use Rattle.split_file.proofs.expressions.nodes_of.Given as goal

abbrev pub invariant-loop : goal.invariant-loop
invariant-loop l = record {
  read : items_at (λ _. node_at l.vars l.temporaries) l.nodes.items (l.count - l.counter) l.rest
      ≡ items_at (λ _. node_at l.vars l.temporaries) [] l.count l.bytes;
  count : length l.nodes.items ≡ l.counter;
}
