use Rattle.std.proofs.Common.{◌≡◌, ◌≤◌, ◌+◌, [], length, drop}
use Rattle.host_stores.specs.Stores.{variable_of}
use Rattle.host_core.specs.Values.{values_after}
use Rattle.host_core.proofs.values.value_within.Given as goal

-- what is left leaves the same as all nodes, and there is room for it
abbrev pub invariant-loop-node : goal.invariant-loop-node
invariant-loop-node l = record {
  values :
      values_after (variable_of l.stores l.frame) l.temporaries (drop l.node-index l.nodes) (drop l.first l.room)
      ≡ values_after (variable_of l.stores l.frame) l.temporaries l.nodes [];
  within : l.first ≤ length l.room;
  room : length l.room ≤ l.first + l.node-index;
}
