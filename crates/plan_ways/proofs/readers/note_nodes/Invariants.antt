use Rattle.std.proofs.Common.{◌≡◌, drop}
use Rattle.plan_ways.specs.Readers.{with_nodes}
use Rattle.plan_ways.proofs.readers.note_nodes.Given as goal

-- what is noted, and then what the nodes that are left give, is the whole
abbrev pub invariant-loop-node : goal.invariant-loop-node
invariant-loop-node l =
    with_nodes l.table l.statement (drop l.node-index l.nodes) ≡ with_nodes l.initial.table l.statement l.nodes
