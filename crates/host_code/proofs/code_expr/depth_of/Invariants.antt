use Rattle.std.proofs.Common.{◌≡◌, ◌≤◌, drop}
use Rattle.host_code.specs.CodeExpr.{depth_after}
use Rattle.host_code.proofs.code_expr.depth_of.Given as goal

-- what is left makes of the depth so far what all make of nothing
abbrev pub invariant-loop-node : goal.invariant-loop-node
invariant-loop-node l = record {
  left : depth_after (drop l.node-index l.nodes) l.depth ≡ depth_after l.nodes 0;
  few : l.depth ≤ l.node-index;
}
