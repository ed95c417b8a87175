use Rattle.std.proofs.Common.{◌≤◌}
use Rattle.jif_tree.specs.Trees.{ProgramTree}
use Rattle.need_labels.specs.Plan.{PlanShape}
use Rattle.msg_cost.specs.Tables.{planned_with}
use Rattle.msg_cost.proofs.TrustTables.{IsFirstSoFar}
use Rattle.msg_cost.proofs.table.first_trusted.Given as goal

-- it is the first place as far as the statements so far tell
abbrev pub invariant-loop-place : goal.invariant-loop-place
invariant-loop-place l = record {
  within : l.first ≤ l.place;
  first : (program : ProgramTree) (plan : PlanShape) →
      IsFirstSoFar (planned_with l.needs l.hosts program plan) l.host l.block l.first l.place;
}
