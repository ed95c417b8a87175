use Rattle.std.proofs.Common.{◌≤◌, drop, length}
use Rattle.std.specs.Prelude.{Some, None}
use Rattle.msg_cost.specs.Cost.{cost_of}
use Rattle.msg_cost.specs.Pieces.{gives_behind, walk_terms}
use Rattle.msg_cost.specs.PieceViews.{givens_of}
use Rattle.msg_cost.specs.Views.{seated_shape}
use Rattle.msg_cost.proofs.WalkChanges.{Progressed}
use Rattle.msg_cost.proofs.walk_change.stretch_change.Given as goal

-- both walks have come to the place
abbrev pub invariant-loop-place : goal.invariant-loop-place
invariant-loop-place l = record {
  so_far : Progressed
      (cost_of l.before.hosts.now (walk_terms (seated_shape l.before) (Some l.statement) l.walk.weight l.fn.start.spot
      (gives_behind l.before.needs.now (Some l.statement) None (givens_of l.walk.block.now) l.fn.start.place)
      (givens_of (drop l.fn.start.place l.walk.block.now))))
      (cost_of l.before.hosts.now (walk_terms (seated_shape l.after) (Some l.statement) l.walk.weight l.fn.spot
      (gives_behind l.before.needs.now (Some l.statement) None (givens_of l.walk.block.now) l.fn.start.place)
      (givens_of (drop l.fn.start.place l.walk.block.now))))
      (cost_of l.before.hosts.now (walk_terms (seated_shape l.before) (Some l.statement) l.walk.weight l.first
      (gives_behind l.before.needs.now (Some l.statement) None (givens_of l.walk.block.now) l.place)
      (givens_of (drop l.place l.walk.block.now))))
      (cost_of l.before.hosts.now (walk_terms (seated_shape l.after) (Some l.statement) l.walk.weight l.second
      (gives_behind l.before.needs.now (Some l.statement) None (givens_of l.walk.block.now) l.place)
      (givens_of (drop l.place l.walk.block.now))))
      l.total;
  within : l.place ≤ length l.walk.block.now;
}
