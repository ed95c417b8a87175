use Rattle.std.proofs.Common.{◌≡◌}
use Rattle.msg_cost.specs.Moves.{on}
use Rattle.msg_cost.specs.Tables.{IsRight}
use Rattle.msg_cost.specs.Views.{seated_shape, ids_of}
use Rattle.msg_cost.specs.Walks.{spot_behind}
use Rattle.msg_cost.proofs.carried.spot_at.Given as goal

-- the walk stands at the spot
abbrev pub invariant-loop-place : goal.invariant-loop-place
invariant-loop-place l = record {
  spot : l.spot ≡ spot_behind (seated_shape l.planned) (on l.fn.home) (ids_of l.block) l.place;
  right : IsRight (seated_shape l.planned) l.block l.place l.trust;
}
