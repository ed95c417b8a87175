use Rattle.std.proofs.Common.{◌≡◌, drop}
use Rattle.msg_cost.specs.Moves.{on, end_host}
use Rattle.msg_cost.specs.Tables.{IsRight}
use Rattle.msg_cost.specs.Views.{seated_shape, ids_of}
use Rattle.msg_cost.proofs.tokens.block_end.Given as goal

-- the walk of the block ends where that of what is left of it ends
abbrev pub invariant-loop-place : goal.invariant-loop-place
invariant-loop-place l =
    (end_host (seated_shape l.planned) (on l.fn.home) (ids_of l.block)
    ≡ end_host (seated_shape l.planned) l.spot (ids_of (drop l.place l.block)))
    × IsRight (seated_shape l.planned) l.block l.place l.trust
