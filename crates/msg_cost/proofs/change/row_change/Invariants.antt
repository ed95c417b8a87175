use Rattle.std.proofs.Common.{take}
use Rattle.std.specs.Prelude.{Some}
use Rattle.msg_cost.specs.Pieces.{walks_cost}
use Rattle.msg_cost.specs.PieceViews.{all_pieces}
use Rattle.msg_cost.specs.Views.{seated_shape}
use Rattle.msg_cost.specs.Walks.{IsChange}
use Rattle.msg_cost.proofs.change.row_change.Given as goal

-- the total is the change of the walks so far
abbrev pub invariant-loop-piece : goal.invariant-loop-piece
invariant-loop-piece l =
    IsChange (walks_cost (seated_shape l.before) (Some l.statement) (all_pieces (take l.piece-index l.row)))
    (walks_cost (seated_shape l.after) (Some l.statement) (all_pieces (take l.piece-index l.row))) l.total
