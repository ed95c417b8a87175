use Rattle.std.proofs.Common.{◌≡◌, take}
use Rattle.msg_cost.specs.Kept.{AreRecent}
use Rattle.msg_cost.specs.Pieces.{others_cost}
use Rattle.msg_cost.specs.PieceViews.{all_pieces}
use Rattle.msg_cost.specs.Views.{seated_shape, capped}
use Rattle.msg_cost.proofs.change.row_cost.Given as goal

-- the total is what the pieces so far cost, but for walks, and what is kept of readers is so
abbrev pub invariant-loop-piece : goal.invariant-loop-piece
invariant-loop-piece l = record {
  total : l.total ≡ capped (others_cost (seated_shape l.planned) l.moved (all_pieces (take l.piece-index l.row)));
  recent : AreRecent (seated_shape l.planned) l.moved l.recent;
}
