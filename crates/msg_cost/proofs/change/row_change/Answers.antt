use Rattle.std.proofs.Common.{ap}
use Rattle.std.specs.Prelude.{Some}
use Rattle.msg_cost.specs.declared.walk_change.Change.{Change}
use Rattle.msg_cost.specs.Views.{seated_shape}
use Rattle.msg_cost.proofs.WalkChanges.{row_walked}
use Rattle.msg_cost.proofs.change.row_change.Goals as goal

pub loop-piece-preserved : goal.loop-piece-preserved
loop-piece-preserved c =
    row_walked (seated_shape c.args.before.now) (seated_shape c.args.after.now) (Some c.args.statement)
    c.args.row.now c.loop-piece.piece-index c.piece-item.result c.loop-piece.total c.piece_change.result _
    c.loop-piece-test.true c.piece-item.is c.loop-piece.invariant c.piece_change.ensures
    (ap (λ (change : Change). change.before) c.plus-total.ensures)
    (ap (λ (change : Change). change.after) c.plus-total.ensures)
