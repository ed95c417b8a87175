use Rattle.plan_picture.specs.Boxes.{head_of}
use Rattle.plan_picture.specs.Sheets.{sheet_shape}
use Rattle.plan_picture.proofs.Walks.{numbered_written}
use Rattle.plan_picture.proofs.boxes.push_heads.Goals as goal

pub loop-number-preserved : goal.loop-number-preserved
loop-number-preserved c =
    numbered_written (head_of (sheet_shape c.args.sheet.now) c.args.grid.now c.args.rows.now) c.loop-number.number _ _ _
    c.loop-number.invariant c.in_ok-push_head_of.ensures
