use Rattle.std.specs.String.{string_bytes}
use Rattle.plan_picture.specs.Picture.{lane_of, lanes_text}
use Rattle.plan_picture.proofs.Walks.{none_written, numbered_written}
use Rattle.plan_picture.proofs.picture.push_lanes.Goals as goal

pub loop-number-init : goal.loop-number-init
unfolding lanes_text
loop-number-init c = none_written (string_bytes c.args.text.now)

pub loop-number-preserved : goal.loop-number-preserved
unfolding lanes_text
loop-number-preserved c =
    numbered_written (lane_of c.args.columns.now c.args.top c.args.bottom) c.loop-number.number _ _ _
    c.loop-number.invariant (rw (c.left.ensures.value, c.width.ensures) at c.in_ok-push_lane.ensures)
