use Rattle.plan_picture.proofs.Walks.{from_ok}
use Rattle.plan_picture.proofs.boxes.push_frame.Goals as goal

pub returns : goal.returns
returns c =
    rw c.saturating_sub-height.ensures at
    (rw c.saturating_sub-width.ensures at
    (from_ok c.write.result c.in_ok-map_err.ensures.variant c.write.ensures.bytes))
