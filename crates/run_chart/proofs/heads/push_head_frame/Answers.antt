use Rattle.run_chart.proofs.Walks.{from_ok}
use Rattle.run_chart.proofs.heads.push_head_frame.Goals as goal

pub returns : goal.returns
returns c =
    rw c.saturating_sub-inner.ensures at
    (from_ok c.write.result c.in_ok-map_err.ensures.variant c.write.ensures.bytes)
