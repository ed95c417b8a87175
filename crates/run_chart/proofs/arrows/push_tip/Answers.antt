use Rattle.run_chart.proofs.Walks.{from_ok}
use Rattle.run_chart.proofs.arrows.push_tip.Goals as goal

pub returns : goal.returns
returns c =
    rw c.eight-back.ensures at (from_ok c.write.result c.in_ok-map_err.ensures.variant c.write.ensures.bytes)
