use Rattle.plan_picture.proofs.Walks.{from_ok}
use Rattle.plan_picture.proofs.paths.push_end.Goals as goal

pub returns : goal.returns
returns c =
    rw c.eight-back.ensures at (from_ok c.writeln.result c.in_ok-map_err.ensures.variant c.writeln.ensures.bytes)
