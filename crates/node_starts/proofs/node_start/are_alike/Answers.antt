use Rattle.std.proofs.Common.{arith}
use Rattle.node_starts.specs.NodeSources.{named_host}
use Rattle.node_starts.proofs.Rows.{same_more}
use Rattle.node_starts.proofs.node_start.are_alike.Goals as goal

pub loop-place-preserved : goal.loop-place-preserved
loop-place-preserved c =
    same_more named_host c.args.rows.now c.args.hosts.now c.loop-place.place c.index-rows-place.result
    c.index-hosts-place.result (omega arith) c.loop-place-test.true c.index-rows-place.is c.index-hosts-place.is
    (c.is_alike.ensures.0 c.if-not-is_alike.false) c.loop-place.invariant
