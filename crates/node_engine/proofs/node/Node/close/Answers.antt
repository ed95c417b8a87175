use Rattle.node_engine.proofs.Breaking.{handed}
use Rattle.node_engine.proofs.Closing.{all_told, goes_on_telling, stops_telling}
use Rattle.node_engine.proofs.Ready.{same_host_later}
use Rattle.node_engine.proofs.node.Node.close.Goals as goal

pub returns-in_err-tell-clause-err : goal.returns-in_err-tell-clause-err
returns-in_err-tell-clause-err g c =
    rw (← c.hosts-count.ensures.hosts)
    (handed _ c.in_err-tell.field-0.0 c.from_residual.result c.from_residual.ensures
    (stops_telling _ _ c.loop-number.number _ _ _ _ _ _ c.loop-number-test.true c.loop-number.invariant.completes
    (rw c.loop-number.invariant.same.node.me at c.in_err-tell.ensures.err)))

pub loop-number-preserved : goal.loop-number-preserved
loop-number-preserved g c = record {
  same = same_host_later _ _ _ c.loop-number.invariant.same c.in_ok-tell.ensures.same;
  completes = goes_on_telling _ _ c.loop-number.number _ _ _ _ _ _ c.loop-number-test.true
      c.loop-number.invariant.completes (rw c.loop-number.invariant.same.node.me at c.in_ok-tell.ensures.ok)
      (rw c.loop-number.invariant.same.node.me at c.in_ok-tell.ensures.raised);
}

pub returns-clause-ok : goal.returns-clause-ok
returns-clause-ok g c =
    rw (← c.hosts-count.ensures.hosts)
    (all_told _ _ c.loop-number.number _ _ _ _ c.loop-number-test.false c.loop-number.invariant.completes)
