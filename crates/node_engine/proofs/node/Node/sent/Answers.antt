use Rattle.std.proofs.lemmas.Result.{on_ok_weaker, IfErr-weaker}
use Rattle.node_engine.proofs.Sealing.{frame_does, frame_stops}
use Rattle.node_engine.proofs.node.Node.sent.Goals as goal

pub returns-in-Some-clause-ok : goal.returns-in-Some-clause-ok
returns-in-Some-clause-ok g c =
    let out = rw (c.in_ok-bytes.ensures.spelled, c.in-Some.is) at c.in_ok-bytes-2.ensures.ok in
    on_ok_weaker c.put_out.result
    (λ does. frame_does _ _ c.args.to _ _ _ _ _ c.in_ok-bytes-2.ensures.raised out does)
    (rw c.deref.ensures.value at c.put_out.ensures.ok)

pub returns-in-Some-clause-err : goal.returns-in-Some-clause-err
returns-in-Some-clause-err g c =
    let out = rw (c.in_ok-bytes.ensures.spelled, c.in-Some.is) at c.in_ok-bytes-2.ensures.ok in
    IfErr-weaker c.put_out.result _ _
    (λ error stops. frame_stops error _ _ c.args.to _ _ _ _ _ c.in_ok-bytes-2.ensures.raised out stops)
    (rw c.deref.ensures.value at c.put_out.ensures.err)
