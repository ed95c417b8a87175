use Rattle.std.proofs.Common.{subst}
use Rattle.std.proofs.lemmas.Result.{on_ok_weaker, IfErr-weaker}
use Rattle.node_engine.specs.Told.{PartsAreDone, Stops, seen}
use Rattle.node_engine.specs.Units.{posting_parts}
use Rattle.node_engine.proofs.Breaking.{breaks_first, breaks_later, done_later, handed}
use Rattle.node_engine.proofs.node.Node.stepped.Goals as goal

pub returns-in_err-noted-clause-err : goal.returns-in_err-noted-clause-err
returns-in_err-noted-clause-err g c =
    handed _ c.in_err-noted.field-0.0 c.from_residual.result c.from_residual.ensures
    (breaks_first _ _ _ _ _ c.in_err-noted.ensures.err)

pub returns-in-Some-clause-ok : goal.returns-in-Some-clause-ok
returns-in-Some-clause-ok g c =
    let node = c.args.self.now in
    let same = c.in_ok-noted.ensures.same in
    let code = same.same.node.code in
    let me = same.same.node.me in
    rw c.in-Some.is
    (on_ok_weaker c.posted.result
    (λ does.
    done_later _ _ _ _ _ c.in_ok-noted.ensures.ok
    (subst (λ seals.
    PartsAreDone (posting_parts node.code.now node.me seals c.in-Some.to c.in-Some.message)
    (seen g.L.Links g.R.Sink c.noted.new.self) (seen g.L.Links g.R.Sink c.posted.new.self)) same.seals_is does))
    (rw (code, me) at c.posted.ensures.ok))

pub returns-in-Some-clause-err : goal.returns-in-Some-clause-err
returns-in-Some-clause-err g c =
    let node = c.args.self.now in
    let same = c.in_ok-noted.ensures.same in
    let code = same.same.node.code in
    let me = same.same.node.me in
    rw c.in-Some.is
    (IfErr-weaker c.posted.result _ _
    (λ error stops.
    breaks_later error _ _ _ _ _ c.in_ok-noted.ensures.ok
    (subst (λ seals.
    Stops error (posting_parts node.code.now node.me seals c.in-Some.to c.in-Some.message)
    (seen g.L.Links g.R.Sink c.noted.new.self) (seen g.L.Links g.R.Sink c.posted.new.self)) same.seals_is stops))
    (rw (code, me) at c.posted.ensures.err))
