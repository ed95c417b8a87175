use Rattle.std.proofs.lemmas.Result.{on_ok_weaker, on_err_weaker}
use Rattle.node_engine.proofs.Fronts.{front_behind, front_first, on_error, takes_both}
use Rattle.node_engine.proofs.saying.say_end.Goals as goal

pub returns-in_err-say_status-clause-err : goal.returns-in_err-say_status-clause-err
returns-in_err-say_status-clause-err g c =
    on_error c.from_residual.result (front_first _ _ _ _ c.in_err-say_status.ensures.err)

pub returns-in-Some-clause-ok : goal.returns-in-Some-clause-ok
returns-in-Some-clause-ok g c =
    rw c.in-Some.is
    (on_ok_weaker c.say_refusal.result (λ takes. takes_both _ _ _ _ _ c.in_ok-say_status.ensures.ok takes)
    c.say_refusal.ensures.ok)

pub returns-in-Some-clause-err : goal.returns-in-Some-clause-err
returns-in-Some-clause-err g c =
    rw c.in-Some.is
    (on_err_weaker c.say_refusal.result (λ front. front_behind _ _ _ _ _ c.in_ok-say_status.ensures.ok front)
    c.say_refusal.ensures.err)
