use Rattle.std.proofs.Common.{[], ◌∷◌}
use Rattle.std.proofs.lemmas.Result.{on_err_weaker}
use Rattle.js_base.specs.Status.{status_name}
use Rattle.js_base.specs.declared.text.TheConstants.{LINE_FEED}
use Rattle.node_engine.proofs.Fronts.{front_behind, front_first, on_error}
use Rattle.node_engine.proofs.saying.say_status.Goals as goal

pub returns-in_err-put-clause-err : goal.returns-in_err-put-clause-err
returns-in_err-put-clause-err g c =
    on_error c.from_residual.result
    (front_first (status_name c.args.status) (LINE_FEED ∷ []) _ _
    (rw (c.as_bytes.ensures.value, c.name.ensures) at c.in_err-put.ensures.err))

pub returns-clause-err : goal.returns-clause-err
returns-clause-err g c =
    on_err_weaker c.put-2.result
    (λ front. front_behind (status_name c.args.status) (LINE_FEED ∷ []) _ _ _
    (rw (c.as_bytes.ensures.value, c.name.ensures) at c.in_ok-put.ensures.ok) front)
    (rw c.as_bytes-2.ensures.value at c.put-2.ensures.err)
