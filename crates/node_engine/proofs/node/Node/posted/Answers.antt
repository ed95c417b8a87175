use Rattle.std.proofs.lemmas.Result.{on_ok_weaker, IfErr-weaker}
use Rattle.node_engine.specs.declared.node_error.NodeError.TheVariants as node_error
use Rattle.node_engine.proofs.Breaking.{all_done, handed, line_unput, stops_before, stops_behind}
use Rattle.node_engine.proofs.node.Node.posted.Goals as goal

pub returns-in_err-sent-clause-err : goal.returns-in_err-sent-clause-err
returns-in_err-sent-clause-err g c =
    handed _ c.in_err-sent.field-0.0 c.from_residual.result c.from_residual.ensures
    (stops_before _ _ _ _ _ c.in_err-sent.ensures.err)

pub returns-in_err-line-clause-err : goal.returns-in_err-line-clause-err
returns-in_err-line-clause-err g c =
    handed _ node_error.OutOfMemory c.from_residual-in_err-line.result c.from_residual-in_err-line.ensures
    (stops_behind _ _ _ _ _ _ c.in_ok-sent.ensures.ok (line_unput _ _))

pub returns-clause-ok : goal.returns-clause-ok
returns-clause-ok g c =
    on_ok_weaker c.noted.result (λ noted. all_done _ _ _ _ _ c.in_ok-sent.ensures.ok noted)
    (rw (c.deref.ensures, c.in_ok-line.ensures, c.in_ok-sent.ensures.same.node.code) at c.noted.ensures.ok)

pub returns-clause-err : goal.returns-clause-err
returns-clause-err g c =
    IfErr-weaker c.noted.result _ _ (λ error stops. stops_behind _ _ _ _ _ _ c.in_ok-sent.ensures.ok stops)
    (rw (c.deref.ensures, c.in_ok-line.ensures, c.in_ok-sent.ensures.same.node.code) at c.noted.ensures.err)
