use Rattle.label_check.proofs.Asked.{asked_before, asked_behind}
use Rattle.label_check.proofs.Exits.{handed_on}
use Rattle.label_check.proofs.guards.enter_loop.Goals as goal

pub returns-in_err-from-clause-err : goal.returns-in_err-from-clause-err
returns-in_err-from-clause-err c =
    handed_on c.from_residual.result c.from_residual.ensures
    (asked_before c.args.statement _ _ c.in_err-from.ensures.err)

pub returns-in_err-expr_label-clause-err : goal.returns-in_err-expr_label-clause-err
returns-in_err-expr_label-clause-err c =
    handed_on c.from_residual-in_err-expr_label.result c.from_residual-in_err-expr_label.ensures
    (asked_behind c.args.statement _ _ c.in_ok-from.ensures.ok
    (rw (c.join-inside.ensures.value, c.in_ok-from.ensures.label) at c.in_err-expr_label.ensures.err))
