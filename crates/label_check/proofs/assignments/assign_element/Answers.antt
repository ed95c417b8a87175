use Rattle.label_check.proofs.Asked.{asked_before, asked_behind, asked_met}
use Rattle.label_check.proofs.Exits.{handed_on, then_met, then_refused}
use Rattle.label_check.proofs.assignments.assign_element.Goals as goal

pub returns-in_err-at-clause-err : goal.returns-in_err-at-clause-err
returns-in_err-at-clause-err c =
    handed_on c.from_residual.result c.from_residual.ensures
    (asked_before c.args.statement _ _ (asked_before c.args.statement _ _ c.in_err-at.ensures.err))

pub returns-in_err-from-clause-err : goal.returns-in_err-from-clause-err
returns-in_err-from-clause-err c =
    handed_on c.from_residual-in_err-from.result c.from_residual-in_err-from.ensures
    (asked_before c.args.statement _ _
    (asked_behind c.args.statement _ _ c.in_ok-at.ensures.ok c.in_err-from.ensures.err))

pub returns-clause-ok : goal.returns-clause-ok
returns-clause-ok c =
    then_met c.args.statement _ _ c.ask_flow.result
    (asked_met c.args.statement _ _ c.in_ok-at.ensures.ok c.in_ok-from.ensures.ok)
    (rw (c.join.ensures.value, c.in_ok-at.ensures.label, c.in_ok-from.ensures.label, c.field_label.ensures)
    at c.ask_flow.ensures.ok)

pub returns-clause-err : goal.returns-clause-err
returns-clause-err c =
    then_refused c.args.statement _ _ c.ask_flow.result
    (asked_met c.args.statement _ _ c.in_ok-at.ensures.ok c.in_ok-from.ensures.ok)
    (rw (c.join.ensures.value, c.in_ok-at.ensures.label, c.in_ok-from.ensures.label, c.field_label.ensures)
    at c.ask_flow.ensures.err)
