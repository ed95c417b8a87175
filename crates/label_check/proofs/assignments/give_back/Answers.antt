use Rattle.label_check.proofs.Asked.{asked_before}
use Rattle.label_check.proofs.Exits.{handed_on, then_met, then_refused}
use Rattle.label_check.proofs.assignments.give_back.Goals as goal

pub returns-in_err-from-clause-err : goal.returns-in_err-from-clause-err
returns-in_err-from-clause-err c =
    handed_on c.from_residual.result c.from_residual.ensures
    (asked_before c.args.statement _ _ c.in_err-from.ensures.err)

pub returns-clause-ok : goal.returns-clause-ok
returns-clause-ok c =
    then_met c.args.statement _ _ c.return_flow.result c.in_ok-from.ensures.ok
    (rw c.in_ok-from.ensures.label at c.return_flow.ensures.ok)

pub returns-clause-err : goal.returns-clause-err
returns-clause-err c =
    then_refused c.args.statement _ _ c.return_flow.result c.in_ok-from.ensures.ok
    (rw c.in_ok-from.ensures.label at c.return_flow.ensures.err)
