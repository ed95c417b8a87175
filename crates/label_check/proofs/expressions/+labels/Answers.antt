use Rattle.label_check.proofs.Asked.{asked_before, asked_behind}
use Rattle.label_check.proofs.Exits.{handed_on}
use Rattle.label_check.proofs.expressions.+labels.Goals as goal

pub binary_label-returns-in_err-left-clause-err : goal.binary_label-returns-in_err-left-clause-err
binary_label-returns-in_err-left-clause-err t c = λ operator.
    handed_on c.from_residual.result c.from_residual.ensures
    (asked_before c.args.statement _ _ c.in_err-left.ensures.err)

pub binary_label-returns-in_err-right-clause-err : goal.binary_label-returns-in_err-right-clause-err
binary_label-returns-in_err-right-clause-err t c = λ operator.
    handed_on c.from_residual-in_err-right.result c.from_residual-in_err-right.ensures
    (asked_behind c.args.statement _ _ c.in_ok-left.ensures.ok c.in_err-right.ensures.err)

pub release_label-returns-in_err-from-clause-err : goal.release_label-returns-in_err-from-clause-err
release_label-returns-in_err-from-clause-err t c =
    handed_on c.from_residual.result c.from_residual.ensures
    (asked_before c.args.statement _ _ c.in_err-from.ensures.err)

pub release_label-returns-in_err-ask_release-clause-err : goal.release_label-returns-in_err-ask_release-clause-err
release_label-returns-in_err-ask_release-clause-err t c =
    handed_on c.from_residual-in_err-ask_release.result c.from_residual-in_err-ask_release.ensures
    (asked_behind c.args.statement _ _ c.in_ok-from.ensures.ok
    (rw (c.deref.ensures.value, c.in_ok-from.ensures.label) at c.in_err-ask_release.ensures.err))

pub endorsement_label-returns-in_err-from-clause-err : goal.endorsement_label-returns-in_err-from-clause-err
endorsement_label-returns-in_err-from-clause-err t c =
    handed_on c.from_residual.result c.from_residual.ensures
    (asked_before c.args.statement _ _ c.in_err-from.ensures.err)

pub endorsement_label-returns-in_err-ask_endorse-clause-err :
    goal.endorsement_label-returns-in_err-ask_endorse-clause-err
endorsement_label-returns-in_err-ask_endorse-clause-err t c =
    handed_on c.from_residual-in_err-ask_endorse.result c.from_residual-in_err-ask_endorse.ensures
    (asked_behind c.args.statement _ _ c.in_ok-from.ensures.ok
    (rw (c.deref.ensures.value, c.in_ok-from.ensures.label) at c.in_err-ask_endorse.ensures.err))

pub expr_label-returns-in-Binary-clause-label : goal.expr_label-returns-in-Binary-clause-label
expr_label-returns-in-Binary-clause-label t c =
    rw (c.in-Binary.is, ← c.deref-in-Binary.ensures, ← c.deref-in-Binary-2.ensures)
    (c.binary_label.ensures.label c.in-Binary.field-0)

pub expr_label-returns-in-Binary-clause-ok : goal.expr_label-returns-in-Binary-clause-ok
expr_label-returns-in-Binary-clause-ok t c =
    rw (c.in-Binary.is, ← c.deref-in-Binary.ensures, ← c.deref-in-Binary-2.ensures)
    (c.binary_label.ensures.ok c.in-Binary.field-0)

pub expr_label-returns-in-Binary-clause-err : goal.expr_label-returns-in-Binary-clause-err
expr_label-returns-in-Binary-clause-err t c =
    rw (c.in-Binary.is, ← c.deref-in-Binary.ensures, ← c.deref-in-Binary-2.ensures)
    (c.binary_label.ensures.err c.in-Binary.field-0)
