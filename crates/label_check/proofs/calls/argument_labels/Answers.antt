use Rattle.std.proofs.Common.{arith}
use Rattle.label_check.proofs.Arguments.{arg_refused}
use Rattle.label_check.proofs.Exits.{handed_on}
use Rattle.label_check.proofs.calls.argument_labels.Goals as goal

pub returns-in_err-expr_label-clause-err : goal.returns-in_err-expr_label-clause-err
returns-in_err-expr_label-clause-err c =
    handed_on c.from_residual.result c.from_residual.ensures
    (arg_refused c.args.statement _ c.args.args.now c.loop-arg.arg-index c.arg-item.result (omega arith) c.arg-item.is
    c.loop-arg.invariant.met c.in_err-expr_label.ensures.err)
