use Rattle.need_labels.proofs.Exprs.{no_exprs, next_expr}
use Rattle.need_labels.proofs.expressions.add_exprs.Goals as goal

pub loop-expr-init : goal.loop-expr-init
loop-expr-init c = no_exprs c.args.place.now c.args.current.now c.args.reads.now

pub loop-expr-preserved : goal.loop-expr-preserved
loop-expr-preserved c = next_expr c.args.exprs.now c.loop-expr.expr-index _ c.loop-expr-test.true c.expr-item.is
    c.loop-expr.invariant
    c.in_ok-add_expr.ensures.adds
