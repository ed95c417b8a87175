use Rattle.jif_tree.specs.Trees.{expr_tree}
use Rattle.jif_tree.specs.Sizes.{expr_nodes}
use Rattle.label_reasons.proofs.values.+causes.Given as goal

abbrev pub decreases-expr_cause : goal.decreases-expr_cause
decreases-expr_cause l = expr_nodes (expr_tree l.expr.now)
