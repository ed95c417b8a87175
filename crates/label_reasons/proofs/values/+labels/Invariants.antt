use Rattle.jif_tree.specs.Trees.{expr_tree}
use Rattle.jif_tree.specs.Sizes.{expr_nodes}
use Rattle.label_reasons.proofs.values.+labels.Given as goal

abbrev pub decreases-expr_label : goal.decreases-expr_label
decreases-expr_label l = expr_nodes (expr_tree l.expr.now)
