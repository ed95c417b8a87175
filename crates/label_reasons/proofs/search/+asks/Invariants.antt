use Rattle.jif_tree.specs.Trees.{expr_tree}
use Rattle.jif_tree.specs.Sizes.{expr_nodes}
use Rattle.label_reasons.proofs.search.+asks.Given as goal

abbrev pub decreases-search_expr : goal.decreases-search_expr
decreases-search_expr l = expr_nodes (expr_tree l.expr.now)
