use Rattle.jif_tree.specs.Trees.{expr_tree}
use Rattle.jif_tree.specs.Sizes.{expr_nodes}
use Rattle.split_rules.proofs.expressions.+add_nodes.Given as goal

-- the nodes of what is left
abbrev pub decreases-add_nodes : goal.decreases-add_nodes
decreases-add_nodes l = expr_nodes (expr_tree l.expr.now)
