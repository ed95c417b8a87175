use Rattle.jif_tree.specs.Trees.{expr_tree}
use Rattle.jif_tree.specs.Sizes.{expr_nodes}
use Rattle.split_rules.proofs.operands.+add_released.Given as goal

-- the nodes of what is left
abbrev pub decreases-add_released : goal.decreases-add_released
decreases-add_released l = expr_nodes (expr_tree l.expr.now)
