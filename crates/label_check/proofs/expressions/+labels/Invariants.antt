use Rattle.std.proofs.Common.{◌+◌, ◌*◌}
use Rattle.jif_tree.specs.Trees.{expr_tree}
use Rattle.jif_tree.specs.Sizes.{expr_nodes}
use Rattle.label_check.proofs.expressions.+labels.Given as goal

-- The nodes of what is left, with the calls for one expression in their order.
abbrev pub decreases-expr_label : goal.decreases-expr_label
decreases-expr_label l = 2 * expr_nodes (expr_tree l.expr.now)

abbrev pub decreases-element_label : goal.decreases-element_label
decreases-element_label l = 2 * expr_nodes (expr_tree l.index.now) + 1

abbrev pub decreases-binary_label : goal.decreases-binary_label
decreases-binary_label l = 2 * (expr_nodes (expr_tree l.left.now) + expr_nodes (expr_tree l.right.now)) + 1

abbrev pub decreases-release_label : goal.decreases-release_label
decreases-release_label l = 2 * expr_nodes (expr_tree l.operand.now) + 1

abbrev pub decreases-endorsement_label : goal.decreases-endorsement_label
decreases-endorsement_label l = 2 * expr_nodes (expr_tree l.operand.now) + 1
