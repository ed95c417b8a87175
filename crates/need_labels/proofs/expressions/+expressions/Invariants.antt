use Rattle.std.proofs.Common.{◌+◌, ◌*◌}
use Rattle.jif_tree.specs.Trees.{expr_tree}
use Rattle.jif_tree.specs.Sizes.{expr_nodes}
use Rattle.need_labels.proofs.expressions.+expressions.Given as goal

-- The nodes of what is left, with the calls for one expression in their order.
abbrev pub decreases-add_expr : goal.decreases-add_expr
decreases-add_expr l = 2 * expr_nodes (expr_tree l.expr.now)

abbrev pub decreases-add_element : goal.decreases-add_element
decreases-add_element l = 2 * expr_nodes (expr_tree l.index.now) + 1

abbrev pub decreases-add_operand : goal.decreases-add_operand
decreases-add_operand l = 2 * expr_nodes (expr_tree l.operand.now) + 1

abbrev pub decreases-add_binary : goal.decreases-add_binary
decreases-add_binary l = 2 * (expr_nodes (expr_tree l.left.now) + expr_nodes (expr_tree l.right.now)) + 1

abbrev pub decreases-add_release : goal.decreases-add_release
decreases-add_release l = 2 * expr_nodes (expr_tree l.operand.now) + 1

abbrev pub decreases-add_endorsement : goal.decreases-add_endorsement
decreases-add_endorsement l = 2 * expr_nodes (expr_tree l.operand.now) + 1
