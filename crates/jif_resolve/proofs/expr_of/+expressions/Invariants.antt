use Rattle.std.proofs.Common.{◌+◌, ◌*◌}
use Rattle.jif_grammar.specs.DraftShapes.{expr_shape}
use Rattle.jif_resolve.specs.Counts.{nodes_in}
use Rattle.jif_resolve.proofs.expr_of.+expressions.Given as goal

-- The nodes that are left, with the calls for one expression in their order.
abbrev pub decreases-expr_of : goal.decreases-expr_of
decreases-expr_of l = 3 * nodes_in (expr_shape l.draft.now)

abbrev pub decreases-boxed_of : goal.decreases-boxed_of
decreases-boxed_of l = 3 * nodes_in (expr_shape l.draft.now) + 1

abbrev pub decreases-element_of : goal.decreases-element_of
decreases-element_of l = 3 * nodes_in (expr_shape l.index.now) + 2

abbrev pub decreases-complement_of : goal.decreases-complement_of
decreases-complement_of l = 3 * nodes_in (expr_shape l.operand.now) + 2

abbrev pub decreases-negation_of : goal.decreases-negation_of
decreases-negation_of l = 3 * nodes_in (expr_shape l.operand.now) + 2

abbrev pub decreases-binary_of : goal.decreases-binary_of
decreases-binary_of l = 3 * (nodes_in (expr_shape l.left.now) + nodes_in (expr_shape l.right.now)) + 2

abbrev pub decreases-release_of : goal.decreases-release_of
decreases-release_of l = 3 * nodes_in (expr_shape l.operand.now) + 2

abbrev pub decreases-endorsement_of : goal.decreases-endorsement_of
decreases-endorsement_of l = 3 * nodes_in (expr_shape l.operand.now) + 2
