use Rattle.std.proofs.Common.{◌+◌, ◌*◌}
use Rattle.jif_tree.specs.Trees.{expr_tree}
use Rattle.jif_tree.specs.Sizes.{expr_nodes}
use Rattle.place_reasons.proofs.uses.+uses.Given as goal

abbrev pub decreases-used_inside : goal.decreases-used_inside
decreases-used_inside l = 2 * expr_nodes (expr_tree l.expr.now)

abbrev pub decreases-used_in : goal.decreases-used_in
decreases-used_in l = 2 * expr_nodes (expr_tree l.expr.now) + 1
