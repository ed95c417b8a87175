use Rattle.jif_tree.specs.Trees.{expr_tree}
use Rattle.jif_tree.specs.Sizes.{expr_nodes}
use Rattle.split_rules.proofs.operands.+add_reads.Given as goal

-- the nodes of what is left
abbrev pub decreases-add_reads : goal.decreases-add_reads
decreases-add_reads l = expr_nodes (expr_tree l.expr.now)
