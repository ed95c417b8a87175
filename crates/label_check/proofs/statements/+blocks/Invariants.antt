use Rattle.std.proofs.Common.{drop, ◌+◌, ◌*◌}
use Rattle.jif_tree.specs.Trees.{block_tree, done, tree_before}
use Rattle.jif_tree.proofs.StatementCounts.{count_in}
use Rattle.label_check.specs.Places.{PassesTo}
use Rattle.label_check.proofs.statements.+blocks.Given as goal

-- the statements so far are passed
abbrev pub invariant-check_block-loop-statement : goal.invariant-check_block-loop-statement
invariant-check_block-loop-statement l =
    PassesTo l.place l.pc l.fn.found (block_tree l.statements) l.found
    (block_tree (drop l.statement-index l.statements))

abbrev pub decreases-check_block : goal.decreases-check_block
decreases-check_block l = 2 * count_in (block_tree l.statements.now) + 1

abbrev pub decreases-check_statement : goal.decreases-check_statement
decreases-check_statement l = 2 * count_in (tree_before l.statement.now done)
