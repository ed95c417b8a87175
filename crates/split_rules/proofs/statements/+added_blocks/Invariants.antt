use Rattle.std.proofs.Common.{◌≡◌, ◌++◌, ◌+◌, ◌*◌, drop, map}
use Rattle.jif_tree.specs.Trees.{block_tree, done, tree_before}
use Rattle.jif_tree.proofs.StatementCounts.{count_in}
use Rattle.split_rules.specs.Positions.{all_statements}
use Rattle.split_rules.specs.ReleaseRows.{shown}
use Rattle.split_rules.proofs.statements.+added_blocks.Given as goal

-- the statements so far with those that are left
abbrev pub invariant-add_block-loop-statement : goal.invariant-add_block-loop-statement
invariant-add_block-loop-statement l =
    map shown l.statements.items ++ all_statements (block_tree (drop l.statement-index l.block))
    ≡ map shown l.fn.statements.items ++ all_statements (block_tree l.block)

abbrev pub decreases-add_block : goal.decreases-add_block
decreases-add_block l = 2 * count_in (block_tree l.block.now) + 1

abbrev pub decreases-add_statement : goal.decreases-add_statement
decreases-add_statement l = 2 * count_in (tree_before l.statement.now done)
