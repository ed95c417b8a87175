use Rattle.std.proofs.Common.{drop, ◌+◌, ◌*◌}
use Rattle.jif_tree.specs.Trees.{block_tree, done, tree_before}
use Rattle.jif_tree.proofs.StatementCounts.{count_in}
use Rattle.label_reasons.specs.Search.{Walks}
use Rattle.label_reasons.proofs.search.+blocks.Given as goal

-- the statements so far are looked at
abbrev pub invariant-search_block-loop-statement : goal.invariant-search_block-loop-statement
invariant-search_block-loop-statement l =
    Walks l.place l.stand l.fn.known l.fn.found (block_tree l.statements) l.known l.found
    (block_tree (drop l.statement-index l.statements))

abbrev pub decreases-search_block : goal.decreases-search_block
decreases-search_block l = 2 * count_in (block_tree l.statements.now) + 1

abbrev pub decreases-search_statement : goal.decreases-search_statement
decreases-search_statement l = 2 * count_in (tree_before l.statement.now done)
