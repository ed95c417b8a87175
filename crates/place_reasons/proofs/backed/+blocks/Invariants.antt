use Rattle.std.proofs.Common.{◌≡◌, ◌+◌, ◌*◌, drop}
use Rattle.jif_tree.specs.Trees.{block_tree, done, tree_before}
use Rattle.jif_tree.proofs.StatementCounts.{count_in}
use Rattle.place_reasons.specs.Firsts.{or_first}
use Rattle.place_reasons.specs.Reasons.{block_backed}
use Rattle.place_reasons.specs.Search.{site_is}
use Rattle.place_reasons.proofs.backed.+blocks.Given as goal

-- what was found, and otherwise what is left changes or releases, is what all do
abbrev pub invariant-block_backed-loop-statement : goal.invariant-block_backed-loop-statement
invariant-block_backed-loop-statement l =
    or_first l.found (block_backed (site_is l.site) l.principal (block_tree (drop l.statement-index l.statements)))
    ≡ or_first l.fn.found (block_backed (site_is l.site) l.principal (block_tree l.statements))

abbrev pub decreases-block_backed : goal.decreases-block_backed
decreases-block_backed l = 2 * count_in (block_tree l.statements.now) + 1

abbrev pub decreases-statement_backed : goal.decreases-statement_backed
decreases-statement_backed l = 2 * count_in (tree_before l.statement.now done)
