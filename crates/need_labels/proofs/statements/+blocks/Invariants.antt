use Rattle.std.proofs.Common.{take, ◌+◌, ◌*◌}
use Rattle.jif_tree.specs.Trees.{block_tree, done, tree_before}
use Rattle.jif_tree.proofs.StatementCounts.{count_in}
use Rattle.need_labels.specs.Needs.{block_uses}
use Rattle.need_labels.specs.Finding.{AddsUses, setting_at, labelled_at}
use Rattle.need_labels.proofs.statements.+blocks.Given as goal

-- the statements so far
abbrev pub invariant-add_block-loop-statement : goal.invariant-add_block-loop-statement
invariant-add_block-loop-statement l =
    AddsUses l.place.principals.now (labelled_at l.place) l.fn.found
    (block_uses (labelled_at l.place) (setting_at l.place) (block_tree (take l.statement-index l.statements)))
    l.found l.backing

abbrev pub decreases-add_block : goal.decreases-add_block
decreases-add_block l = 2 * count_in (block_tree l.statements.now) + 1

abbrev pub decreases-add_statement : goal.decreases-add_statement
decreases-add_statement l = 2 * count_in (tree_before l.statement.now done)
