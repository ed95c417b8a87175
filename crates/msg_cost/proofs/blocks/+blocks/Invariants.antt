use Rattle.std.proofs.Common.{drop, ◌+◌, ◌*◌}
use Rattle.jif_tree.specs.Trees.{block_tree, done, tree_before}
use Rattle.jif_tree.proofs.StatementCounts.{count_in}
use Rattle.msg_cost.specs.Moves.{on}
use Rattle.msg_cost.specs.Terms.{block_terms}
use Rattle.msg_cost.specs.Tables.{IsRight}
use Rattle.msg_cost.specs.Views.{seated_shape}
use Rattle.msg_cost.specs.Walks.{CostsWith}
use Rattle.msg_cost.proofs.Walks.{pending_terms}
use Rattle.msg_cost.proofs.blocks.+blocks.Given as goal

-- the total counts the statements so far
abbrev pub invariant-block_cost-loop-place : goal.invariant-block_cost-loop-place
invariant-block_cost-loop-place l =
    CostsWith l.planned.hosts.now
    (block_terms (seated_shape l.planned) l.weight (on l.fn.home) (block_tree l.block)) l.total
    (pending_terms (seated_shape l.planned) l.weight l.spot l.left (block_tree (drop l.place l.block)))
    × IsRight (seated_shape l.planned) l.block l.place l.trust

abbrev pub decreases-block_cost : goal.decreases-block_cost
decreases-block_cost l = 3 * count_in (block_tree l.block.now) + 1

abbrev pub decreases-nested_cost : goal.decreases-nested_cost
decreases-nested_cost l = 3 * count_in (block_tree l.block.now) + 2

abbrev pub decreases-statement_cost : goal.decreases-statement_cost
decreases-statement_cost l = 3 * count_in (tree_before l.statement.now done)
