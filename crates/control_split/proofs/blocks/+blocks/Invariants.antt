use Rattle.std.proofs.Common.{◌≡◌, List, ◌∷◌, drop, ◌+◌, ◌*◌}
use Rattle.js_base.specs.declared.ids.StmtId.{StmtId}
use Rattle.jif_tree.specs.Trees.{block_tree, done, tree_before}
use Rattle.jif_tree.proofs.StatementCounts.{count_in}
use Rattle.msg_cost.specs.Kept.{AreTrustedTo}
use Rattle.msg_cost.specs.Moves.{next_spot}
use Rattle.msg_cost.specs.Views.{ids_of}
use Rattle.split_rules.specs.Walk.{lane_on, block_emissions}
use Rattle.control_split.specs.Trace.{traced}
use Rattle.control_split.specs.Views.{walked_of, planned_in, around_of, lane_of}
use Rattle.control_split.proofs.blocks.+blocks.Given as goal

-- What is left gives what all statements gave from the start, and it is known where the next statement runs, if there
-- is one.
abbrev pub invariant-block-loop-place : goal.invariant-block-loop-place
invariant-block-loop-place l =
    (traced l.trace (block_emissions (walked_of l.walk) (around_of l.around) l.trace.counts (lane_of l.lane)
    (block_tree (drop l.place l.block)))
    ≡ traced l.fn.trace (block_emissions (walked_of l.walk) (around_of l.around) l.fn.trace.counts
    (lane_on l.fn.home) (block_tree l.block)))
    × AreTrustedTo (planned_in l.walk.split) l.block (l.place + 1) l.noted
    × ((statement : StmtId) (others : List StmtId) → ids_of (drop l.place l.block) ≡ statement ∷ others →
    l.next ≡ next_spot (planned_in l.walk.split) l.lane.spot statement others)

abbrev pub decreases-block : goal.decreases-block
decreases-block l = 3 * count_in (block_tree l.block.now) + 1

abbrev pub decreases-statement : goal.decreases-statement
decreases-statement l = 3 * count_in (tree_before l.statement.now done) + 0

abbrev pub decreases-branch : goal.decreases-branch
decreases-branch l = 3 * (count_in (block_tree l.yes.now) + count_in (block_tree l.no.now)) + 2

abbrev pub decreases-repeat : goal.decreases-repeat
decreases-repeat l = 3 * count_in (block_tree l.body.now) + 2
