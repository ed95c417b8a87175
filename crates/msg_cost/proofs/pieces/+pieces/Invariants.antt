use Rattle.std.proofs.Common.{◌≡◌, ◌++◌, drop, ◌+◌, ◌*◌}
use Rattle.jif_tree.specs.Trees.{block_tree, done, tree_before, program_tree}
use Rattle.jif_tree.proofs.StatementCounts.{count_in}
use Rattle.msg_cost.specs.Pieces.{block_pieces}
use Rattle.msg_cost.specs.PieceViews.{givens_of, all_pieces}
use Rattle.msg_cost.specs.Tables.{HaveTables}
use Rattle.msg_cost.proofs.pieces.+pieces.Given as goal

-- the pieces so far, and those of the statements that are left, are all
abbrev pub invariant-add_block-loop-place : goal.invariant-add_block-loop-place
invariant-add_block-loop-place l = record {
  pieces : all_pieces l.pieces.items
      ++ block_pieces (program_tree l.program) l.walk.weight l.walk.home (givens_of l.walk.block.now) l.place
      (block_tree (drop l.place l.walk.block.now))
      ≡ all_pieces l.fn.pieces.items
      ++ block_pieces (program_tree l.program) l.walk.weight l.walk.home (givens_of l.walk.block.now) 0
      (block_tree l.walk.block.now);
  tables : HaveTables l.needs l.hosts l.pieces.items;
}

abbrev pub decreases-add_block : goal.decreases-add_block
decreases-add_block l = 3 * count_in (block_tree l.walk.now.block.now) + 1

abbrev pub decreases-add_nested : goal.decreases-add_nested
decreases-add_nested l = 3 * count_in (block_tree l.block.now) + 2

abbrev pub decreases-add_statement : goal.decreases-add_statement
decreases-add_statement l = 3 * count_in (tree_before l.statement.now done)
