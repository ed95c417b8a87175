use Rattle.std.proofs.Common.{◌≡◌, ◌++◌, map, drop}
use Rattle.jif_tree.specs.Trees.{expr_tree}
use Rattle.msg_cost.specs.Pieces.{argument_pieces}
use Rattle.msg_cost.specs.PieceViews.{all_pieces}
use Rattle.msg_cost.specs.Tables.{HaveTables}
use Rattle.msg_cost.proofs.pieces.add_arguments.Given as goal

-- the pieces so far, and those of the arguments that are left, are all
abbrev pub invariant-loop-arg : goal.invariant-loop-arg
invariant-loop-arg l = record {
  pieces : all_pieces l.pieces.items
      ++ argument_pieces l.weight l.statement l.method l.left (map expr_tree (drop l.arg-index l.args))
      ≡ all_pieces l.fn.pieces.items
      ++ argument_pieces l.weight l.statement l.method l.fn.params (map expr_tree l.args);
  tables : HaveTables l.needs l.hosts l.pieces.items;
}
