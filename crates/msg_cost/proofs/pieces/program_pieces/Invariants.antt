use Rattle.std.proofs.Common.{◌≡◌, ◌++◌, map, drop}
use Rattle.std.specs.List.{flat_map}
use Rattle.jif_tree.specs.Trees.{method_tree, program_tree}
use Rattle.msg_cost.specs.Pieces.{method_pieces}
use Rattle.msg_cost.specs.PieceViews.{all_pieces}
use Rattle.msg_cost.specs.Tables.{HaveTables}
use Rattle.msg_cost.proofs.pieces.program_pieces.Given as goal

-- the pieces so far, and those of the methods that are left, are all
abbrev pub invariant-loop-method : goal.invariant-loop-method
invariant-loop-method l = record {
  pieces : all_pieces l.pieces.items
      ++ flat_map (method_pieces (program_tree l.program)) (map method_tree (drop l.method-index l.method-items))
      ≡ flat_map (method_pieces (program_tree l.program)) (map method_tree l.method-items);
  tables : HaveTables l.needs l.hosts l.pieces.items;
}
