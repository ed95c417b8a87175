-- What is printed of a block, statement by statement.
use Rattle.std.specs.Prelude.{◌≡◌, ℕ, List, ◌++◌}
use Rattle.jif_tree.specs.Trees.{BlockTree}
use Rattle.jif_parse.specs.PrintedNames.{Naming}
use Rattle.jif_parse.specs.PrintedProgram.{block_text, seen_behind}

-- the text of a block begins with this text, and goes on with that of those of its statements that are left
pub record PrintsBefore (naming : Naming) (seen : ℕ) (block : BlockTree) (text : List ℕ) (after : ℕ)
    (left : BlockTree) : Type 0 where
  pub same_text : block_text naming seen block ≡ text ++ block_text naming after left
  pub same_seen : seen_behind seen block ≡ seen_behind after left
