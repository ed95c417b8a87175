-- The lines of the statements in the blocks of a statement.
use Rattle.std.specs.Prelude.{ℕ, List, [], ◌++◌}
use Rattle.jif_tree.specs.declared.program.StmtKind.{StmtKind}
use Rattle.jif_tree.specs.declared.program.StmtKind as kind
use Rattle.jif_tree.specs.Trees.{row_tree}
use Rattle.jif_tree.specs.Numbering.{block_lines}

abbrev pub kind_lines : StmtKind → List ℕ
kind_lines (kind.If' guard m first n second) = block_lines (row_tree first) ++ block_lines (row_tree second)
kind_lines (kind.While' guard m body) = block_lines (row_tree body)
kind_lines other = []
