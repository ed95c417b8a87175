-- The statements in the blocks of a statement that release something.
use Rattle.std.specs.Prelude.{ℕ, List, [], ◌++◌}
use Rattle.jif_tree.specs.declared.program.StmtKind.{StmtKind}
use Rattle.jif_tree.specs.declared.program.StmtKind as kind
use Rattle.jif_tree.specs.Trees.{row_tree}
use Rattle.releasing_statements.specs.Releases.{block_releases}

abbrev pub kind_releases : StmtKind → List ℕ
kind_releases (kind.If' guard m first n second) = block_releases (row_tree first) ++ block_releases (row_tree second)
kind_releases (kind.While' guard m body) = block_releases (row_tree body)
kind_releases other = []
