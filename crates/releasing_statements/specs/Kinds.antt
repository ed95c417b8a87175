-- The expressions of a statement, and the marks of the statements in its blocks.
use Rattle.std.specs.Prelude.{Bool, List, [], ◌∷◌, ◌++◌, map}
use Rattle.jif_tree.specs.declared.program.StmtKind.{StmtKind}
use Rattle.jif_tree.specs.declared.program.StmtKind as kind
use Rattle.jif_tree.specs.Trees.{ExprTree, expr_tree, row_tree}
use Rattle.releasing_statements.specs.Marks.{block_marks}

-- those of its own, which are not in its blocks
abbrev pub own_exprs : StmtKind → List ExprTree
own_exprs (kind.Let x value) = expr_tree value ∷ []
own_exprs (kind.SetField field value) = expr_tree value ∷ []
own_exprs (kind.SetElement field index value) = expr_tree index ∷ expr_tree value ∷ []
own_exprs (kind.If' guard m first n second) = expr_tree guard ∷ []
own_exprs (kind.While' guard m body) = expr_tree guard ∷ []
own_exprs (kind.Call site called args into) = map expr_tree args.items
own_exprs (kind.Return value) = expr_tree value ∷ []

abbrev pub kind_marks : StmtKind → List Bool
kind_marks (kind.If' guard m first n second) = block_marks (row_tree first) ++ block_marks (row_tree second)
kind_marks (kind.While' guard m body) = block_marks (row_tree body)
kind_marks other = []
