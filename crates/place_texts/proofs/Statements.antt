-- The number and the line of a statement, as a part of a program.
use Rattle.std.proofs.Common.{◌≡◌, refl, sym, ap}
use Rattle.jif_tree.specs.declared.program.Stmt.{Stmt}
use Rattle.jif_tree.specs.declared.program.StmtKind.{StmtKind}
use Rattle.jif_tree.specs.declared.program.StmtKind as kind
use Rattle.jif_tree.specs.Trees.{Heading, BlockTree, MethodTree, statement_tree, tree_before, head_of}
use Rattle.place_reasons.specs.Reasons.{id_of}
use Rattle.place_texts.specs.Parts.{statement, block_line, line_of, number_of}

id_is : (what : StmtKind) (heading : Heading) (rest : BlockTree) → id_of (statement_tree what heading rest) ≡ heading.id
id_is (kind.Let x value) heading rest = refl
id_is (kind.SetField field value) heading rest = refl
id_is (kind.SetElement field index value) heading rest = refl
id_is (kind.If' guard m first n second) heading rest = refl
id_is (kind.While' guard m body) heading rest = refl
id_is (kind.Call site method args into) heading rest = refl
id_is (kind.Return value) heading rest = refl

line_is : (what : StmtKind) (heading : Heading) (rest : BlockTree) →
    block_line (statement_tree what heading rest) ≡ heading.line
line_is (kind.Let x value) heading rest = refl
line_is (kind.SetField field value) heading rest = refl
line_is (kind.SetElement field index value) heading rest = refl
line_is (kind.If' guard m first n second) heading rest = refl
line_is (kind.While' guard m body) heading rest = refl
line_is (kind.Call site method args into) heading rest = refl
line_is (kind.Return value) heading rest = refl

pub number_told : (method : MethodTree) (one : Stmt) (rest : BlockTree) →
    one.id.0 ≡ number_of (statement method (tree_before one rest))
number_told method one rest = sym (ap (λ id. id.0) (id_is one.kind (head_of one) rest))

pub line_told : (method : MethodTree) (one : Stmt) (rest : BlockTree) →
    one.line ≡ line_of (statement method (tree_before one rest))
line_told method one rest = sym (line_is one.kind (head_of one) rest)
