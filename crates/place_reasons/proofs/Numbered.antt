-- The number of a statement, its expressions, and what it releases.
use Rattle.std.proofs.Common.{◌≡◌, ℕ, true, List, refl, sym, ap}
use Rattle.std.specs.List.{list_any}
use Rattle.js_base.specs.declared.ids.StmtId.{StmtId}
use Rattle.jif_tree.specs.declared.program.Stmt.{Stmt}
use Rattle.jif_tree.specs.declared.program.StmtKind.{StmtKind}
use Rattle.jif_tree.specs.declared.program.StmtKind as kind
use Rattle.jif_tree.specs.Trees.{Heading, ExprTree, BlockTree, statement_tree, tree_before, head_of}
use Rattle.need_labels.specs.Needs.{releases}
use Rattle.place_reasons.specs.Firsts.{first_some}
use Rattle.releasing_statements.specs.Kinds.{own_exprs}
use Rattle.place_reasons.specs.Reasons.{Site, exprs_of, id_of, member_backed, release_backed}

kind_is : (what : StmtKind) (heading : Heading) (rest : BlockTree) →
    id_of (statement_tree what heading rest) ≡ heading.id
kind_is (kind.Let x value) heading rest = refl
kind_is (kind.SetField field value) heading rest = refl
kind_is (kind.SetElement field index value) heading rest = refl
kind_is (kind.If' guard m first n second) heading rest = refl
kind_is (kind.While' guard m body) heading rest = refl
kind_is (kind.Call site method args into) heading rest = refl
kind_is (kind.Return value) heading rest = refl

pub id_is : (statement : Stmt) (rest : BlockTree) → id_of (tree_before statement rest) ≡ statement.id
id_is statement rest = kind_is statement.kind (head_of statement) rest

exprs_of_kind : (what : StmtKind) (heading : Heading) (rest : BlockTree) →
    exprs_of (statement_tree what heading rest) ≡ own_exprs what
exprs_of_kind (kind.Let x value) heading rest = refl
exprs_of_kind (kind.SetField field value) heading rest = refl
exprs_of_kind (kind.SetElement field index value) heading rest = refl
exprs_of_kind (kind.If' guard m first n second) heading rest = refl
exprs_of_kind (kind.While' guard m body) heading rest = refl
exprs_of_kind (kind.Call site method args into) heading rest = refl
exprs_of_kind (kind.Return value) heading rest = refl

pub exprs_are : (statement : Stmt) (rest : BlockTree) →
    exprs_of (tree_before statement rest) ≡ own_exprs statement.kind
exprs_are statement rest = exprs_of_kind statement.kind (head_of statement) rest

pub released : (site : Site) (principal : ℕ) (here id : StmtId) (values : List ExprTree) → id ≡ here →
    list_any releases values ≡ true →
    first_some (member_backed site.principals principal here) site.setting.authority
    ≡ release_backed site principal id values
released site principal here id values same test =
    rw test (ap (λ one. first_some (member_backed site.principals principal one) site.setting.authority) (sym same))
