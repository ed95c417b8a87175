-- What a walk of a program collects of releases: of each statement its own, and then those in its blocks.
use Rattle.std.proofs.Common.{◌≡◌, ℕ, List, [], ◌∷◌, ◌++◌}
use Rattle.std.proofs.Common.{refl, sym, ap, ◌∙◌}
use Rattle.std.proofs.Common.{append_assoc, append-nil}
use Rattle.std.specs.List.{flat_map}
use Rattle.jif_tree.specs.declared.program.Stmt.{Stmt}
use Rattle.jif_tree.specs.declared.program.StmtKind.{StmtKind}
use Rattle.jif_tree.specs.declared.program.StmtKind as kind
use Rattle.jif_tree.specs.Trees.{Heading, BlockTree, statement_tree, row_tree, block_tree, expr_tree}
use Rattle.jif_tree.specs.Trees.{head_of}
use Rattle.releasing_statements.specs.Releases.{if_releasing, block_releases}
use Rattle.releasing_statements.specs.Kinds.{own_exprs}
use Rattle.run_comparison.specs.ReleasingKinds.{kind_releases}
use Rattle.front_end.proofs.BlockParts.{AreNested}

abbrev pub releases_of : Stmt → List ℕ
releases_of statement = if_releasing statement.id.0 (own_exprs statement.kind) ++ kind_releases statement.kind

-- a statement without blocks
plain : (heading : Heading) (what : StmtKind) (rest : BlockTree) →
    if_releasing heading.id.0 (own_exprs what) ++ block_releases rest
    ≡ (if_releasing heading.id.0 (own_exprs what) ++ []) ++ block_releases rest
plain heading what rest =
    ap (λ (xs : List ℕ). xs ++ block_releases rest) (sym (append-nil (if_releasing heading.id.0 (own_exprs what))))

first_releases : (what : StmtKind) (heading : Heading) (rest : BlockTree) →
    block_releases (statement_tree what heading rest)
    ≡ (if_releasing heading.id.0 (own_exprs what) ++ kind_releases what) ++ block_releases rest
first_releases (kind.Let x value) heading rest = plain heading (kind.Let x value) rest
first_releases (kind.SetField field value) heading rest = plain heading (kind.SetField field value) rest
first_releases (kind.SetElement field index value) heading rest = plain heading (kind.SetElement field index value) rest
first_releases (kind.If' guard m first n second) heading rest =
    ap (λ (xs : List ℕ). xs ++ block_releases rest)
    (append_assoc (if_releasing heading.id.0 (expr_tree guard ∷ [])) (block_releases (row_tree first))
    (block_releases (row_tree second)))
first_releases (kind.While' guard m body) heading rest = refl
first_releases (kind.Call site called args into) heading rest = plain heading (kind.Call site called args into) rest
first_releases (kind.Return value) heading rest = plain heading (kind.Return value) rest

pub releases_are : (body : List Stmt) → block_releases (block_tree body) ≡ flat_map releases_of body
releases_are [] = refl
releases_are (s ∷ ss) =
    first_releases s.kind (head_of s) (block_tree ss)
    ∙ ap (λ (rest : List ℕ). releases_of s ++ rest) (releases_are ss)

pub releases_nest : AreNested block_releases kind_releases
releases_nest = record { branch = λ guard first second. refl; loop = λ guard body. refl }
