-- Blocks, as the statements that are in them one after the other.
use Rattle.std.proofs.Common.{ℕ, ◌+◌, ◌<◌, ◌≡◌, ◌∙◌, sym, ap, refl, subst, List, [], ◌∷◌, ◌++◌}
use Rattle.std.proofs.Common.{length, get_or, take}
use Rattle.std.specs.List.{flat_map}
use Rattle.std.proofs.lemmas.List.{append-nil, take_more}
use Rattle.std.proofs.lemmas.List.Concat.{flat_map-append}
use Rattle.js_base.specs.declared.ids.StmtId.{StmtId}
use Rattle.principals.specs.ActsFor.{Declared}
use Rattle.label_lattice.specs.declared.label.Label.{Label}
use Rattle.label_lattice.specs.Lattice.{IsIntegrityMeet}
use Rattle.jif_tree.specs.declared.program.Stmt.{Stmt}
use Rattle.jif_tree.specs.declared.program.StmtKind.{StmtKind}
use Rattle.jif_tree.specs.declared.program.StmtKind as kind
use Rattle.jif_tree.specs.Trees.{ExprTree, Heading, BlockTree, done, branch, loop, statement_tree, block_tree}
use Rattle.jif_tree.specs.Trees.{expr_tree}
use Rattle.jif_tree.specs.Trees.{row_tree, tree_before, head_of}
use Rattle.jif_tree.specs.LabelRules.{MethodSetting}
use Rattle.need_labels.specs.declared.place.Found.{Found}
use Rattle.need_labels.specs.Labelled.{Labelled}
use Rattle.need_labels.specs.Needs.{Backing, StatementUse, block_uses, statement_use, for_releases, all_backing}
use Rattle.need_labels.specs.Finding.{AddsUses, enclosing}
use Rattle.need_labels.proofs.FoundRows.{both_added}

inside_apart : {X : Type 0} (first : X) (inside rest : List X) →
    first ∷ inside ++ rest ≡ (first ∷ inside ++ []) ++ rest
inside_apart {X} first inside rest = ap (λ (some : List X). first ∷ some ++ rest) (sym (append-nil inside))

branch_apart : (labelled : Labelled) (setting : MethodSetting) (heading : Heading) (guard : ExprTree)
    (first second rest : BlockTree) →
    block_uses labelled setting (branch heading guard first second rest)
    ≡ block_uses labelled setting (branch heading guard first second done) ++ block_uses labelled setting rest
branch_apart labelled setting heading guard first second rest =
    let inside : List StatementUse = block_uses labelled setting first ++ block_uses labelled setting second in
    inside_apart (statement_use labelled setting heading.id (guard ∷ []) [] [] (all_backing inside)) inside
    (block_uses labelled setting rest)

loop_apart : (labelled : Labelled) (setting : MethodSetting) (heading : Heading) (guard : ExprTree)
    (body rest : BlockTree) →
    block_uses labelled setting (loop heading guard body rest)
    ≡ block_uses labelled setting (loop heading guard body done) ++ block_uses labelled setting rest
loop_apart labelled setting heading guard body rest =
    let inside : List StatementUse = block_uses labelled setting body in
    inside_apart (statement_use labelled setting heading.id (guard ∷ []) [] [] (all_backing inside)) inside
    (block_uses labelled setting rest)

-- a statement's uses stand before those of the statements after it
uses_apart : (labelled : Labelled) (setting : MethodSetting) (what : StmtKind) (heading : Heading) (rest : BlockTree) →
    block_uses labelled setting (statement_tree what heading rest)
    ≡ block_uses labelled setting (statement_tree what heading done) ++ block_uses labelled setting rest
uses_apart labelled setting (kind.Let x value) heading rest = refl
uses_apart labelled setting (kind.SetField field value) heading rest = refl
uses_apart labelled setting (kind.SetElement field index value) heading rest = refl
uses_apart labelled setting (kind.If' guard m first n second) heading rest =
    branch_apart labelled setting heading (expr_tree guard) (row_tree first) (row_tree second) rest
uses_apart labelled setting (kind.While' guard m body) heading rest =
    loop_apart labelled setting heading (expr_tree guard) (row_tree body) rest
uses_apart labelled setting (kind.Call site method args into) heading rest = refl
uses_apart labelled setting (kind.Return value) heading rest = refl

-- the uses of one statement, with those in it
abbrev uses_of : Labelled → MethodSetting → Stmt → List StatementUse
uses_of labelled setting statement = block_uses labelled setting (tree_before statement done)

uses_in_turn : (labelled : Labelled) (setting : MethodSetting) (statements : List Stmt) →
    block_uses labelled setting (block_tree statements) ≡ flat_map (uses_of labelled setting) statements
uses_in_turn labelled setting [] = refl
uses_in_turn labelled setting (statement ∷ statements) =
    uses_apart labelled setting statement.kind (head_of statement) (block_tree statements)
    ∙ ap (λ (more : List StatementUse). uses_of labelled setting statement ++ more)
    (uses_in_turn labelled setting statements)

-- one more statement
pub next_added : {principals : Declared} (labelled : Labelled) (setting : MethodSetting) (statements : List Stmt)
    (place : ℕ)
    (statement : Stmt) {old between new : Found} {left right both : Label} → place < length statements →
    statement ≡ get_or statements place statement → IsIntegrityMeet left right both →
    AddsUses principals labelled old (block_uses labelled setting (block_tree (take place statements))) between left →
    AddsUses principals labelled between (block_uses labelled setting (tree_before statement done)) new right →
    AddsUses principals labelled old (block_uses labelled setting (block_tree (take (place + 1) statements))) new both
next_added {principals} labelled setting statements place statement {old} {new = new} {both =
    both} within is meet adds also =
    let before : List StatementUse = block_uses labelled setting (block_tree (take place statements)) in
    subst (λ (uses : List StatementUse). AddsUses principals labelled old uses new both) (sym (
    uses_in_turn labelled setting (take (place + 1) statements)
    ∙ ap (flat_map (uses_of labelled setting)) (take_more statements place statement within)
    ∙ flat_map-append (uses_of labelled setting) (take place statements) (get_or statements place statement ∷ [])
    ∙ ap (λ (all : List StatementUse). all ++ (uses_of labelled setting (get_or statements place statement) ++ []))
    (sym (uses_in_turn labelled setting (take place statements)))
    ∙ ap (λ (more : List StatementUse). before ++ more) (append-nil _
    ∙ ap (λ (one : Stmt). uses_of labelled setting one) (sym is))
    ))
    (both_added before (uses_of labelled setting statement) meet adds also)

-- ---- branches and loops

-- the guard by itself, and then with what is inside
guard_use : (labelled : Labelled) (setting : MethodSetting) (id : StmtId) (guard : ExprTree)
    (inside : List StatementUse) →
    enclosing (statement_use labelled setting id (guard ∷ []) [] [] []) inside ∷ inside
    ≡ statement_use labelled setting id (guard ∷ []) [] [] (all_backing inside) ∷ inside ++ []
guard_use labelled setting id guard inside =
    let one : StatementUse = statement_use labelled setting id (guard ∷ []) [] [] [] in
    ap (λ (backing : List Backing). record one { backing = backing ++ all_backing inside } ∷ inside)
    (append-nil (for_releases setting (guard ∷ [])))
    ∙ ap (λ (some : List StatementUse).
    statement_use labelled setting id (guard ∷ []) [] [] (all_backing inside) ∷ some) (sym (append-nil inside))

pub branch_added : {principals : Declared} {labelled : Labelled}
    (setting : MethodSetting) {old new : Found} {backing : Label}
    (heading : Heading) (guard : ExprTree) (first second tree : BlockTree) →
    tree ≡ branch heading guard first second done →
    AddsUses principals labelled old
    (enclosing (statement_use labelled setting heading.id (guard ∷ []) [] [] [])
    (block_uses labelled setting first ++ block_uses labelled setting second)
    ∷ (block_uses labelled setting first ++ block_uses labelled setting second)) new backing →
    AddsUses principals labelled old (block_uses labelled setting tree) new backing
branch_added {principals} {labelled} setting {old} {new} {backing} heading guard first second tree is adds =
    subst (λ (uses : List StatementUse). AddsUses principals labelled old uses new backing)
    (guard_use labelled setting heading.id guard (block_uses labelled setting first
    ++ block_uses labelled setting second)
    ∙ sym (ap (block_uses labelled setting) is)) adds

pub loop_added : {principals : Declared} {labelled : Labelled}
    (setting : MethodSetting) {old new : Found} {backing : Label}
    (heading : Heading) (guard : ExprTree) (body tree : BlockTree) →
    tree ≡ loop heading guard body done →
    AddsUses principals labelled old
    (enclosing (statement_use labelled setting heading.id (guard ∷ []) [] [] []) (block_uses labelled setting body)
    ∷ block_uses labelled setting body) new backing →
    AddsUses principals labelled old (block_uses labelled setting tree) new backing
loop_added {principals} {labelled} setting {old} {new} {backing} heading guard body tree is adds =
    subst (λ (uses : List StatementUse). AddsUses principals labelled old uses new backing)
    (guard_use labelled setting heading.id guard (block_uses labelled setting body)
    ∙ sym (ap (block_uses labelled setting) is)) adds
