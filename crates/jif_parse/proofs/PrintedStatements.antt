-- Steps of the printing of statements with blocks.
use Rattle.std.specs.Prelude.{◌==◌}
use Rattle.std.proofs.lemmas.Bool.Decides.{nat_tests}
use Rattle.std.proofs.Common.{◌≡◌, ◌∙◌, ℕ, ◌<◌, false, List, [], ◌∷◌, ◌++◌, length, refl, ap, sym, codes}
use Rattle.std.proofs.Common.{arith}
use Rattle.std.proofs.lemmas.List.{append_assoc}
use Rattle.jif_tree.specs.declared.program.Stmt.{Stmt}
use Rattle.jif_tree.specs.declared.program.StmtKind.{StmtKind}
use Rattle.jif_tree.specs.declared.program.StmtKind as kind
use Rattle.jif_tree.specs.Trees.{ExprTree, Heading, BlockTree, branch, loop, block_tree}
use Rattle.jif_tree.specs.Trees.{statement_tree, head_of}
use Rattle.jif_parse.specs.PrintedNames.{Naming}
use Rattle.jif_parse.specs.PrintedExprs.{expr_text}
use Rattle.jif_parse.specs.PrintedProgram.{else_text, is_done, block_text, seen_behind}
use Rattle.jif_parse.specs.PrintedBlocks.{PrintsBefore}

-- ---- the trees of statements with blocks

not_done : (what : StmtKind) (heading : Heading) (rest : BlockTree) → is_done (statement_tree what heading rest) ≡ false
not_done (kind.Let x value) heading rest = refl
not_done (kind.SetField field value) heading rest = refl
not_done (kind.SetElement field index value) heading rest = refl
not_done (kind.If' guard m first n second) heading rest = refl
not_done (kind.While' guard m body) heading rest = refl
not_done (kind.Call site method args into) heading rest = refl
not_done (kind.Return value) heading rest = refl

pub some_is : (statements : List Stmt) → 0 < length statements → is_done (block_tree statements) ≡ false
some_is [] some = absurd (omega (arith, some))
some_is (statement ∷ statements) some =
    not_done statement.kind (head_of statement) (block_tree statements)

-- ---- their texts

branch_grouped : (guard first otherwise rest : List ℕ) →
    codes "if (" ++ guard ++ codes ") {\n" ++ first ++ codes "}" ++ otherwise ++ codes "\n" ++ rest
    ≡ (105 ∷ 102 ∷ 32 ∷ 40 ∷ (guard ++ 41 ∷ 32 ∷ 123 ∷ 10 ∷ (first ++ 125 ∷ (otherwise ++ 10 ∷ [])))) ++ rest
branch_grouped guard first otherwise rest =
    let one : codes "if (" ++ guard ++ codes ") {\n" ++ first ++ codes "}" ++ otherwise ++ codes "\n" ++ rest
    ≡ 105 ∷ 102 ∷ 32 ∷ 40 ∷ (guard ++ 41 ∷ 32 ∷ 123 ∷ 10 ∷ (first ++ 125 ∷ (otherwise ++ 10 ∷ rest)))
    = simp append_assoc in
    one ∙ sym (ap (λ (t : List ℕ). 105 ∷ 102 ∷ 32 ∷ 40 ∷ t)
    (append_assoc guard (41 ∷ 32 ∷ 123 ∷ 10 ∷ (first ++ 125 ∷ (otherwise ++ 10 ∷ []))) rest
    ∙ ap (λ (t : List ℕ). guard ++ 41 ∷ 32 ∷ 123 ∷ 10 ∷ t) (append_assoc first (125 ∷ (otherwise ++ 10 ∷ [])) rest
    ∙ ap (λ (t : List ℕ). first ++ 125 ∷ t) (append_assoc otherwise (10 ∷ []) rest))))

loop_grouped : (guard body rest : List ℕ) →
    codes "while (" ++ guard ++ codes ") {\n" ++ body ++ codes "}\n" ++ rest
    ≡ (119 ∷ 104 ∷ 105 ∷ 108 ∷ 101 ∷ 32 ∷ 40 ∷ (guard ++ 41 ∷ 32 ∷ 123 ∷ 10 ∷ (body ++ 125 ∷ 10 ∷ []))) ++ rest
loop_grouped guard body rest =
    let one : codes "while (" ++ guard ++ codes ") {\n" ++ body ++ codes "}\n" ++ rest
    ≡ 119 ∷ 104 ∷ 105 ∷ 108 ∷ 101 ∷ 32 ∷ 40 ∷ (guard ++ 41 ∷ 32 ∷ 123 ∷ 10 ∷ (body ++ 125 ∷ 10 ∷ rest))
    = simp append_assoc in
    one ∙ sym (ap (λ (t : List ℕ). 119 ∷ 104 ∷ 105 ∷ 108 ∷ 101 ∷ 32 ∷ 40 ∷ t)
    (append_assoc guard (41 ∷ 32 ∷ 123 ∷ 10 ∷ (body ++ 125 ∷ 10 ∷ [])) rest
    ∙ ap (λ (t : List ℕ). guard ++ 41 ∷ 32 ∷ 123 ∷ 10 ∷ t) (append_assoc body (125 ∷ 10 ∷ []) rest)))

pub branch_prints : (naming : Naming) (seen : ℕ) (heading : Heading) (guard : ExprTree) (first second rest : BlockTree)
    (tree : BlockTree) (text guard_text first_text second_text otherwise : List ℕ) (middle after : ℕ) →
    tree ≡ branch heading guard first second rest →
    text ≡ 105 ∷ 102 ∷ 32 ∷ 40 ∷ (guard_text ++ 41 ∷ 32 ∷ 123 ∷ 10 ∷ (first_text ++ 125 ∷ (otherwise ++ 10 ∷ []))) →
    guard_text ≡ expr_text naming guard → first_text ≡ block_text naming seen first →
    middle ≡ seen_behind seen first → second_text ≡ block_text naming middle second →
    otherwise ≡ else_text (is_done second) second_text → after ≡ seen_behind middle second →
    PrintsBefore naming seen tree text after rest
branch_prints naming seen heading guard first second rest tree text guard_text first_text second_text otherwise middle
    after tree_is is guard_is first_is middle_is second_is otherwise_is after_is =
    let seconds = second_is ∙ ap (λ n. block_text naming n second) middle_is in
    let afters = after_is ∙ ap (λ n. seen_behind n second) middle_is in
    let others = otherwise_is ∙ ap (else_text (is_done second)) seconds in
    record {
      same_text = rw (tree_is, is, guard_is, first_is, others, afters) (branch_grouped _ _ _ _);
      same_seen = rw (tree_is, afters) refl;
    }

pub loop_prints : (naming : Naming) (seen : ℕ) (heading : Heading) (guard : ExprTree) (body rest : BlockTree)
    (tree : BlockTree) (text guard_text body_text : List ℕ) (after : ℕ) →
    tree ≡ loop heading guard body rest →
    text ≡ 119 ∷ 104 ∷ 105 ∷ 108 ∷ 101 ∷ 32 ∷ 40 ∷ (guard_text ++ 41 ∷ 32 ∷ 123 ∷ 10 ∷ (body_text ++ 125 ∷ 10 ∷ [])) →
    guard_text ≡ expr_text naming guard → body_text ≡ block_text naming seen body → after ≡ seen_behind seen body →
    PrintsBefore naming seen tree text after rest
loop_prints naming seen heading guard body rest tree text guard_text body_text after tree_is is guard_is body_is
    after_is =
    record {
      same_text = rw (tree_is, is, guard_is, body_is, after_is) (loop_grouped _ _ _);
      same_seen = rw (tree_is, after_is) refl;
    }

pub else_prints : (statements : List Stmt) (block : List ℕ) {text : List ℕ} → 0 < length statements →
    text ≡ 32 ∷ 101 ∷ 108 ∷ 115 ∷ 101 ∷ 32 ∷ 123 ∷ 10 ∷ (block ++ 125 ∷ []) →
    text ≡ else_text (is_done (block_tree statements)) block
else_prints statements block some is = is ∙ ap (λ b. else_text b block) (sym (some_is statements some))

pub some_statements : (statements : List Stmt) → (length statements == 0) ≡ false → 0 < length statements
some_statements statements some = grind (arith, nat_tests)
