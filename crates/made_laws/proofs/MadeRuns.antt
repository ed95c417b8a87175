-- The plain run of the program that is made: each statement sets a field, so it takes one step for each.
use Rattle.std.proofs.Common.{◌≡◌, ℕ, zero, suc, ◌+◌, ◌<◌, ℤ, List, [], ◌∷◌, map, length, refl, sym, subst, ap, ◌∙◌}
use Rattle.std.proofs.Common.{arith}
use Rattle.std.specs.Prelude.{⊤, slice_get}
use Rattle.js_base.specs.declared.ids.FieldId.{FieldId}
use Rattle.js_base.specs.declared.ids.MethodId.{MethodId}
use Rattle.jif_tree.specs.declared.program.Program.{Program}
use Rattle.jif_tree.specs.declared.program.Method.{Method}
use Rattle.jif_tree.specs.declared.program.Stmt.{Stmt}
use Rattle.jif_tree.specs.declared.program.StmtKind.{StmtKind}
use Rattle.jif_tree.specs.declared.program.StmtKind as kind
use Rattle.jif_tree.specs.declared.program.Expr.{Expr}
use Rattle.jif_tree.specs.SourceRun.{Configuration, Item, run, step, after_item, after_steps}
use Rattle.jif_tree.specs.SourceRun.{configuration_at_start, main_body, body_of, HasLength}
use Rattle.jif_tree.specs.Trees as trees
use Rattle.jif_tree.specs.Trees.{Heading, BlockTree, ExprTree, MethodTree, done, set_field, statement_tree}
use Rattle.jif_tree.specs.Trees.{program_tree}
use Rattle.made_laws.proofs.MadeLabels.{MadeLabels}
use Rattle.made_laws.proofs.MadeTrees as made

-- ---- statements that set fields

abbrev pub Sets : StmtKind → Type 0
Sets what = (field : FieldId) × (value : Expr) × (what ≡ kind.SetField field value)

abbrev pub AllSet : List Stmt → Type 0
AllSet [] = ⊤
AllSet (statement ∷ statements) = Sets statement.kind × AllSet statements

-- ---- the run of such statements

one_more : (program : Program) (n : ℕ) (c : Configuration) →
    after_steps program (suc n) c ≡ after_steps program n (step program c)
one_more program zero c = refl
one_more program (suc n) c = ap (step program) (one_more program n c)

-- what is left behind a statement that sets a field
left_behind : (program : Program) (c : Configuration) (statement : Stmt) (behind : List Item) → Sets statement.kind →
    (after_item program c (run 0 statement ∷ behind)).pending ≡ behind
left_behind program c statement behind sets = by statement.kind sets.2
  where
    by : (what : StmtKind) → what ≡ kind.SetField sets.0 sets.1 →
        (after_item program c (run 0 (record statement { kind = what }) ∷ behind)).pending ≡ behind
    by what is = rw is refl

stepped : (program : Program) (c : Configuration) (statement : Stmt) (behind : List Item) → Sets statement.kind →
    c.pending ≡ run 0 statement ∷ behind → (step program c).pending ≡ behind
stepped program c statement behind sets is =
    ap (λ (pending : List Item). (after_item program c pending).pending) is
    ∙ left_behind program c statement behind sets

-- it ends after so many steps, and not before
pub record EndsAfter (program : Program) (c : Configuration) (steps : ℕ) : Type 0 where
  pub ends : (after_steps program steps c).pending ≡ []
  pub not_before : (m : ℕ) → m < steps → ¬ ((after_steps program m c).pending ≡ [])

sets_run : (program : Program) (statements : List Stmt) (c : Configuration) → AllSet statements →
    c.pending ≡ map (run 0) statements → EndsAfter program c (length statements)
sets_run program [] c sets is = record { ends = is; not_before = λ m less. absurd (omega (arith, less)) }
sets_run program (statement ∷ statements) c sets is =
    let rest = sets_run program statements (step program c) sets.1
    (stepped program c statement (map (run 0) statements) sets.0 is) in
    record {
      ends = ap (λ (now : Configuration). now.pending) (one_more program (length statements) c) ∙ rest.ends;
      not_before = not_before rest;
    }
  where
    not_before : EndsAfter program (step program c) (length statements) → (m : ℕ) → m < suc (length statements) →
        ¬ ((after_steps program m c).pending ≡ [])
    not_before rest zero less none = let never : run 0 statement ∷ map (run 0) statements ≡ [] = sym is ∙ none in cc
    not_before rest (suc m) less none =
        rest.not_before m (omega (arith, less))
        (ap (λ (now : Configuration). now.pending) (sym (one_more program m c)) ∙ none)

-- ---- the statements of the made program

-- what has such a tree sets a field
kind_sets : (what : StmtKind) (heading head : Heading) (rest : BlockTree) (field : FieldId) (value : ExprTree)
    (behind : BlockTree) → statement_tree what heading rest ≡ set_field head field value behind →
    Sets what × (rest ≡ behind)
kind_sets (kind.Let x e) heading head rest field value behind is = absurd (let no = is in cc)
kind_sets (kind.SetField own e) heading head rest field value behind is = ((own, e, refl), cc)
kind_sets (kind.SetElement own i e) heading head rest field value behind is = absurd (let no = is in cc)
kind_sets (kind.If' guard m first n second) heading head rest field value behind is = absurd (let no = is in cc)
kind_sets (kind.While' guard m body) heading head rest field value behind is = absurd (let no = is in cc)
kind_sets (kind.Call site method args into) heading head rest field value behind is = absurd (let no = is in cc)
kind_sets (kind.Return e) heading head rest field value behind is = absurd (let no = is in cc)

no_statement : (what : StmtKind) (heading : Heading) (rest : BlockTree) → ¬ (statement_tree what heading rest ≡ done)
no_statement (kind.Let x e) heading rest is = absurd (let no = is in cc)
no_statement (kind.SetField own e) heading rest is = absurd (let no = is in cc)
no_statement (kind.SetElement own i e) heading rest is = absurd (let no = is in cc)
no_statement (kind.If' guard m first n second) heading rest is = absurd (let no = is in cc)
no_statement (kind.While' guard m body) heading rest is = absurd (let no = is in cc)
no_statement (kind.Call site method args into) heading rest is = absurd (let no = is in cc)
no_statement (kind.Return e) heading rest is = absurd (let no = is in cc)

block_sets : (statements : List Stmt) (lines : ℕ → ℕ) (id at : ℕ) (numbers : List ℕ) →
    trees.block_tree statements ≡ made.block_tree lines id at numbers →
    AllSet statements × (length statements ≡ length numbers)
block_sets [] lines id at [] is = (tt, refl)
block_sets [] lines id at (n ∷ numbers) is = absurd (let no = is in cc)
block_sets (statement ∷ statements) lines id at [] is =
    absurd (no_statement statement.kind (trees.head_of statement) (trees.block_tree statements) is)
block_sets (statement ∷ statements) lines id at (n ∷ numbers) is =
    let first = kind_sets statement.kind (trees.head_of statement) _ (trees.block_tree statements) _ _ _ is in
    let rest = block_sets statements lines (id + 1) (at + 3 + 3) numbers first.1 in
    ((first.0, rest.0), omega (arith, rest.1))

-- ---- the run

body_is : (methods : List Method) (method : MethodTree) → map trees.method_tree methods ≡ method ∷ [] →
    trees.block_tree (body_of (slice_get methods 0)) ≡ method.body
body_is [] method is = absurd (let no = is in cc)
body_is (one ∷ others) method is =
    ap (λ (own : MethodTree). own.body) (let first : trees.method_tree one ≡ method = cc in first)

pub made_length : (labels : MadeLabels) (lines : ℕ → ℕ) (numbers : List ℕ) (program : Program)
    (values : List (List ℤ)) → program_tree program ≡ made.made_tree labels lines numbers →
    HasLength program values (length numbers)
made_length labels lines numbers program values is =
    let main : program.main ≡ record { 0 = 0 } = ap (λ (tree : trees.ProgramTree). tree.main) is in
    let methods = ap (λ (tree : trees.ProgramTree). tree.methods) is in
    let body : trees.block_tree (main_body program) ≡ made.block_tree lines 1 34 numbers =
    ap (λ (main : MethodId). trees.block_tree (body_of (slice_get program.methods.items main.0))) main
    ∙ body_is program.methods.items (made.method_tree lines numbers) methods in
    let sets = block_sets (main_body program) lines 1 34 numbers body in
    let runs = sets_run program (main_body program) (configuration_at_start program values) sets.0 refl in
    let whole = subst (λ n. EndsAfter program (configuration_at_start program values) n) sets.1 runs in
    record { ends = whole.ends; not_before = whole.not_before }
