use Rattle.std.proofs.Common.{◌≡◌, ◌∙◌, ap, refl, sym, subst, inl, inr, lit<, arith, ℕ, zero, suc, ◌≤◌, ℤ, pos, List}
use Rattle.std.proofs.Common.{[], ◌∷◌, map, slice_get, Some, None, length}
use Rattle.std.specs.Prelude.{slice_index}
use mathlib.Core.Former.{Count}
use Rattle.label_lattice.specs.declared.label.Label.{Label}
use Rattle.label_lattice.specs.Label.{Trusts}
use Rattle.label_lattice.specs.Lattice.{free_rows}
use Rattle.jif_tree.specs.declared.program.Program.{Program}
use Rattle.jif_tree.specs.declared.program.Stmt.{Stmt}
use Rattle.jif_tree.specs.declared.program.StmtKind.{StmtKind}
use Rattle.jif_tree.specs.declared.program.StmtKind as kind
use Rattle.jif_tree.specs.declared.program.Expr as expr
use Rattle.jif_tree.specs.Altered.{FieldIsAffected, IsAffected, Alters, MayStep, steps, changes_field}
use Rattle.jif_tree.specs.AlteredExamples.{field_of_0, field_of_1, for_1, one_bad}
use Rattle.jif_tree.specs.SourceRun.{Item, run, Call, Configuration, main_body, prefix, step, configuration_at_start}
use Rattle.jif_tree.specs.SourceRun.{IsAtEnd}
use Rattle.jif_tree.specs.Store.{row_of}
use Rattle.need_labels.proofs.Somewhere.{any_here, any_first, any_none}
use Rattle.source_law.specs.Related.{Pairs, AreAligned, ended, idles, other_idles, alike, ItemIsIdle, FieldsAgree}
use Rattle.source_law.specs.Steady.{AreIdle, AreSteady, AllIdle, AllSteady}
use Rattle.source_law.specs.SteadyExamples.{begun, endorsed_0, only, second_pending, sets_1_by, sets_9, two_fields}
use Rattle.source_law.proofs.Moments.{one_rises, rises_before}
use Rattle.source_law.proofs.laws.steady_examples.Goals as goal

-- ---- what is affected

not_both : (bit : ℕ) → bit ≡ 0 → bit ≡ 1 → ⊥
not_both bit clear set = omega arith

affected : (label : Label) → label.trust ≡ 1 → IsAffected one_bad.bad label
affected label is = any_here _ _ [] (λ principal within trusts.
    subst (λ word. Trusts (record label { trust = word }) principal) is trusts)

not_affected : (label : Label) → label.trust ≡ 2 → ¬ IsAffected one_bad.bad label
not_affected label is far = elim (any_first _ _ [] far) [
  | inl flows ↦
      let own = subst (λ word. Trusts (record label { trust = word }) 1) (sym is) refl in
      not_both 0 refl (flows 1 (lit< tt) own)
  | inr later ↦ any_none _ later
]

abbrev trusted_by : ℕ → Label
trusted_by word = record { rows = free_rows; trust = word }

first : FieldIsAffected one_bad field_of_0
first = affected (trusted_by 1) refl

second : ¬ FieldIsAffected one_bad field_of_1
second = not_affected (trusted_by 2) refl

pub returns-clause-idle : goal.returns-clause-idle
returns-clause-idle c program = first

pub returns-clause-not_idle : goal.returns-clause-not_idle
returns-clause-not_idle c program idle = second idle

pub returns-clause-idle_call : goal.returns-clause-idle_call
returns-clause-idle_call c program method site called args there trust = (rw there (affected method.begin trust), tt)

pub returns-clause-not_idle_call : goal.returns-clause-not_idle_call
returns-clause-not_idle_call c program method site called args there trust idle =
    not_affected method.begin trust (rw there at idle.0)

pub returns-clause-not_idle_kept : goal.returns-clause-not_idle_kept
returns-clause-not_idle_kept c program site called args idle = not_affected (trusted_by 2) refl idle.1

pub returns-clause-idle_return : goal.returns-clause-idle_return
returns-clause-idle_return c program value = affected (trusted_by 1) refl

pub returns-clause-not_idle_return : goal.returns-clause-not_idle_return
returns-clause-not_idle_return c program value idle = not_affected (trusted_by 2) refl idle

pub returns-clause-does_well : goal.returns-clause-does_well
returns-clause-does_well c program = inr second

pub returns-clause-does_ill : goal.returns-clause-does_ill
returns-clause-does_ill c program (inl far) = second far
returns-clause-does_ill c program (inr clean) = clean first

pub returns-clause-endorsed_ill : goal.returns-clause-endorsed_ill
returns-clause-endorsed_ill c program (inl far) = second far
returns-clause-endorsed_ill c program (inr clean) = clean first

-- the statements in a loop, as a row; what holds of each of a list holds of these

abbrev row_in : StmtKind → (n : Count) × kind.Row_of-Stmt n
row_in (kind.While' guard m body) = (_, body)
row_in _ = (_, kind.end_of-Stmt)

idle_items : (program : Program) {n : _} (row : kind.Row_of-Stmt n) → AreIdle program one_bad None row →
    AllIdle program one_bad None (kind.items-the_row-Stmt n row)
idle_items program kind.end_of-Stmt idle = tt
idle_items program (kind.more_of-Stmt id line what rest) idle = (idle.0, idle_items program rest idle.1)

idle_row : (program : Program) {n : _} (row : kind.Row_of-Stmt n) →
    AllIdle program one_bad None (kind.items-the_row-Stmt n row) → AreIdle program one_bad None row
idle_row program kind.end_of-Stmt idle = tt
idle_row program (kind.more_of-Stmt id line what rest) idle = (idle.0, idle_row program rest idle.1)

steady_row : (program : Program) {n : _} (row : kind.Row_of-Stmt n) →
    AllSteady program one_bad None (kind.items-the_row-Stmt n row) → AreSteady program one_bad None row
steady_row program kind.end_of-Stmt steady = tt
steady_row program (kind.more_of-Stmt id line what rest) steady =
    (steady.0.0, steady.0.1, steady_row program rest steady.1)

pub returns-clause-guard_well : goal.returns-clause-guard_well
returns-clause-guard_well c program body is =
    let row = row_in (kind.While (expr.Scalar field_of_0) body) in
    let items = kind.items_hidden-the_row-Stmt-0 body ∙ is in
    let P : List Stmt → Type 0 = AllIdle program one_bad None in
    let Q : List Stmt → Type 0 = AllSteady program one_bad None in (
      inr (idle_row program row.1 (subst P (sym items) (first, tt))),
      steady_row program row.1 (subst Q (sym items) (((λ far. first), inl first), tt)),
    )

pub returns-clause-guard_ill : goal.returns-clause-guard_ill
returns-clause-guard_ill c program body is (inl clean, steady) = clean first
returns-clause-guard_ill c program body is (inr idle, steady) =
    let row = row_in (kind.While (expr.Scalar field_of_0) body) in
    let P : List Stmt → Type 0 = AllIdle program one_bad None in
    second (subst P (kind.items_hidden-the_row-Stmt-0 body ∙ is) (idle_items program row.1 idle)).0

pub returns-clause-left_ill : goal.returns-clause-left_ill
returns-clause-left_ill c program steady =
    second (steady.0 (any_here _ _ [] (λ principal within asked. asked)))

-- ---- what is related

lacks : (program : Program) (pairs : Pairs) (calls others : List Call) (items more : List Item) → items ≡ [] →
    more ≡ for_1 ∷ [] → others ≡ second_pending.calls →
    AreAligned program one_bad pairs calls others items more → ⊥
lacks program pairs calls others _ _ none is made ended = absurd (cc)
lacks program pairs calls others _ _ none is made (idles item items more idle rest) = absurd (cc)
lacks program pairs calls others _ _ none is made (alike one two items more same rest) = absurd (cc)
lacks program pairs calls others _ _ none is made (other_idles item items more idle rest) =
    let own : item ≡ for_1 = cc in
    let P : Item → Type 0 = λ it. ItemIsIdle program one_bad others it in
    let Q : List Call → Type 0 = λ all. ItemIsIdle program one_bad all for_1 in
    second (subst Q made (subst P own idle))

pub returns-clause-not_related : goal.returns-clause-not_related
returns-clause-not_related c program r =
    lacks program r.pairs _ _ _ _ refl refl refl r.pending

-- ---- what is followed

-- where `main` has one statement, the plain run starts with it, and comes to its end by one step
starts_with : (program : Program) (statement : Stmt) → main_body program ≡ statement ∷ [] →
    configuration_at_start program two_fields ≡ begun program (pos 5) (pos 7) (statement ∷ [])
starts_with program statement is =
    ap (λ body. record (configuration_at_start program two_fields) { pending = map (run 0) body }) is

ends_with : (program : Program) (statement : Stmt) (value : ℤ) → main_body program ≡ statement ∷ [] →
    step program (begun program (pos 5) (pos 7) (statement ∷ [])) ≡ begun program (pos 5) value [] → (n : ℕ) →
    prefix program two_fields (suc n) ≡ begun program (pos 5) value []
ends_with program statement value is one zero = ap (step program) (starts_with program statement is) ∙ one
ends_with program statement value is one (suc n) = ap (step program) (ends_with program statement value is one n)

sets_it : (program : Program) → main_body program ≡ only sets_9 ∷ [] → (n : ℕ) →
    prefix program two_fields (suc n) ≡ begun program (pos 5) (pos 9) []
sets_it program is = ends_with program (only sets_9) (pos 9) is refl

-- stores that differ in the first field agree
agree : (one other second : ℤ) →
    FieldsAgree one_bad ((one ∷ []) ∷ (second ∷ []) ∷ []) ((other ∷ []) ∷ (second ∷ []) ∷ [])
agree one other value field clean = by field.0 clean
  where
    by : (n : ℕ) → ¬ FieldIsAffected one_bad (record { 0 = n }) →
        row_of ((one ∷ []) ∷ (value ∷ []) ∷ []) n ≡ row_of ((other ∷ []) ∷ (value ∷ []) ∷ []) n
    by zero clean = absurd (clean first)
    by (suc zero) clean = refl
    by (suc (suc n)) clean = refl

abbrev second_row : (program : Program) (n : ℕ) → List ℤ
second_row program n = row_of (prefix program two_fields n).store 1

pub returns-clause-followed : goal.returns-clause-followed
returns-clause-followed c program is = (
  (
    (begun program (pos 8) (pos 7) (only sets_9 ∷ []) ∷ [], (changed, refl)),
    ((begun program (pos 8) (pos 9) [] ∷ [], (steps (pos 9 ∷ [], (refl, tt), refl), refl)), tt),
  ),
  record {
    steps = 0 ∷ 0 ∷ 1 ∷ [];
    many = refl;
    rising = rises_before 0 0 (1 ∷ []) (omega arith) (rises_before 0 1 [] (omega arith) (one_rises 1));
    within = within;
    agrees = agrees;
    ends = ends;
  },
)
  where
    moments : List Configuration
    moments = configuration_at_start program two_fields ∷ begun program (pos 8) (pos 7) (only sets_9 ∷ [])
        ∷ begun program (pos 8) (pos 9) [] ∷ []

    numbers : List ℕ
    numbers = 0 ∷ 0 ∷ 1 ∷ []

    changed : Alters program one_bad (configuration_at_start program two_fields)
        (begun program (pos 8) (pos 7) (only sets_9 ∷ []))
    changed = changes_field field_of_0 (pos 0) (pos 8) first (omega arith)
        (ap (λ body. begun program (pos 8) (pos 7) body) (sym is))

    within : (place : ℕ) → slice_index numbers place ≤ 1
    within zero = omega arith
    within (suc zero) = omega arith
    within (suc (suc zero)) = omega arith
    within (suc (suc (suc place))) = omega arith

    agrees : (place : ℕ) (it : Configuration) → slice_get moments place ≡ Some it →
        FieldsAgree one_bad it.store (prefix program two_fields (slice_index numbers place)).store
    agrees zero it there =
        let same : configuration_at_start program two_fields ≡ it = cc in
        subst (λ (k : Configuration). FieldsAgree one_bad k.store two_fields) same (agree (pos 5) (pos 5) (pos 7))
    agrees (suc zero) it there =
        let same : begun program (pos 8) (pos 7) (only sets_9 ∷ []) ≡ it = cc in
        subst (λ (k : Configuration). FieldsAgree one_bad k.store two_fields) same (agree (pos 8) (pos 5) (pos 7))
    agrees (suc (suc zero)) it there =
        let same : begun program (pos 8) (pos 9) [] ≡ it = cc in
        subst (λ (k : Configuration). FieldsAgree one_bad k.store (prefix program two_fields 1).store) same
        (subst (λ (k : Configuration). FieldsAgree one_bad (begun program (pos 8) (pos 9) []).store k.store)
        (sym (sets_it program is 0)) (agree (pos 8) (pos 5) (pos 9)))
    agrees (suc (suc (suc place))) it there = absurd (cc)

    ends : (place : ℕ) (it : Configuration) → slice_get moments place ≡ Some it → IsAtEnd it →
        slice_index numbers place ≡ 1
    ends zero it there end =
        let same : configuration_at_start program two_fields ≡ it = cc in
        let none : [] ≡ run 0 (only sets_9) ∷ [] =
        sym end ∙ ap (λ (k : Configuration). k.pending) (sym same) ∙ ap (map (run 0)) is in
        absurd (cc)
    ends (suc zero) it there end =
        let same : begun program (pos 8) (pos 7) (only sets_9 ∷ []) ≡ it = cc in
        let none : [] ≡ run 0 (only sets_9) ∷ [] = sym end ∙ ap (λ (k : Configuration). k.pending) (sym same) in
        absurd (cc)
    ends (suc (suc zero)) it there end = refl
    ends (suc (suc (suc place))) it there end = absurd (cc)

pub returns-clause-not_left_out : goal.returns-clause-not_left_out
returns-clause-not_left_out c program is follows =
    let all : slice_index follows.steps 0 ≡ 1 = follows.ends 0 _ refl refl in
    let same : pos 7 ∷ [] ≡ second_row program (slice_index follows.steps 0) =
    follows.agrees 0 _ refl field_of_1 second in
    let set : pos 7 ∷ [] ≡ pos 9 ∷ [] =
    same ∙ ap (second_row program) all ∙ ap (λ (k : Configuration). row_of k.store 1) (sets_it program is 0) in
    absurd (cc)

pub returns-clause-not_back : goal.returns-clause-not_back
returns-clause-not_back c program is follows =
    let all : slice_index follows.steps 0 ≡ 1 = follows.ends 0 _ refl refl in
    let many : length follows.steps ≡ 2 = follows.many in
    let up = follows.rising 0 1 0 (omega arith) (omega (arith, many)) in
    at (slice_index follows.steps 1) (omega (arith, all, up)) (follows.agrees 1 _ refl field_of_1 second)
  where
    at : (n : ℕ) → 1 ≤ n → pos 7 ∷ [] ≡ second_row program n → ⊥
    at zero some same = absurd (omega (arith, some))
    at (suc n) some same =
        let set : pos 7 ∷ [] ≡ pos 9 ∷ [] =
        same ∙ ap (λ (k : Configuration). row_of k.store 1) (sets_it program is n) in
        absurd (cc)

pub returns-clause-endorsing : goal.returns-clause-endorsing
returns-clause-endorsing c program is = (
  ((begun program (pos 5) (pos 9) [] ∷ [], (steps may, refl)), tt),
  λ length_of follows. at (slice_index follows.steps 1) (follows.agrees 1 _ refl field_of_1 second),
)
  where
    may : MayStep program one_bad (configuration_at_start program two_fields)
        (configuration_at_start program two_fields).pending (begun program (pos 5) (pos 9) [])
    may =
        let P : List Item → Type 0 = λ items. MayStep program one_bad (configuration_at_start program two_fields) items
        (begun program (pos 5) (pos 9) []) in
        subst P (sym (ap (map (run 0)) is)) (pos 9 ∷ [], (inr (first, omega arith), tt), refl)

    at : (n : ℕ) → pos 9 ∷ [] ≡ second_row program n → ⊥
    at zero same = absurd (cc)
    at (suc n) same =
        let set : pos 9 ∷ [] ≡ pos 5 ∷ [] = same ∙ ap (λ (k : Configuration). row_of k.store 1)
        (ends_with program (only (sets_1_by endorsed_0)) (pos 5) is refl n) in
        absurd (cc)
