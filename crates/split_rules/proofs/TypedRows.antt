-- Rows: the statements in a row on a host that are due there, and those behind them, with who is trusted for them and
-- whom they need.
use Rattle.std.proofs.Common.{◌≡◌, ◌∙◌, ℕ, Bool, true, false, List, [], ◌∷◌, ◌++◌, map, refl, ap, sym, subst, arith}
use Rattle.std.proofs.Common.{eqb-true, true≢false, slice_index}
use Rattle.std.specs.Prelude.{Option, Some, None, ◌&&◌, if◌then◌else◌, ◌≤◌, ◌<◌, slice_index, bit_or}
use Rattle.std.specs.Int.{bit_at}
use Rattle.std.proofs.lemmas.Nat.Bits.{bit_at_or}
use Rattle.std.specs.List.{AllByRecursion}
use Rattle.js_base.specs.declared.ids.HostId.{HostId}
use Rattle.label_lattice.specs.declared.label.TheConstants.{READERS}
use Rattle.jif_tree.specs.Trees.{BlockTree}
use Rattle.need_labels.specs.Plan.{statement_host}
use Rattle.msg_cost.specs.Moves.{PlannedShape, is_trusted_for, is_trusted_for_all, return_host, host_behind}
use Rattle.split_rules.specs.Walk.{row_on, behind_row}
use Rattle.split_rules.specs.Positions.{number_of, is_on, row_of, past_row, DueWork, run, due_numbers, statement_due}
use Rattle.split_rules.specs.Typable.{IsTrustedThere}
use Rattle.split_rules.specs.Typing.{need_due, Covers, AreDueOn}
use Rattle.split_rules.proofs.Places.{same_host}

-- ---- rows

pub row_here : (planned : PlannedShape) (host : HostId) (tree : BlockTree) (trees : List BlockTree) →
    is_on planned host tree ≡ true → row_of planned host (tree ∷ trees) ≡ tree ∷ row_of planned host trees
row_here planned host tree trees is = rw is refl

pub row_elsewhere : (planned : PlannedShape) (host : HostId) (tree : BlockTree) (trees : List BlockTree) →
    is_on planned host tree ≡ false → row_of planned host (tree ∷ trees) ≡ []
row_elsewhere planned host tree trees is = rw is refl

pub past_here : (planned : PlannedShape) (host : HostId) (tree : BlockTree) (trees : List BlockTree) →
    is_on planned host tree ≡ true → past_row planned host (tree ∷ trees) ≡ past_row planned host trees
past_here planned host tree trees is = rw is refl

pub past_elsewhere : (planned : PlannedShape) (host : HostId) (tree : BlockTree) (trees : List BlockTree) →
    is_on planned host tree ≡ false → past_row planned host (tree ∷ trees) ≡ tree ∷ trees
past_elsewhere planned host tree trees is = rw is refl

pub row_and_past : (planned : PlannedShape) (host : HostId) (trees : List BlockTree) →
    trees ≡ row_of planned host trees ++ past_row planned host trees
row_and_past planned host [] = refl
row_and_past planned host (tree ∷ trees) = by (row_and_past planned host trees) (is_on planned host tree) refl
  where
    by : trees ≡ row_of planned host trees ++ past_row planned host trees → (b : Bool) → is_on planned host tree ≡ b →
        tree ∷ trees ≡ row_of planned host (tree ∷ trees) ++ past_row planned host (tree ∷ trees)
    by others true is = rw (row_here planned host tree trees is, past_here planned host tree trees is)
        (ap (λ more. tree ∷ more) others)
    by others false is = rw (row_elsewhere planned host tree trees is, past_elsewhere planned host tree trees is) refl

-- ---- trust

-- each statement's host is trusted for it
abbrev pub AreRunWhereTrusted : PlannedShape → List BlockTree → Type 0
AreRunWhereTrusted planned trees = AllByRecursion (λ tree. IsTrustedThere planned (number_of tree)) trees

-- a host that holds all statements of a row is trusted for all of them
pub all_in_row : (planned : PlannedShape) (host : HostId) (trees : List BlockTree) →
    AreRunWhereTrusted planned trees → past_row planned host trees ≡ [] →
    is_trusted_for_all planned host (map number_of trees) ≡ true
all_in_row planned host [] trusted none = refl
all_in_row planned host (tree ∷ trees) trusted none =
    by (all_in_row planned host trees trusted.1) (is_on planned host tree) refl
  where
    by : (past_row planned host trees ≡ [] → is_trusted_for_all planned host (map number_of trees) ≡ true) →
        (b : Bool) → is_on planned host tree ≡ b →
        is_trusted_for_all planned host (map number_of (tree ∷ trees)) ≡ true
    by others true is =
        let there = statement_host planned.plan (number_of tree) in
        let same = same_host there host (eqb-true there.0 host.0 is) in
        let P : HostId → Type 0 = λ one. is_trusted_for planned one (number_of tree) ≡ true in
        rw (subst P same trusted.0) (others (sym (past_here planned host tree trees is) ∙ none))
    by others false is = absurd (nothing (sym (past_elsewhere planned host tree trees is) ∙ none))
      where
        nothing : tree ∷ trees ≡ [] → ⊥
        nothing same = cc

-- a host that is trusted for all statements is trusted for all that is due, as another one is
pub trusted_due : (planned : PlannedShape) (from host : HostId) (trees : List BlockTree) →
    AreDueOn planned from (map run trees) → is_trusted_for_all planned host (map number_of trees) ≡ true →
    AreDueOn planned host (map run trees)
trusted_due planned from host [] due all = tt
trusted_due planned from host (tree ∷ trees) due all =
    by (trusted_due planned from host trees due.1) (is_trusted_for planned host (number_of tree)) refl
  where
    by : (is_trusted_for_all planned host (map number_of trees) ≡ true → AreDueOn planned host (map run trees)) →
        (b : Bool) → is_trusted_for planned host (number_of tree) ≡ b → AreDueOn planned host (map run (tree ∷ trees))
    by others true is = ((is, due.0.1), others (rw is at all))
    by others false is = absurd (true≢false (sym (rw is at all)))

-- the statements in a row on a host are due on it
pub row_due : (planned : PlannedShape) (from host : HostId) (trees : List BlockTree) →
    AreDueOn planned from (map run trees) → AreRunWhereTrusted planned trees →
    AreDueOn planned host (map run (row_of planned host trees))
row_due planned from host [] due trusted = tt
row_due planned from host (tree ∷ trees) due trusted =
    by (row_due planned from host trees due.1 trusted.1) (is_on planned host tree) refl
  where
    by : AreDueOn planned host (map run (row_of planned host trees)) → (b : Bool) → is_on planned host tree ≡ b →
        AreDueOn planned host (map run (row_of planned host (tree ∷ trees)))
    by others true is =
        let there = statement_host planned.plan (number_of tree) in
        let same = same_host there host (eqb-true there.0 host.0 is) in
        let P : HostId → Type 0 = λ one. is_trusted_for planned one (number_of tree) ≡ true in
        let Q : List BlockTree → Type 0 = λ row. AreDueOn planned host (map run row) in
        subst Q (sym (row_here planned host tree trees is)) ((subst P same trusted.0, due.0.1), others)
    by others false is =
        let Q : List BlockTree → Type 0 = λ row. AreDueOn planned host (map run row) in
        subst Q (sym (row_elsewhere planned host tree trees is)) tt

-- what is due in a row, or behind it, is part of what is due
pub due_in_row : (planned : PlannedShape) (host on_host : HostId) (trees : List BlockTree) →
    AreDueOn planned host (map run trees) → AreDueOn planned host (map run (row_of planned on_host trees))
due_in_row planned host on_host [] due = tt
due_in_row planned host on_host (tree ∷ trees) due =
    by (due_in_row planned host on_host trees due.1) (is_on planned on_host tree) refl
  where
    Q : List BlockTree → Type 0
    Q row = AreDueOn planned host (map run row)

    by : AreDueOn planned host (map run (row_of planned on_host trees)) → (b : Bool) → is_on planned on_host tree ≡ b →
        AreDueOn planned host (map run (row_of planned on_host (tree ∷ trees)))
    by others true is = subst Q (sym (row_here planned on_host tree trees is)) (due.0, others)
    by others false is = subst Q (sym (row_elsewhere planned on_host tree trees is)) tt

pub due_past : (planned : PlannedShape) (host on_host : HostId) (trees : List BlockTree) →
    AreDueOn planned host (map run trees) → AreDueOn planned host (map run (past_row planned on_host trees))
due_past planned host on_host [] due = tt
due_past planned host on_host (tree ∷ trees) due =
    by (due_past planned host on_host trees due.1) (is_on planned on_host tree) refl
  where
    Q : List BlockTree → Type 0
    Q row = AreDueOn planned host (map run row)

    by : AreDueOn planned host (map run (past_row planned on_host trees)) → (b : Bool) →
        is_on planned on_host tree ≡ b →
        AreDueOn planned host (map run (past_row planned on_host (tree ∷ trees)))
    by others true is = subst Q (sym (past_here planned on_host tree trees is)) others
    by others false is = subst Q (sym (past_elsewhere planned on_host tree trees is)) due

-- whoever gets the token back is trusted for all that is left
chosen_of_two : (P : HostId → Type 0) (b c : Bool) (one other : HostId) → (b ≡ true → P one) → P other →
    P (if b && c then one else other)
chosen_of_two P true true one other first second = first refl
chosen_of_two P true false one other first second = second
chosen_of_two P false c one other first second = second

pub return_due : (planned : PlannedShape) (from host : HostId) (trees : List BlockTree) →
    AreDueOn planned from (map run trees) →
    AreDueOn planned (return_host planned from host (map number_of trees)) (map run trees)
return_due planned from host trees due = by (host_behind planned host (map number_of trees)) refl
  where
    P : HostId → Type 0
    P one = AreDueOn planned one (map run trees)

    by : (behind : Option HostId) → host_behind planned host (map number_of trees) ≡ behind →
        P (return_host planned from host (map number_of trees))
    by None is = rw is due
    by (Some next) is = rw is (chosen_of_two P (is_trusted_for_all planned next (map number_of trees)) _ next from
        (trusted_due planned from next trees due) due)

-- ---- needs

pub run_numbers : (trees : List BlockTree) → due_numbers (map run trees) ≡ map number_of trees
run_numbers [] = refl
run_numbers (tree ∷ trees) = ap (λ others. number_of tree ∷ others) (run_numbers trees)

pub row_numbers : (planned : PlannedShape) (host : HostId) (trees : List BlockTree) →
    map number_of (row_of planned host trees) ≡ row_on planned host (map number_of trees)
row_numbers planned host [] = refl
row_numbers planned host (tree ∷ trees) =
    by (row_numbers planned host trees) (is_on planned host tree) refl
  where
    by : map number_of (row_of planned host trees) ≡ row_on planned host (map number_of trees) → (b : Bool) →
        is_on planned host tree ≡ b →
        map number_of (row_of planned host (tree ∷ trees)) ≡ row_on planned host (map number_of (tree ∷ trees))
    by others true is = rw is (ap (λ more. number_of tree ∷ more) others)
    by others false is = rw is refl

pub past_numbers : (planned : PlannedShape) (host : HostId) (trees : List BlockTree) →
    map number_of (past_row planned host trees) ≡ behind_row planned host (map number_of trees)
past_numbers planned host [] = refl
past_numbers planned host (tree ∷ trees) =
    by (past_numbers planned host trees) (is_on planned host tree) refl
  where
    by : map number_of (past_row planned host trees) ≡ behind_row planned host (map number_of trees) → (b : Bool) →
        is_on planned host tree ≡ b →
        map number_of (past_row planned host (tree ∷ trees)) ≡ behind_row planned host (map number_of (tree ∷ trees))
    by others true is = rw is others
    by others false is = rw is refl

-- a word with more bits covers what the word does
pub covers_more : (planned : PlannedShape) (need more : ℕ) (due : List DueWork) → Covers planned need due →
    ((principal : ℕ) → principal < READERS → bit_at need principal ≤ bit_at more principal) → Covers planned more due
covers_more planned need more [] covers within = tt
covers_more planned need more (item ∷ others) covers within = (
  λ principal below. let one = covers.0 principal below in let two = within principal below in omega arith,
  covers_more planned need more others covers.1 within,
)

-- the need of what is due covers all of it
pub covers_due : (planned : PlannedShape) (due : List DueWork) → Covers planned (need_due planned due) due
covers_due planned [] = tt
covers_due planned (item ∷ others) =
    let one = slice_index planned.needs.need (number_of (statement_due item)).0 in
    let rest = need_due planned others in (
      λ principal below. let both = bit_at_or one rest principal in omega arith,
      covers_more planned rest (bit_or one rest) others (covers_due planned others)
          (λ principal below. let both = bit_at_or one rest principal in omega arith),
    )
