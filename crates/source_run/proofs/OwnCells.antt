-- Variables of a frame that have a fixed place, and others: how they are read and set.
use Rattle.std.proofs.Common.{◌≡◌, ℕ, zero, suc, ◌+◌, ◌<◌, ◌≢◌, ◌==◌, Bool, List, []}
use Rattle.std.proofs.Common.{◌∷◌, ◌++◌, length, refl, sym, ap}
use Rattle.std.proofs.Common.{◌∙◌, ℤ, pos, subst, arith, get_or, eq-eqb, ne_eqb}
use Rattle.std.specs.Prelude.{if◌then◌else◌, slice_set, replicate}
use Rattle.std.proofs.lemmas.Bool.Decides.{nat_tests}
use Rattle.js_base.specs.declared.ids.VarId.{VarId}
use Rattle.source_run.specs.declared.cells.Cell.{Cell}
use Rattle.source_run.specs.declared.windows.Window.{Window}
use Rattle.source_run.specs.Cells.{value_in, with_cell}
use Rattle.source_run.specs.Windows.{own_cells, blank_cells}

at_same : {X : Type 0} (a b : ℕ) (x y : X) → a ≡ b → (if a == b then x else y) ≡ x
at_same a b x y same = subst (λ (t : Bool). (if t then x else y) ≡ x) (sym (eq-eqb a b same)) refl

at_other : {X : Type 0} (a b : ℕ) (x y : X) → a ≢ b → (if a == b then x else y) ≡ y
at_other a b x y differ = subst (λ (t : Bool). (if t then x else y) ≡ y) (sym (ne_eqb a b differ)) refl

pub value-own : (own : List ℤ) (first place x : ℕ) (others : List Cell) → place < length own → first + place ≡ x
    → value_in (own_cells first own ++ others) x ≡ get_or own place (pos 0)
value-own [] first place x others within at = absurd (omega arith)
value-own (value ∷ own) first zero x others within at = at_same first x value _ (omega arith)
value-own (value ∷ own) first (suc place) x others within at =
    at_other first x value _ (λ same. absurd (omega arith))
    ∙ value-own own (suc first) place x others (omega arith) (omega arith)

-- none of the numbers from one on is this one
past : (first count x : ℕ) → ((k : ℕ) → k < suc count → first + k ≢ x) → (k : ℕ) → k < count → suc first + k ≢ x
past first count x none k below =
    λ is. none (suc k) (omega arith) (let same : suc first + k ≡ x = is in omega arith)

not_first : (first count x : ℕ) → ((k : ℕ) → k < suc count → first + k ≢ x) → first ≢ x
not_first first count x none = λ is. none 0 (omega arith) (let same : first ≡ x = is in omega arith)

pub value-others : (own : List ℤ) (first x : ℕ) (others : List Cell) → ((k : ℕ) → k < length own → first + k ≢ x)
    → value_in (own_cells first own ++ others) x ≡ value_in others x
value-others [] first x others none = refl
value-others (value ∷ own) first x others none =
    at_other first x value _ (not_first first (length own) x none)
    ∙ value-others own (suc first) x others (past first (length own) x none)

pub set-own : (own : List ℤ) (first place : ℕ) (x : VarId) (value : ℤ) (others : List Cell) → place < length own
    → first + place ≡ x.0
    → own_cells first (slice_set own place value) ++ others ≡ with_cell (own_cells first own ++ others) x value
set-own [] first place x value others within at = absurd (omega arith)
set-own (old ∷ own) first zero x value others within at =
    let same : first ≡ x.0 = omega arith in
    let cell : ℕ → Cell = λ n. record { var = record { 0 = n }; value = value } in
    ap (λ (n : ℕ). cell n ∷ (own_cells (suc first) own ++ others)) same ∙ sym (at_same first x.0 _ _ same)
set-own (old ∷ own) first (suc place) x value others within at =
    let head : Cell = record { var = record { 0 = first }; value = old } in
    ap (λ (cells : List Cell). head ∷ cells)
    (set-own own (suc first) place x value others (omega arith) (omega arith))
    ∙ sym (at_other first x.0 _ _ (λ same. absurd (omega arith)))

pub set-others : (own : List ℤ) (first : ℕ) (x : VarId) (value : ℤ) (others : List Cell)
    → ((k : ℕ) → k < length own → first + k ≢ x.0)
    → own_cells first own ++ with_cell others x value ≡ with_cell (own_cells first own ++ others) x value
set-others [] first x value others none = refl
set-others (old ∷ own) first x value others none =
    let head : Cell = record { var = record { 0 = first }; value = old } in
    ap (λ (cells : List Cell). head ∷ cells)
    (set-others own (suc first) x value others (past first (length own) x.0 none))
    ∙ sym (at_other first x.0 _ _ (not_first first (length own) x.0 none))

-- nothing was set in a blank window
pub value-blank : (window : Window) (x : ℕ) → value_in (blank_cells window) x ≡ pos 0
value-blank window x = zeros window.count window.first x
  where
    either : (a b : ℕ) (value : ℤ) → (if a == b then value else value) ≡ value
    either a b value = grind (arith, nat_tests)

    zeros : (count first x : ℕ) → value_in (own_cells first (replicate count (pos 0))) x ≡ pos 0
    zeros zero first x = refl
    zeros (suc count) first x =
        ap (λ (rest : ℤ). if first == x then pos 0 else rest) (zeros count (suc first) x) ∙ either first x (pos 0)
