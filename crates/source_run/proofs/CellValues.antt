-- Cells of variables: what setting one does to the values.
use Rattle.std.proofs.Common.{◌≡◌, ℕ, suc, ◌==◌, Bool, true, false, List, [], ◌∷◌, ◌++◌, Option}
use Rattle.std.proofs.Common.{Some, None, refl}
use Rattle.std.proofs.Common.{sym, ap, ◌∙◌, ℤ, subst, arith, inl, inr, pos}
use Rattle.std.specs.Prelude.{if◌then◌else◌, slice_set}
use Rattle.std.specs.Option.{option_map}
use Rattle.std.proofs.lemmas.Bool.{cases_Bool}
use Rattle.std.proofs.lemmas.Bool.Decides.{nat_tests}
use Rattle.js_base.specs.declared.ids.VarId.{VarId}
use Rattle.jif_tree.specs.SourceRun.{with_value}
use Rattle.source_run.specs.declared.cells.Cell.{Cell}
use Rattle.source_run.specs.Cells.{value_in, place_in, with_cell}

-- a place past the head
past_head : (found : Option ℕ) (place : ℕ) → option_map (λ p. suc p) found ≡ Some place
    → (p : ℕ) × (found ≡ Some p) × (place ≡ suc p)
past_head None place is = absurd (let e : None ≡ Some place = is in cc)
past_head (Some p) place is = (p, refl, (let e : Some (suc p) ≡ Some place = is in cc))

at_head : (place : ℕ) → Some 0 ≡ Some place → place ≡ 0
at_head place is = cc

none_found : (found : Option ℕ) → option_map (λ p. suc p) found ≡ None → found ≡ None
none_found None is = refl
none_found (Some p) is = absurd (let e : Some (suc p) ≡ None = is in cc)

-- a cell that is there is changed
pub with_cell-set : (cells : List Cell) (x : VarId) (place : ℕ) (value : ℤ) → place_in cells x.0 ≡ Some place
    → slice_set cells place (record { var = x; value = value }) ≡ with_cell cells x value
with_cell-set [] x place value at = absurd (let e : None ≡ Some place = at in cc)
with_cell-set (cell ∷ cells) x place value at =
    let changed : Cell = record { var = x; value = value } in
    let after : ℕ → Bool → Type 0 = λ n b. slice_set (cell ∷ cells) n changed
    ≡ (if b then changed ∷ cells else cell ∷ with_cell cells x value) in
    let at_test : Bool → Type 0 =
    λ b. (if b then Some 0 else option_map (λ p. suc p) (place_in cells x.0)) ≡ Some place in
    elim (cases_Bool (cell.var.0 == x.0)) as (λ _. after place (cell.var.0 == x.0)) [
      | inl same ↦ subst (λ (n : ℕ). after n (cell.var.0 == x.0)) (sym (at_head place (subst at_test same at)))
          (subst (λ (b : Bool). after 0 b) (sym same) refl)
      | inr differs ↦
          let found = past_head (place_in cells x.0) place (subst at_test differs at) in
          subst (λ (n : ℕ). after n (cell.var.0 == x.0)) (sym found.2)
          (subst (λ (b : Bool). after (suc found.0) b) (sym differs)
          (ap (λ (xs : List Cell). cell ∷ xs) (with_cell-set cells x found.0 value found.1)))
    ]

-- a cell that is not there is added
pub with_cell-push : (cells : List Cell) (x : VarId) (value : ℤ) → place_in cells x.0 ≡ None
    → cells ++ record { var = x; value = value } ∷ [] ≡ with_cell cells x value
with_cell-push [] x value none = refl
with_cell-push (cell ∷ cells) x value none =
    let added : Cell = record { var = x; value = value } in
    let after : Bool → Type 0 = λ b. cell ∷ (cells ++ added ∷ [])
    ≡ (if b then added ∷ cells else cell ∷ with_cell cells x value) in
    let at_test : Bool → Type 0 =
    λ b. (if b then Some 0 else option_map (λ p. suc p) (place_in cells x.0)) ≡ None in
    elim (cases_Bool (cell.var.0 == x.0)) as (λ _. after (cell.var.0 == x.0)) [
      | inl same ↦ absurd (let e : Some 0 ≡ None = subst at_test same none in cc)
      | inr differs ↦ subst after (sym differs)
          (ap (λ (xs : List Cell). cell ∷ xs)
          (with_cell-push cells x value (none_found (place_in cells x.0) (subst at_test differs none))))
    ]

-- the head is the variable that is set
set_head : (head x y : ℕ) (old value rest : ℤ) → (head == x) ≡ true
    → (if x == y then value else rest) ≡ (if y == x then value else (if head == y then old else rest))
set_head head x y old value rest same = grind (arith, nat_tests)

-- the head is another variable
set_later : (head x y : ℕ) (old value rest : ℤ) → (head == x) ≡ false
    → (if head == y then old else (if y == x then value else rest))
    ≡ (if y == x then value else (if head == y then old else rest))
set_later head x y old value rest differs = grind (arith, nat_tests)

-- the values after a variable was set
pub value_in-with_cell : (cells : List Cell) (x : VarId) (value : ℤ) (y : ℕ)
    → value_in (with_cell cells x value) y ≡ with_value (value_in cells) x.0 value y
value_in-with_cell [] x value y = set_nothing x.0 y value
  where
    set_nothing : (x y : ℕ) (value : ℤ) → (if x == y then value else pos 0) ≡ (if y == x then value else pos 0)
    set_nothing x y value = grind (arith, nat_tests)
value_in-with_cell (cell ∷ cells) x value y =
    let changed : Cell = record { var = x; value = value } in
    let after : Bool → Type 0 = λ b. value_in (if b then changed ∷ cells else cell ∷ with_cell cells x value) y
    ≡ with_value (value_in (cell ∷ cells)) x.0 value y in
    elim (cases_Bool (cell.var.0 == x.0)) as (λ _. after (cell.var.0 == x.0)) [
      | inl same ↦ subst after (sym same) (set_head cell.var.0 x.0 y cell.value value (value_in cells y) same)
      | inr differs ↦ subst after (sym differs)
          (ap (λ (rest : ℤ). if cell.var.0 == y then cell.value else rest) (value_in-with_cell cells x value y)
          ∙ set_later cell.var.0 x.0 y cell.value value (value_in cells y) differs)
    ]
