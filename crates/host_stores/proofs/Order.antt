-- The order of variables: what it tells, and what cells in order keep.
use Rattle.std.proofs.Common.{◌≡◌, ◌⊎◌, ◌<◌, ℕ, zero, suc, true, false, List, [], ◌∷◌}
use Rattle.std.proofs.Common.{Some, Ordering, Less, Equal, Greater, refl, sym, subst, ◌∙◌, arith, inl, inr}
use Rattle.std.specs.Prelude.{slice_get}
use Rattle.std.specs.Cmp.{nat_cmp_is}
use Rattle.std.specs.List.{AllByRecursion}
use Rattle.std.specs.Ordering.{nat_cmp}
use Rattle.std.proofs.lemmas.Bool.{cases_lt}
use Rattle.std.proofs.lemmas.Bool.Decides.{nat_tests}
use Rattle.js_base.specs.declared.ids.FrameId.{FrameId}
use Rattle.js_base.specs.declared.ids.VarId.{VarId}
use Rattle.host_stores.specs.declared.variables.VarCell.{VarCell}
use Rattle.host_stores.specs.Order.{variable_order, cell_order, IsBefore, AreInOrder}
use Rattle.host_stores.specs.Stores.{is_same_variable}

-- ---- what the order tells

-- it comes before by its site, by its count, or by the variable
abbrev pub ComesBefore : FrameId → VarId → FrameId → VarId → Type 0
ComesBefore frame x other y =
    (frame.site.0 < other.site.0)
    ⊎ ((frame.site.0 ≡ other.site.0)
    × ((frame.count < other.count) ⊎ ((frame.count ≡ other.count) × (x.0 < y.0))))

pub record AreOne (frame : FrameId) (x : VarId) (other : FrameId) (y : VarId) : Type 0 where
  pub site : frame.site.0 ≡ other.site.0
  pub count : frame.count ≡ other.count
  pub variable : x.0 ≡ y.0

abbrev Tells : FrameId → VarId → FrameId → VarId → Ordering → Type 0
Tells frame x other y Less = ComesBefore frame x other y
Tells frame x other y Equal = AreOne frame x other y
Tells frame x other y Greater = ComesBefore other y frame x

-- of two numbers one is less, or they are the same
abbrev Compared : ℕ → ℕ → Type 0
Compared m n = (m < n) ⊎ ((m ≡ n) ⊎ (n < m))

compared : (m n : ℕ) → Compared m n
compared m n = elim (cases_lt m n) [
  | inl less ↦ inl less
  | inr more ↦ elim (cases_lt n m) [ inl greater ↦ inr (inr greater) | inr no_more ↦ inr (inl (omega arith)) ]
]

less_is : (m n : ℕ) → m < n → nat_cmp m n ≡ Less
less_is m n is = sym (nat_cmp_is m n Less is)

equal_is : (m n : ℕ) → m ≡ n → nat_cmp m n ≡ Equal
equal_is m n is = sym (nat_cmp_is m n Equal is)

greater_is : (m n : ℕ) → n < m → nat_cmp m n ≡ Greater
greater_is m n is = sym (nat_cmp_is m n Greater is)

tells : (frame : FrameId) (x : VarId) (other : FrameId) (y : VarId) →
    Tells frame x other y (variable_order frame x other y)
tells frame x other y = elim (compared frame.site.0 other.site.0) [
  | inl less ↦ rw (less_is frame.site.0 other.site.0 less) (inl less)
  | inr (inr more) ↦ rw (greater_is frame.site.0 other.site.0 more) (inl more)
  | inr (inl site) ↦ elim (compared frame.count other.count) [
    | inl less ↦ rw (equal_is frame.site.0 other.site.0 site, less_is frame.count other.count less)
        (inr (site, inl less))
    | inr (inr more) ↦ rw (equal_is frame.site.0 other.site.0 site, greater_is frame.count other.count more)
        (inr (sym site, inl more))
    | inr (inl count) ↦ elim (compared x.0 y.0) [
      | inl less ↦ rw (
        equal_is frame.site.0 other.site.0 site,
        equal_is frame.count other.count count,
        less_is x.0 y.0 less,
      ) (inr (site, inr (count, less)))
      | inr (inl variable) ↦ rw (
        equal_is frame.site.0 other.site.0 site,
        equal_is frame.count other.count count,
        equal_is x.0 y.0 variable,
      ) (record { site = site; count = count; variable = variable })
      | inr (inr more) ↦ rw (
        equal_is frame.site.0 other.site.0 site,
        equal_is frame.count other.count count,
        greater_is x.0 y.0 more,
      ) (inr (sym site, inr (sym count, more)))
    ]
  ]
]

pub less_before : (frame : FrameId) (x : VarId) (other : FrameId) (y : VarId) →
    variable_order frame x other y ≡ Less → ComesBefore frame x other y
less_before frame x other y is = subst (Tells frame x other y) is (tells frame x other y)

pub equal_one : (frame : FrameId) (x : VarId) (other : FrameId) (y : VarId) →
    variable_order frame x other y ≡ Equal → AreOne frame x other y
equal_one frame x other y is = subst (Tells frame x other y) is (tells frame x other y)

pub greater_after : (frame : FrameId) (x : VarId) (other : FrameId) (y : VarId) →
    variable_order frame x other y ≡ Greater → ComesBefore other y frame x
greater_after frame x other y is = subst (Tells frame x other y) is (tells frame x other y)

pub before_less : (frame : FrameId) (x : VarId) (other : FrameId) (y : VarId) → ComesBefore frame x other y →
    variable_order frame x other y ≡ Less
before_less frame x other y (inl site) = rw (less_is frame.site.0 other.site.0 site) refl
before_less frame x other y (inr (site, inl count)) =
    rw (equal_is frame.site.0 other.site.0 site, less_is frame.count other.count count) refl
before_less frame x other y (inr (site, inr (count, variable))) =
    rw (equal_is frame.site.0 other.site.0 site, equal_is frame.count other.count count, less_is x.0 y.0 variable) refl

-- ---- it is an order

then_before : (frame : FrameId) (x : VarId) (other : FrameId) (y : VarId) (third : FrameId) (z : VarId) →
    ComesBefore frame x other y → ComesBefore other y third z → ComesBefore frame x third z
then_before frame x other y third z (inl one) (inl two) = inl (omega arith)
then_before frame x other y third z (inl one) (inr two) = inl (omega (arith, two.0))
then_before frame x other y third z (inr one) (inl two) = inl (omega (arith, one.0))
then_before frame x other y third z (inr (site, inl one)) (inr (same, inl two)) = inr (site ∙ same, inl (omega arith))
then_before frame x other y third z (inr (site, inl one)) (inr (same, inr two)) =
    inr (site ∙ same, inl (omega (arith, two.0)))
then_before frame x other y third z (inr (site, inr one)) (inr (same, inl two)) =
    inr (site ∙ same, inl (omega (arith, one.0)))
then_before frame x other y third z (inr (site, inr one)) (inr (same, inr two)) =
    inr (site ∙ same, inr (one.0 ∙ two.0, omega (arith, one.1, two.1)))

one_before : (frame : FrameId) (x : VarId) (other : FrameId) (y : VarId) (third : FrameId) (z : VarId) →
    ComesBefore frame x other y → AreOne other y third z → ComesBefore frame x third z
one_before frame x other y third z (inl before) same = inl (omega (arith, same.site))
one_before frame x other y third z (inr (site, inl before)) same =
    inr (site ∙ same.site, inl (omega (arith, same.count)))
one_before frame x other y third z (inr (site, inr before)) same =
    inr (site ∙ same.site, inr (before.0 ∙ same.count, omega (arith, before.1, same.variable)))

-- what comes before another is not the same
pub before_apart : (frame : FrameId) (x : VarId) (other : FrameId) (y : VarId) → ComesBefore frame x other y →
    is_same_variable frame x other y ≡ false
before_apart frame x other y (inl site) = grind (arith, nat_tests)
before_apart frame x other y (inr (site, inl count)) = grind (arith, nat_tests)
before_apart frame x other y (inr (site, inr (count, variable))) = grind (arith, nat_tests)

pub after_apart : (frame : FrameId) (x : VarId) (other : FrameId) (y : VarId) → ComesBefore other y frame x →
    is_same_variable frame x other y ≡ false
after_apart frame x other y (inl site) = grind (arith, nat_tests)
after_apart frame x other y (inr (site, inl count)) = grind (arith, nat_tests)
after_apart frame x other y (inr (site, inr (count, variable))) = grind (arith, nat_tests)

pub one_same : (frame : FrameId) (x : VarId) (other : FrameId) (y : VarId) → AreOne frame x other y →
    is_same_variable frame x other y ≡ true
one_same frame x other y is =
    let site = is.site in
    let count = is.count in
    let variable = is.variable in
    grind (arith, nat_tests)

-- a cell before one that is not behind a variable is before the variable
pub before_rises : (cell other : VarCell) (frame : FrameId) (x : VarId) (order : Ordering) → IsBefore cell other →
    cell_order frame x other ≡ order → (cell_order frame x cell ≡ Less) ⊎ (order ≡ Greater)
before_rises cell other frame x Less before is =
    inl (before_less cell.frame cell.var frame x (then_before cell.frame cell.var other.frame other.var frame x
    (less_before cell.frame cell.var other.frame other.var before) (less_before other.frame other.var frame x is)))
before_rises cell other frame x Equal before is =
    inl (before_less cell.frame cell.var frame x (one_before cell.frame cell.var other.frame other.var frame x
    (less_before cell.frame cell.var other.frame other.var before) (equal_one other.frame other.var frame x is)))
before_rises cell other frame x Greater before is = inr refl

-- ---- cells in order

pub later_cells : (P : VarCell → Type 0) (cells : List VarCell) (place : ℕ) (cell : VarCell) →
    AllByRecursion P cells → slice_get cells place ≡ Some cell → P cell
later_cells P [] place cell all there = absurd cc
later_cells P (first ∷ cells) zero cell all there = subst P (let same : first ≡ cell = cc in same) all.0
later_cells P (first ∷ cells) (suc place) cell all there = later_cells P cells place cell all.1 there

pub in_order_at : (cells : List VarCell) (i j : ℕ) (one other : VarCell) → AreInOrder cells → i < j →
    slice_get cells i ≡ Some one → slice_get cells j ≡ Some other → IsBefore one other
in_order_at [] i j one other order less here there = absurd cc
in_order_at (first ∷ cells) i zero one other order less here there = absurd (omega arith)
in_order_at (first ∷ cells) zero (suc j) one other order less here there =
    subst (λ cell. IsBefore cell other) (let same : first ≡ one = cc in same)
    (later_cells (IsBefore first) cells j other order.0 there)
in_order_at (first ∷ cells) (suc i) (suc j) one other order less here there =
    in_order_at cells i j one other order.1 (omega (arith, less)) here there
