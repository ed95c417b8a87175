-- Cells of variables in order: which is found, and what a cell that is changed or added does to the values.
use Rattle.std.proofs.Common.{◌≡◌, ◌⊎◌, ◌<◌, ◌≤◌, ℕ, zero, suc, Bool, true, false, List, [], ◌∷◌, ◌++◌, length}
use Rattle.std.proofs.Common.{take, drop, Option, Some, None, Result, Ok, Err, Ordering, Less, Equal, Greater, refl}
use Rattle.std.proofs.Common.{ap, sym, ◌∙◌, ℤ, pos}
use Rattle.std.proofs.Common.{subst, arith, inl, inr}
use Rattle.std.specs.Prelude.{IsSomeAnd, if◌then◌else◌, ◌||◌, slice_get, slice_set, slice_index_or}
use Rattle.std.specs.List.{AllByRecursion, insert}
use Rattle.std.specs.List.Sorted.{IsNonDecreasingBy, IsBinarySearchResult, IsSearchInRange}
use Rattle.std.specs.Option.{option_map}
use Rattle.std.specs.Ordering.{ordering_index}
use Rattle.std.proofs.lemmas.Bool.{cases_Bool, cases_lt, false≢true}
use Rattle.std.proofs.lemmas.List.{take-append-drop}
use Rattle.std.proofs.lemmas.Option.{slice_get_within}
use Rattle.js_base.proofs.Options.{some_same}
use Rattle.std.proofs.lemmas.Bool.Decides.{nat_tests}
use Rattle.js_base.specs.declared.ids.FrameId.{FrameId}
use Rattle.js_base.specs.declared.ids.VarId.{VarId}
use Rattle.host_stores.specs.declared.variables.VarCell.{VarCell}
use Rattle.host_stores.specs.Order.{variable_order, cell_order, IsBefore, AreInOrder, IsPlaceOf}
use Rattle.host_stores.specs.Stores.{is_same_variable, with_variable, value_in, is_set}
use Rattle.host_stores.proofs.Order.{less_before, equal_one, greater_after, before_apart, after_apart}
use Rattle.host_stores.proofs.Order.{before_less, one_same, before_rises, later_cells, in_order_at}

-- the place of the first cell of the variable
abbrev place_in : List VarCell → FrameId → VarId → Option ℕ
place_in [] frame variable = None
place_in (cell ∷ cells) frame variable =
    if is_same_variable cell.frame cell.var frame variable
    then Some 0
    else option_map (λ place. suc place) (place_in cells frame variable)

-- the parts of what is the same are the same
pub record HasSameParts (frame : FrameId) (x : VarId) (other : FrameId) (y : VarId) : Type 0 where
  pub site : frame.site.0 ≡ other.site.0
  pub count : frame.count ≡ other.count
  pub variable : x.0 ≡ y.0

same_parts : (frame : FrameId) (x : VarId) (other : FrameId) (y : VarId) → is_same_variable frame x other y ≡ true
    → HasSameParts frame x other y
same_parts frame x other y is = record {
  site = grind (arith, nat_tests);
  count = grind (arith, nat_tests);
  variable = grind (arith, nat_tests);
}

-- what is the same is the same as whatever the other is
same_as : (frame : FrameId) (x : VarId) (other : FrameId) (y : VarId) (third : FrameId) (z : VarId)
    → is_same_variable frame x other y ≡ true → is_same_variable frame x third z ≡ is_same_variable other y third z
same_as frame x other y third z is =
    let parts = same_parts frame x other y is in
    let site = parts.site in
    let count = parts.count in
    let variable = parts.variable in
    cc

pub itself : (frame : FrameId) (x : VarId) → is_same_variable frame x frame x ≡ true
itself frame x = grind (arith, nat_tests)

-- the other way round
reversed : (frame : FrameId) (x : VarId) (other : FrameId) (y : VarId) → is_same_variable frame x other y ≡ true
    → is_same_variable other y frame x ≡ true
reversed frame x other y is = sym (same_as frame x other y frame x is) ∙ itself frame x

-- ---- a cell that is changed

found_head : (s : Bool) (value old rest : ℤ)
    → (if s then value else rest) ≡ (if s then value else (if s then old else rest))
found_head true value old rest = refl
found_head false value old rest = refl

found_later : (s t : Bool) (value head rest : ℤ) → (s ≡ true → t ≡ true → ⊥)
    → (if s then head else (if t then value else rest)) ≡ (if t then value else (if s then head else rest))
found_later true true value head rest not_both = absurd (not_both refl refl)
found_later true false value head rest not_both = refl
found_later false true value head rest not_both = refl
found_later false false value head rest not_both = refl

-- a place past the head
past_head : (found : Option ℕ) (place : ℕ) → option_map (λ p. suc p) found ≡ Some place
    → (p : ℕ) × (found ≡ Some p) × (place ≡ suc p)
past_head None place is = absurd (let e : None ≡ Some place = is in cc)
past_head (Some p) place is = (p, refl, (let e : Some (suc p) ≡ Some place = is in cc))

at_head : (place : ℕ) → Some 0 ≡ Some place → place ≡ 0
at_head place is = cc

-- the first cell of the variable gets another value
pub value_in-set : (cells : List VarCell) (frame : FrameId) (x : VarId) (place : ℕ) (changed : VarCell)
    (other : FrameId) (y : VarId) → place_in cells frame x ≡ Some place
    → is_same_variable changed.frame changed.var frame x ≡ true
    → value_in (slice_set cells place changed) other y ≡ with_variable (value_in cells) frame x changed.value other y
value_in-set [] frame x place changed other y at is = absurd (let e : None ≡ Some place = at in cc)
value_in-set (cell ∷ cells) frame x place changed other y at is =
    let after : ℕ → Type 0 = λ n. value_in (slice_set (cell ∷ cells) n changed) other y
    ≡ with_variable (value_in (cell ∷ cells)) frame x changed.value other y in
    let at_test : Bool → Type 0 =
    λ b. (if b then Some 0 else option_map (λ p. suc p) (place_in cells frame x)) ≡ Some place in
    elim (cases_Bool (is_same_variable cell.frame cell.var frame x)) as (λ _. after place) [
      | inl same ↦ subst after (sym (at_head place (subst at_test same at)))
          (let first = same_as changed.frame changed.var frame x other y is in
          let old = same_as cell.frame cell.var frame x other y same in
          rw (first, old) (found_head (is_same_variable frame x other y) changed.value cell.value
          (value_in cells other y)))
      | inr differs ↦
          let found = past_head (place_in cells frame x) place (subst at_test differs at) in
          subst after (sym found.2)
          (rw (value_in-set cells frame x found.0 changed other y found.1 is)
          (found_later (is_same_variable cell.frame cell.var other y) (is_same_variable frame x other y)
          changed.value cell.value (value_in cells other y)
          (λ head_is_other it_is_other. false≢true
          (sym differs ∙ same_as cell.frame cell.var other y frame x head_is_other
          ∙ reversed frame x other y it_is_other))))
    ]

-- ---- a cell that is added

value_in-between : (front back : List VarCell) (added : VarCell) (other : FrameId) (y : VarId) →
    AllByRecursion (λ cell. is_same_variable cell.frame cell.var added.frame added.var ≡ false) front →
    value_in (front ++ added ∷ back) other y
    ≡ with_variable (value_in (front ++ back)) added.frame added.var added.value other y
value_in-between [] back added other y apart = refl
value_in-between (cell ∷ front) back added other y apart =
    rw (value_in-between front back added other y apart.1)
    (found_later (is_same_variable cell.frame cell.var other y) (is_same_variable added.frame added.var other y)
    added.value cell.value (value_in (front ++ back) other y)
    (λ head_is_other it_is_other. false≢true
    (sym apart.0 ∙ same_as cell.frame cell.var other y added.frame added.var head_is_other
    ∙ reversed added.frame added.var other y it_is_other)))

-- ---- cells by their places

all_front : (P : VarCell → Type 0) (cells : List VarCell) (place : ℕ) →
    ((k : ℕ) (cell : VarCell) → k < place → slice_get cells k ≡ Some cell → P cell) →
    AllByRecursion P (take place cells)
all_front P cells zero each = tt
all_front P [] (suc place) each = tt
all_front P (cell ∷ cells) (suc place) each = (
  each 0 cell (omega arith) refl,
  all_front P cells place (λ k one less there. each (suc k) one (omega (arith, less)) there),
)

pub all_cells : (P : VarCell → Type 0) (cells : List VarCell) →
    ((k : ℕ) (cell : VarCell) → slice_get cells k ≡ Some cell → P cell) → AllByRecursion P cells
all_cells P [] each = tt
all_cells P (cell ∷ cells) each = (each 0 cell refl, all_cells P cells (λ k one there. each (suc k) one there))

-- a cell is added at its place
pub value_in-insert : (cells : List VarCell) (place : ℕ) (added : VarCell) (other : FrameId) (y : VarId) →
    IsPlaceOf cells added.frame added.var (Err place) →
    value_in (insert cells place added) other y
    ≡ with_variable (value_in cells) added.frame added.var added.value other y
value_in-insert cells place added other y is =
    let P : VarCell → Type 0 = λ cell. is_same_variable cell.frame cell.var added.frame added.var ≡ false in
    let apart = all_front P cells place (λ k cell less there. before_apart cell.frame cell.var added.frame added.var
    (less_before cell.frame cell.var added.frame added.var (is.1 k cell less there))) in
    value_in-between (take place cells) (drop place cells) added other y apart
    ∙ ap (λ (all : List VarCell). with_variable (value_in all) added.frame added.var added.value other y)
    (take-append-drop place cells)

-- ---- cells that are found

abbrev is_found : FrameId → VarId → VarCell → Bool
is_found frame x cell = is_same_variable cell.frame cell.var frame x

-- the cells before one that is found are others
head_apart : (first cell : VarCell) (frame : FrameId) (x : VarId) → IsBefore first cell →
    cell_order frame x cell ≡ Equal → is_found frame x first ≡ false
head_apart first cell frame x before is = elim (before_rises first cell frame x Equal before is) [
  | inl less ↦ before_apart first.frame first.var frame x (less_before first.frame first.var frame x less)
  | inr greater ↦ absurd cc
]

pub place_at : (cells : List VarCell) (place : ℕ) (cell : VarCell) (frame : FrameId) (x : VarId) → AreInOrder cells →
    slice_get cells place ≡ Some cell → cell_order frame x cell ≡ Equal → place_in cells frame x ≡ Some place
place_at [] place cell frame x order there is = absurd cc
place_at (first ∷ cells) zero cell frame x order there is =
    let same : first ≡ cell = cc in
    rw (subst (λ one. is_found frame x one ≡ true) (sym same)
    (one_same cell.frame cell.var frame x (equal_one cell.frame cell.var frame x is))) refl
place_at (first ∷ cells) (suc place) cell frame x order there is =
    rw (
      head_apart first cell frame x (later_cells (IsBefore first) cells place cell order.0 there) is,
      place_at cells place cell frame x order.1 there is,
    ) refl

pub value_at : (cells : List VarCell) (place : ℕ) (cell : VarCell) (frame : FrameId) (x : VarId) → AreInOrder cells →
    slice_get cells place ≡ Some cell → cell_order frame x cell ≡ Equal → value_in cells frame x ≡ cell.value
value_at [] place cell frame x order there is = absurd cc
value_at (first ∷ cells) zero cell frame x order there is =
    let same : first ≡ cell = cc in
    rw (subst (λ one. is_found frame x one ≡ true) (sym same)
    (one_same cell.frame cell.var frame x (equal_one cell.frame cell.var frame x is)))
    (ap (λ (one : VarCell). one.value) same)
value_at (first ∷ cells) (suc place) cell frame x order there is =
    rw (head_apart first cell frame x (later_cells (IsBefore first) cells place cell order.0 there) is)
    (value_at cells place cell frame x order.1 there is)

-- the cell that is at the place of a variable
pub found_at : (found : Option VarCell) (frame : FrameId) (x : VarId) →
    IsSomeAnd found (λ cell. cell_order frame x cell ≡ Equal) →
    (cell : VarCell) × (found ≡ Some cell) × (cell_order frame x cell ≡ Equal)
found_at None frame x is = absurd is
found_at (Some cell) frame x is = (cell, refl, is)

pub value_at_place : (cells : List VarCell) (place : ℕ) (d : VarCell) (frame : FrameId) (x : VarId) →
    AreInOrder cells → IsPlaceOf cells frame x (Ok place) →
    (slice_index_or cells place d).value ≡ value_in cells frame x
value_at_place [] place d frame x order is = absurd is
value_at_place (first ∷ cells) zero d frame x order is =
    sym (value_at (first ∷ cells) zero first frame x order refl is)
value_at_place (first ∷ cells) (suc place) d frame x order is =
    let cell = found_at (slice_get cells place) frame x is in
    rw (head_apart first cell.0 frame x (later_cells (IsBefore first) cells place cell.0 order.0 cell.1) cell.2)
    (value_at_place cells place d frame x order.1 is)

no_value : (cells : List VarCell) (frame : FrameId) (x : VarId) →
    AllByRecursion (λ cell. is_found frame x cell ≡ false) cells → value_in cells frame x ≡ pos 0
no_value [] frame x apart = refl
no_value (cell ∷ cells) frame x apart = rw apart.0 (no_value cells frame x apart.1)

-- no cell is at the place where one belongs
pub value_none : (cells : List VarCell) (place : ℕ) (frame : FrameId) (x : VarId) →
    IsPlaceOf cells frame x (Err place) → value_in cells frame x ≡ pos 0
value_none cells place frame x is =
    no_value cells frame x (all_cells (λ cell. is_found frame x cell ≡ false) cells (λ k cell there.
    elim (cases_lt k place) [
      | inl less ↦ before_apart cell.frame cell.var frame x
          (less_before cell.frame cell.var frame x (is.1 k cell less there))
      | inr more ↦ after_apart cell.frame cell.var frame x
          (greater_after cell.frame cell.var frame x (is.2 k cell more there))
    ]))

-- ---- what is searched

cell_there : (cells : List VarCell) (place : ℕ) → place < length cells →
    (cell : VarCell) × (slice_get cells place ≡ Some cell) × ((d : VarCell) → slice_index_or cells place d ≡ cell)
cell_there [] place within = absurd (omega arith)
cell_there (cell ∷ cells) zero within = (cell, refl, λ d. refl)
cell_there (cell ∷ cells) (suc place) within = cell_there cells place (omega (arith, within))

rises : (one other : Ordering) → (one ≡ Less) ⊎ (other ≡ Greater) → ordering_index one ≤ ordering_index other
rises one other (inl less) = rw less (omega arith)
rises Less other (inr greater) = rw greater (omega arith)
rises Equal other (inr greater) = rw greater (omega arith)
rises Greater other (inr greater) = rw greater (omega arith)

orders_rise : (cells : List VarCell) (frame : FrameId) (x : VarId) → AreInOrder cells →
    IsNonDecreasingBy (λ cell. ordering_index (cell_order frame x cell)) cells
orders_rise cells frame x order i j d less within =
    let one = cell_there cells i (omega (arith, less, within)) in
    let other = cell_there cells j within in
    let index : VarCell → ℕ = λ cell. ordering_index (cell_order frame x cell) in
    elim (cases_lt i j) [
      | inl before ↦
          rw (one.2 d, other.2 d)
          (rises (cell_order frame x one.0) (cell_order frame x other.0)
          (before_rises one.0 other.0 frame x (cell_order frame x other.0)
          (in_order_at cells i j one.0 other.0 order before one.1 other.1) refl))
      | inr after ↦
          let same : i ≡ j = omega (arith, less, after) in
          subst (λ n. index (slice_index_or cells n d) ≤ index (slice_index_or cells j d)) (sym same) (omega arith)
    ]

pub placed : (cells : List VarCell) (frame : FrameId) (x : VarId) (result : Result ℕ ℕ) → AreInOrder cells →
    IsSearchInRange result (length cells) → IsBinarySearchResult (cell_order frame x) cells result →
    IsPlaceOf cells frame x result
placed cells frame x (Ok place) order within found =
    let there = cell_there cells place within in
    rw there.1 (subst (λ cell. cell_order frame x cell ≡ Equal) (there.2 there.0) (found there.0))
placed cells frame x (Err place) order within found =
    let point = found (orders_rise cells frame x order) in (
      within,
      (λ k cell less there.
          let one = cell_there cells k (omega (arith, less, within)) in
          let same : one.0 ≡ cell = some_same (slice_get cells k) one.0 cell one.1 there in
          subst (λ it. cell_order frame x it ≡ Less) (one.2 cell ∙ same) (point.0 k cell (omega arith) less)),
      (λ k cell more there.
          let inside = slice_get_within cells k cell there in
          let one = cell_there cells k inside in
          let same : one.0 ≡ cell = some_same (slice_get cells k) one.0 cell one.1 there in
          subst (λ it. cell_order frame x it ≡ Greater) (one.2 cell ∙ same) (point.1 k cell more inside)),
    )

-- ---- cells stay in order

all_set : (P : VarCell → Type 0) (cells : List VarCell) (place : ℕ) (changed : VarCell) → AllByRecursion P cells →
    ((old : VarCell) → slice_get cells place ≡ Some old → P changed) → AllByRecursion P (slice_set cells place changed)
all_set P [] place changed all new = tt
all_set P (cell ∷ cells) zero changed all new = (new cell refl, all.1)
all_set P (cell ∷ cells) (suc place) changed all new =
    (all.0, all_set P cells place changed all.1 (λ old there. new old there))

-- a cell that gets another value
pub order-set : (cells : List VarCell) (place : ℕ) (old changed : VarCell) → AreInOrder cells →
    slice_get cells place ≡ Some old → old.frame ≡ changed.frame → old.var ≡ changed.var →
    AreInOrder (slice_set cells place changed)
order-set [] place old changed order there frames variables = absurd cc
order-set (cell ∷ cells) zero old changed order there frames variables =
    let same : cell ≡ old = cc in
    let front = subst (λ one. AllByRecursion (IsBefore one) cells) same order.0 in
    let moved = subst (λ frame. AllByRecursion (λ other. variable_order frame old.var other.frame other.var ≡ Less)
    cells) frames front in (
      subst (λ x. AllByRecursion (λ other. variable_order changed.frame x other.frame other.var ≡ Less) cells) variables
          moved,
      order.1,
    )
order-set (cell ∷ cells) (suc place) old changed order there frames variables =
    let before = later_cells (IsBefore cell) cells place old order.0 there in
    let moved = subst (λ frame. variable_order cell.frame cell.var frame old.var ≡ Less) frames before in
    let new = subst (λ x. variable_order cell.frame cell.var changed.frame x ≡ Less) variables moved in (
      all_set (IsBefore cell) cells place changed order.0 (λ one at. new),
      order-set cells place old changed order.1 there frames variables,
    )

-- the frame and the variable of the cell at the place of a variable are these
same_frame : (one other : FrameId) → one.site.0 ≡ other.site.0 → one.count ≡ other.count → one ≡ other
same_frame one other site count = λ i. record { site = record { 0 = site i }; count = count i }

same_variable : (x y : VarId) → x.0 ≡ y.0 → x ≡ y
same_variable x y same = λ i. record { 0 = same i }

parts_at : (cell : VarCell) (frame : FrameId) (x : VarId) → cell_order frame x cell ≡ Equal →
    (cell.frame ≡ frame) × (cell.var ≡ x)
parts_at cell frame x is =
    let one = equal_one cell.frame cell.var frame x is in
    (same_frame cell.frame frame one.site one.count, same_variable cell.var x one.variable)

pub set_at_place : (cells : List VarCell) (place : ℕ) (frame : FrameId) (x : VarId) (value : ℤ) (other : FrameId)
    (y : VarId) → AreInOrder cells → IsPlaceOf cells frame x (Ok place) →
    value_in (slice_set cells place (record { frame = frame; var = x; value = value })) other y
    ≡ with_variable (value_in cells) frame x value other y
set_at_place cells place frame x value other y order is =
    let cell = found_at (slice_get cells place) frame x is in
    value_in-set cells frame x place (record { frame = frame; var = x; value = value }) other y
    (place_at cells place cell.0 frame x order cell.1 cell.2) (itself frame x)

pub order_at_place : (cells : List VarCell) (place : ℕ) (frame : FrameId) (x : VarId) (value : ℤ) → AreInOrder cells →
    IsPlaceOf cells frame x (Ok place) →
    AreInOrder (slice_set cells place (record { frame = frame; var = x; value = value }))
order_at_place cells place frame x value order is =
    let cell = found_at (slice_get cells place) frame x is in
    let parts = parts_at cell.0 frame x cell.2 in
    order-set cells place cell.0 (record { frame = frame; var = x; value = value }) order cell.1 parts.0 parts.1

all_insert : (P : VarCell → Type 0) (cells : List VarCell) (place : ℕ) (added : VarCell) → AllByRecursion P cells →
    P added → AllByRecursion P (take place cells ++ added ∷ drop place cells)
all_insert P cells zero added all new = (new, all)
all_insert P [] (suc place) added all new = (new, tt)
all_insert P (cell ∷ cells) (suc place) added all new = (all.0, all_insert P cells place added all.1 new)

insert_in : (cells : List VarCell) (place : ℕ) (added : VarCell) → AreInOrder cells →
    ((k : ℕ) (cell : VarCell) → k < place → slice_get cells k ≡ Some cell → IsBefore cell added) →
    ((k : ℕ) (cell : VarCell) → place ≤ k → slice_get cells k ≡ Some cell → IsBefore added cell) →
    AreInOrder (take place cells ++ added ∷ drop place cells)
insert_in cells zero added order front back =
    (all_cells (IsBefore added) cells (λ k cell there. back k cell (omega arith) there), order)
insert_in [] (suc place) added order front back = (tt, tt)
insert_in (cell ∷ cells) (suc place) added order front back = (
  all_insert (IsBefore cell) cells place added order.0 (front 0 cell (omega arith) refl),
  insert_in cells place added order.1 (λ k one less there. front (suc k) one (omega (arith, less)) there)
      (λ k one more there. back (suc k) one (omega (arith, more)) there),
)

pub order-insert : (cells : List VarCell) (place : ℕ) (added : VarCell) → AreInOrder cells →
    IsPlaceOf cells added.frame added.var (Err place) → AreInOrder (insert cells place added)
order-insert cells place added order is =
    insert_in cells place added order (λ k cell less there. is.1 k cell less there)
    (λ k cell more there. before_less added.frame added.var cell.frame cell.var
    (greater_after cell.frame cell.var added.frame added.var (is.2 k cell more there)))

-- the cell of a variable that has none is added where it belongs
pub insert_at_place : (cells : List VarCell) (place : ℕ) (frame : FrameId) (x : VarId) (value : ℤ) (other : FrameId)
    (y : VarId) → IsPlaceOf cells frame x (Err place) →
    value_in (insert cells place (record { frame = frame; var = x; value = value })) other y
    ≡ with_variable (value_in cells) frame x value other y
insert_at_place cells place frame x value other y is =
    value_in-insert cells place (record { frame = frame; var = x; value = value }) other y is

pub order_inserted : (cells : List VarCell) (place : ℕ) (frame : FrameId) (x : VarId) (value : ℤ) →
    AreInOrder cells → IsPlaceOf cells frame x (Err place) →
    AreInOrder (insert cells place (record { frame = frame; var = x; value = value }))
order_inserted cells place frame x value order is =
    order-insert cells place (record { frame = frame; var = x; value = value }) order is

-- ---- which variables are set

one_twice : (s rest : Bool) → (s || rest) ≡ (s || (s || rest))
one_twice true rest = refl
one_twice false rest = refl

either_first : (head s rest : Bool) → (head || (s || rest)) ≡ (s || (head || rest))
either_first true true rest = refl
either_first true false rest = refl
either_first false s rest = refl

-- the cell of a variable gets another value
pub is_set-set : (cells : List VarCell) (place : ℕ) (frame : FrameId) (x : VarId) (value : ℤ) (other : FrameId)
    (y : VarId) → IsPlaceOf cells frame x (Ok place) →
    is_set (slice_set cells place (record { frame = frame; var = x; value = value })) other y
    ≡ (is_same_variable frame x other y || is_set cells other y)
is_set-set [] place frame x value other y is = absurd is
is_set-set (cell ∷ cells) zero frame x value other y is =
    let same = one_same cell.frame cell.var frame x (equal_one cell.frame cell.var frame x is) in
    rw (same_as cell.frame cell.var frame x other y same)
    (one_twice (is_same_variable frame x other y) (is_set cells other y))
is_set-set (cell ∷ cells) (suc place) frame x value other y is =
    rw (is_set-set cells place frame x value other y is)
    (either_first (is_same_variable cell.frame cell.var other y) (is_same_variable frame x other y)
    (is_set cells other y))

is_set-between : (front back : List VarCell) (added : VarCell) (other : FrameId) (y : VarId) →
    is_set (front ++ added ∷ back) other y
    ≡ (is_same_variable added.frame added.var other y || is_set (front ++ back) other y)
is_set-between [] back added other y = refl
is_set-between (cell ∷ front) back added other y =
    rw (is_set-between front back added other y)
    (either_first (is_same_variable cell.frame cell.var other y) (is_same_variable added.frame added.var other y)
    (is_set (front ++ back) other y))

-- a cell is added
pub is_set-insert : (cells : List VarCell) (place : ℕ) (frame : FrameId) (x : VarId) (value : ℤ) (other : FrameId)
    (y : VarId) →
    is_set (insert cells place (record { frame = frame; var = x; value = value })) other y
    ≡ (is_same_variable frame x other y || is_set cells other y)
is_set-insert cells place frame x value other y =
    is_set-between (take place cells) (drop place cells) (record { frame = frame; var = x; value = value }) other y
    ∙ ap (λ (all : List VarCell). is_same_variable frame x other y || is_set all other y)
    (take-append-drop place cells)
