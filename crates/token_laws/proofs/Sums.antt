-- Sums over lists, and over pairs of numbers below a count.
use Rattle.std.proofs.Common.{◌≡◌, ◌≢◌, ◌∙◌, ℕ, zero, suc, ◌+◌, ◌<◌, ◌≤◌, inl, inr, Bool, true, false}
use Rattle.std.proofs.Common.{List, [], ◌∷◌, length, Some, None, arith, refl, ap, sym}
use Rattle.std.specs.Prelude.{slice_get, slice_index, slice_set, remove, sum_by, ◌==◌, ◌&&◌, if◌then◌else◌}
use Rattle.std.proofs.lemmas.Bool.{cases_lt}
use Rattle.std.proofs.lemmas.Bool.Decides.{eqb_tells, nat_tests}
use Rattle.std.proofs.lemmas.Grind.{get_or-set_at}
use Rattle.std.proofs.lemmas.List.{get_or-set_other}
use Rattle.std.proofs.lemmas.List.Sums.{sum_by-cons, sum_by-remove, sum_by-set}
use Rattle.std.proofs.lemmas.Option.{slice_get_within, get_or_from_slice_get}
use Rattle.js_base.specs.declared.ids.HostId.{HostId}
use Rattle.capability.specs.declared.token.Token.{Token}
use Rattle.net_world.specs.Flying.{Flight, Flying, with_flights}
use Rattle.net_world.specs.Told.{token_in}
use Rattle.token_laws.proofs.Worth.{worth_held, worth_between, worth_flying}
use Rattle.token_laws.proofs.Counting.{sum_below, host_of}

-- ---- one item fewer

pub removed_le : {X : Type 0} (f : X → ℕ) (xs : List X) (i : ℕ) → sum_by f (remove xs i) ≤ sum_by f xs
removed_le f [] zero = omega arith
removed_le f [] (suc i) = omega arith
removed_le f (x ∷ xs) zero = let all = sum_by-cons f x xs in omega arith
removed_le f (x ∷ xs) (suc i) =
    let all = sum_by-cons f x xs in
    let left = sum_by-cons f x (remove xs i) in
    let rest = removed_le f xs i in
    omega arith

pub removed_at : {X : Type 0} (f : X → ℕ) (xs : List X) (i : ℕ) (x : X) → slice_get xs i ≡ Some x →
    sum_by f (remove xs i) + f x ≡ sum_by f xs
removed_at f xs i x there =
    let all = sum_by-remove f xs i x (slice_get_within xs i x there) in
    let is = ap f (get_or_from_slice_get xs i x x there) in
    omega arith

-- nothing goes from a place past the end
pub removed_none : {X : Type 0} (f : X → ℕ) (xs : List X) (i : ℕ) → slice_get xs i ≡ None →
    sum_by f (remove xs i) ≡ sum_by f xs
removed_none f [] zero none = refl
removed_none f [] (suc i) none = refl
removed_none f (x ∷ xs) zero none = absurd (cc)
removed_none f (x ∷ xs) (suc i) none =
    let all = sum_by-cons f x xs in
    let left = sum_by-cons f x (remove xs i) in
    let rest = removed_none f xs i none in
    omega arith

-- ---- one item, and two

pub one_in : {X : Type 0} (f : X → ℕ) (xs : List X) (i : ℕ) (x : X) → slice_get xs i ≡ Some x → f x ≤ sum_by f xs
one_in f xs i x is = let all = removed_at f xs i x is in omega arith

pub two_in : {X : Type 0} (f : X → ℕ) (xs : List X) (i j : ℕ) (x y : X) → slice_get xs i ≡ Some x →
    slice_get xs j ≡ Some y → i ≢ j → f x + f y ≤ sum_by f xs
two_in f [] i j x y is also apart = absurd (cc)
two_in f (z ∷ xs) zero zero x y is also apart = absurd (apart refl)
two_in f (z ∷ xs) zero (suc j) x y is also apart =
    let all = sum_by-cons f z xs in
    let rest = one_in f xs j y also in
    let same : z ≡ x = cc in
    let worth = ap f same in
    omega arith
two_in f (z ∷ xs) (suc i) zero x y is also apart =
    let all = sum_by-cons f z xs in
    let rest = one_in f xs i x is in
    let same : z ≡ y = cc in
    let worth = ap f same in
    omega arith
two_in f (z ∷ xs) (suc i) (suc j) x y is also apart =
    let all = sum_by-cons f z xs in
    let rest = two_in f xs i j x y is also (λ same. apart (ap suc same)) in
    omega arith

-- a sum that is not zero has such an item
pub record SomeIn {X : Type 0} (f : X → ℕ) (xs : List X) : Type 0 where
  pub place : ℕ
  pub item : X
  pub is_there : slice_get xs place ≡ Some item
  pub more : 0 < f item

pub some_in : {X : Type 0} (f : X → ℕ) (xs : List X) → 0 < sum_by f xs → SomeIn f xs
some_in f [] more = absurd (omega arith)
some_in f (x ∷ xs) more =
    let all = sum_by-cons f x xs in
    elim (cases_lt 0 (f x)) [
      | inl here ↦ record { place = 0; item = x; is_there = refl; more = here }
      | inr none ↦
          let rest = some_in f xs (omega arith) in
          record { place = suc rest.place; item = rest.item; is_there = rest.is_there; more = rest.more }
    ]

-- ---- one item changed

pub changed_at : {X : Type 0} (f : X → ℕ) (xs : List X) (i : ℕ) (x y : X) → slice_get xs i ≡ Some x →
    sum_by f (slice_set xs i y) + f x ≡ sum_by f xs + f y
changed_at f xs i x y there =
    let all = sum_by-set f xs i y x (slice_get_within xs i x there) in
    let is = ap f (get_or_from_slice_get xs i x x there) in
    omega arith

-- one place's count goes up
pub grows : (counts : List ℕ) (place other : ℕ) → place < length counts →
    slice_index counts other ≤ slice_index (slice_set counts place (slice_index counts place + 1)) other
grows counts place other within = grind (arith, get_or-set_at, get_or-set_other)

-- ---- sums below a count

below_same : (count : ℕ) (f g : ℕ → ℕ) → ((i : ℕ) → g i ≡ f i) → sum_below count g ≡ sum_below count f
below_same zero f g same = refl
below_same (suc count) f g same =
    let here = same count in
    let rest = below_same count f g same in
    omega arith

pub below_none : (count : ℕ) (f : ℕ → ℕ) → ((i : ℕ) → f i ≡ 0) → sum_below count f ≡ 0
below_none zero f none = refl
below_none (suc count) f none =
    let here = none count in
    let rest = below_none count f none in
    omega arith

below_kept : (count k : ℕ) (f g : ℕ → ℕ) → count ≤ k → ((i : ℕ) → i ≢ k → g i ≡ f i) →
    sum_below count g ≡ sum_below count f
below_kept zero k f g past same = refl
below_kept (suc count) k f g past same =
    let here = same count (λ is. omega arith) in
    let rest = below_kept count k f g (omega arith) same in
    omega arith

below_changed : (count k : ℕ) (f g : ℕ → ℕ) → k < count → ((i : ℕ) → i ≢ k → g i ≡ f i) →
    sum_below count g + f k ≡ sum_below count f + g k
below_changed zero k f g within same = absurd (omega arith)
below_changed (suc count) k f g within same = elim (eqb_tells k count) [
  | inl last ↦
      let rest = below_kept count count f g (omega arith) (λ i ne. same i (λ is. ne (is ∙ last.1))) in
      let old : f count ≡ f k = ap f (sym last.1) in
      let new : g count ≡ g k = ap g (sym last.1) in
      omega arith
  | inr apart ↦
      let here : g count ≡ f count = same count (λ is. apart.1 (sym is)) in
      let ne : k ≢ count = apart.1 in
      let rest = below_changed count k f g (omega arith) same in
      omega arith
]

-- ---- what is in flight

cell_true : (b : Bool) (flights other : List Flight) → b ≡ true → (if b then flights else other) ≡ flights
cell_true true flights other is = refl
cell_true false flights other is = absurd (cc)

cell_false : (b : Bool) (flights other : List Flight) → b ≡ false → (if b then flights else other) ≡ other
cell_false true flights other is = absurd (cc)
cell_false false flights other is = refl

-- other pairs have what they had
pub other_cell : (flying : Flying) (from to i j : HostId) (flights : List Flight) →
    (i.0 == from.0 && j.0 == to.0) ≡ false → with_flights flying from to flights i j ≡ flying i j
other_cell flying from to i j flights apart = cell_false (i.0 == from.0 && j.0 == to.0) flights (flying i j) apart

pub same_cell : (flying : Flying) (from to : HostId) (flights : List Flight) →
    with_flights flying from to flights from to ≡ flights
same_cell flying from to flights =
    let is : (from.0 == from.0 && to.0 == to.0) ≡ true = grind (arith, nat_tests) in
    cell_true (from.0 == from.0 && to.0 == to.0) flights (flying from to) is

apart_first : (i from j to : ℕ) → i ≢ from → (i == from && j == to) ≡ false
apart_first i from j to ne = grind (arith, nat_tests)

apart_second : (i from j to : ℕ) → j ≢ to → (i == from && j == to) ≡ false
apart_second i from j to ne = grind (arith, nat_tests)

pub flying_changed : (worth : Token → ℕ) (count : ℕ) (flying : Flying) (from to : HostId) (flights : List Flight) →
    from.0 < count → to.0 < count →
    worth_flying worth count (with_flights flying from to flights)
    + sum_by (λ (flight : Flight). worth_held worth (token_in flight.message)) (flying from to)
    ≡ worth_flying worth count flying
    + sum_by (λ (flight : Flight). worth_held worth (token_in flight.message)) flights
flying_changed worth count flying from to flights is_host is_target =
    let of : List Flight → ℕ = sum_by (λ (flight : Flight). worth_held worth (token_in flight.message)) in
    let now : Flying = with_flights flying from to flights in
    let outer =
    below_changed count from.0 (λ i. sum_below count (worth_between worth flying i))
    (λ i. sum_below count (worth_between worth now i)) is_host
    (λ i ne. below_same count (worth_between worth flying i) (worth_between worth now i)
    (λ j. ap of (other_cell flying from to (host_of i) (host_of j) flights (apart_first i from.0 j to.0 ne)))) in
    let inner =
    below_changed count to.0 (worth_between worth flying from.0) (worth_between worth now from.0) is_target
    (λ j ne. ap of (other_cell flying from to from (host_of j) flights (apart_second from.0 from.0 j to.0 ne))) in
    let cell : worth_between worth now from.0 to.0 ≡ of flights = ap of (same_cell flying from to flights) in
    omega arith
