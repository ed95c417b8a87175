-- What is listed fails, and something is listed where something fails.
use Rattle.std.proofs.Common.{◌≡◌, ◌≢◌, ◌==◌, ◌⊎◌, inl, inr, ℕ, zero, suc, ◌+◌, ◌≤◌, ◌<◌, Bool, true, false, not}
use Rattle.std.proofs.Common.{List, [], ◌∷◌, ◌++◌, map, length, All, Any, filter, flat_map, refl, sym, ap, subst, arith}
use Rattle.std.specs.List.{list_any, range_with_len}
use Rattle.std.proofs.lemmas.Bool.{cases_Bool, cases_eq, and_parts, and_left, not-true, not_from_false, false≢true}
use Rattle.std.proofs.lemmas.List.Concat.{flat_map-cons}
use Rattle.std.proofs.lemmas.List.Elements.{filter_passes, All-filter, All-append}
use Rattle.std.proofs.lemmas.List.Folds.{Any-from_list_any}
use Rattle.principals.specs.ActsFor.{Declared, outsider}
use Rattle.js_base.proofs.Lists.{none_in_two}
use Rattle.label_reasons.specs.declared.reason.Trait.{Trait}
use Rattle.label_reasons.specs.declared.reason.Trait.TheVariants.{Keeps, Distrusts}
use Rattle.label_reasons.specs.Listed.{declared_numbers, readers, pairs_of, all_pairs, all_distrusts, failing}
use Rattle.label_reasons.specs.Listed.{is_of_another, unless_none, is_declared_pair_of, goes_without_saying, said_pairs}
use Rattle.label_reasons.specs.Listed.{listed_pairs, listed}

-- ---- elements of lists

abbrev pub IsIn : {X : Type 0} → X → List X → Type 0
IsIn x [] = ⊥
IsIn x (y ∷ ys) = (y ≡ x) ⊎ IsIn x ys

pub in_left : {X : Type 0} (x : X) (xs ys : List X) → IsIn x xs → IsIn x (xs ++ ys)
in_left x [] ys is = absurd is
in_left x (y ∷ xs) ys (inl same) = inl same
in_left x (y ∷ xs) ys (inr later) = inr (in_left x xs ys later)

pub in_right : {X : Type 0} (x : X) (xs ys : List X) → IsIn x ys → IsIn x (xs ++ ys)
in_right x [] ys is = is
in_right x (y ∷ xs) ys is = inr (in_right x xs ys is)

in_map : {X Y : Type 0} (f : X → Y) (x : X) (xs : List X) → IsIn x xs → IsIn (f x) (map f xs)
in_map f x [] is = absurd is
in_map f x (y ∷ xs) (inl same) = inl (ap f same)
in_map f x (y ∷ xs) (inr later) = inr (in_map f x xs later)

in_flat_map : {X Y : Type 0} (f : X → List Y) (x : X) (y : Y) (xs : List X) → IsIn x xs → IsIn y (f x) →
    IsIn y (flat_map f xs)
in_flat_map f x y [] is there = absurd is
in_flat_map {X} {Y} f x y (z ∷ xs) (inl same) there =
    let P : X → Type 0 = λ one. IsIn y (f one) in
    rw (flat_map-cons f z xs) (in_left y (f z) (flat_map f xs) (subst P (sym same) there))
in_flat_map f x y (z ∷ xs) (inr later) there =
    rw (flat_map-cons f z xs) (in_right y (f z) (flat_map f xs) (in_flat_map f x y xs later there))

in_range : (from count k : ℕ) → from ≤ k → k < from + count → IsIn k (range_with_len from count)
in_range from zero k above below = absurd (omega (arith, above, below))
in_range from (suc count) k above below = elim (cases_eq from k) [
  | inl same ↦ inl same
  | inr other ↦ inr (in_range (from + 1) count k (omega (arith, above, other)) (omega (arith, below)))
]

in_filter : {X : Type 0} (test : X → Bool) (x : X) (xs : List X) → IsIn x xs → test x ≡ true → IsIn x (filter test xs)
in_filter test x [] is passes = absurd is
in_filter {X} test x (y ∷ xs) (inl same) passes =
    let P : X → Type 0 = λ one. test one ≡ true in
    rw (subst P (sym same) passes) (inl same)
in_filter {X} test x (y ∷ xs) (inr later) passes =
    let rest = in_filter test x xs later passes in
    elim (cases_Bool (test y)) [ inl passed ↦ rw passed (inr rest) | inr failed ↦ rw failed rest ]

in_any : {X : Type 0} (P : X → Type 0) (xs : List X) → Any P xs → (x : X) × IsIn x xs × P x
in_any P [] (k, x, lt, read, holds) = absurd (omega (arith, lt))
in_any P (y ∷ xs) (zero, x, lt, read, holds) = (x, inl read, holds)
in_any P (y ∷ xs) (suc k, x, lt, read, holds) =
    let found = in_any P xs (k, x, omega (arith, lt), read, holds) in
    (found.0, inr found.1, found.2)

pub not_none : {X : Type 0} (x : X) (xs : List X) → IsIn x xs → xs ≢ []
not_none {X} x xs is none = let P : List X → Type 0 = λ ys. IsIn x ys in absurd (subst P none is)

pub cons_some : {X : Type 0} (x : X) (xs : List X) → x ∷ xs ≢ []
cons_some x xs none = not_none x (x ∷ xs) (inl refl) none

-- ---- what is listed fails

pub unless_none_passes : (P : Trait → Type 0) (first all : List Trait) → All P first → All P all →
    All P (unless_none first all)
unless_none_passes P [] all one other = other
unless_none_passes P (trait ∷ first) all one other = one

pub listed_passes : (principals : Declared) (test : Trait → Bool) → All (λ trait. test trait ≡ true) (listed principals test)
listed_passes principals test =
    let P : Trait → Type 0 = λ trait. test trait ≡ true in
    let pairs = filter test (all_pairs principals) in
    let others = filter (is_of_another principals) pairs in
    let pass : All P pairs = filter_passes test (all_pairs principals) in
    All-append P (listed_pairs principals pairs) (filter test (all_distrusts principals))
    (All-filter (λ pair. not (goes_without_saying (unless_none others pairs) pair)) P (unless_none others pairs)
    (unless_none_passes P others pairs (All-filter (is_of_another principals) P pairs pass) pass))
    (filter_passes test (all_distrusts principals))

-- ---- something is listed

declared_said : (owner : ℕ) (pairs : List Trait) (pair : Trait) → is_declared_pair_of owner pair ≡ true →
    goes_without_saying pairs pair ≡ false
declared_said owner pairs (Keeps other reader) is =
    and_left (reader == outsider) (list_any (is_declared_pair_of other) pairs)
    (not-true (reader == outsider) (and_parts (other == owner) (not (reader == outsider)) is).1)
declared_said owner pairs (Distrusts principal) is = refl

said_at : (pairs : List Trait) (pair : Trait) → IsIn pair pairs → goes_without_saying pairs pair ≡ false →
    said_pairs pairs ≢ []
said_at pairs pair is said = not_none pair (said_pairs pairs)
    (in_filter (λ one. not (goes_without_saying pairs one)) pair pairs is
    (not_from_false (goes_without_saying pairs pair) said))

another : (pairs : List Trait) (pair : Trait) → goes_without_saying pairs pair ≡ true → said_pairs pairs ≢ []
another pairs (Keeps owner reader) is =
    let found = in_any (λ one. is_declared_pair_of owner one ≡ true) pairs
    (Any-from_list_any (is_declared_pair_of owner) pairs
    (and_parts (reader == outsider) (list_any (is_declared_pair_of owner) pairs) is).1) in
    said_at pairs found.0 found.1 (declared_said owner pairs found.0 found.2)
another pairs (Distrusts principal) is = absurd (false≢true is)

said_some : (pair : Trait) (pairs : List Trait) → said_pairs (pair ∷ pairs) ≢ []
said_some pair pairs = elim (cases_Bool (goes_without_saying (pair ∷ pairs) pair)) [
  | inl is ↦ another (pair ∷ pairs) pair is
  | inr said ↦ said_at (pair ∷ pairs) pair (inl refl) said
]

unless_none_said : (first : List Trait) (pair : Trait) (pairs : List Trait) →
    said_pairs (unless_none first (pair ∷ pairs)) ≢ []
unless_none_said [] pair pairs = said_some pair pairs
unless_none_said (one ∷ first) pair pairs = said_some one first

pairs_none : (principals : Declared) (pairs : List Trait) → listed_pairs principals pairs ≡ [] → pairs ≡ []
pairs_none principals [] none = refl
pairs_none principals (pair ∷ pairs) none =
    absurd (unless_none_said (filter (is_of_another principals) (pair ∷ pairs)) pair pairs none)

-- where nothing is listed, nothing fails
pub none_listed : (principals : Declared) (test : Trait → Bool) → listed principals test ≡ [] → failing principals test ≡ []
none_listed principals test none =
    let pairs = filter test (all_pairs principals) in
    let both = none_in_two (listed_pairs principals pairs) (filter test (all_distrusts principals)) none in
    rw (pairs_none principals pairs both.0) both.1

-- ---- what may fail

pub pair_fails : (principals : Declared) (test : Trait → Bool) (owner reader : ℕ) → owner < length principals.names →
    (reader < length principals.names) ⊎ (reader ≡ outsider) → test (Keeps owner reader) ≡ true →
    failing principals test ≢ []
pair_fails principals test owner reader within is passes none =
    not_none (Keeps owner reader) (filter test (all_pairs principals))
    (in_filter test (Keeps owner reader) (all_pairs principals)
    (in_flat_map (pairs_of principals) owner (Keeps owner reader) (declared_numbers principals)
    (in_range 0 (length principals.names) owner (omega arith) (omega (arith, within)))
    (in_map (λ other. Keeps owner other) reader (readers principals) (reads is))) passes)
    (none_in_two (filter test (all_pairs principals)) (filter test (all_distrusts principals)) none).0
  where
    reads : (reader < length principals.names) ⊎ (reader ≡ outsider) → IsIn reader (readers principals)
    reads (inl declared) = in_left reader (declared_numbers principals) (outsider ∷ [])
        (in_range 0 (length principals.names) reader (omega arith) (omega (arith, declared)))
    reads (inr outside) = in_right reader (declared_numbers principals) (outsider ∷ []) (inl (sym outside))

pub distrust_fails : (principals : Declared) (test : Trait → Bool) (principal : ℕ) →
    principal < length principals.names → test (Distrusts principal) ≡ true → failing principals test ≢ []
distrust_fails principals test principal within passes none =
    not_none (Distrusts principal) (filter test (all_distrusts principals))
    (in_filter test (Distrusts principal) (all_distrusts principals)
    (in_map (λ one. Distrusts one) principal (declared_numbers principals)
    (in_range 0 (length principals.names) principal (omega arith) (omega (arith, within)))) passes)
    (none_in_two (filter test (all_pairs principals)) (filter test (all_distrusts principals)) none).1
