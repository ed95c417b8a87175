-- Lists of which some elements are left out, counts of which one changes, and lists that are equal as far as both go.
use Rattle.std.proofs.Common.{◌≡◌, ◌≢◌, ◌∙◌, ℕ, zero, suc, ◌≤◌, Bool, true, false, List, [], ◌∷◌, ◌++◌, length, arith}
use Rattle.std.proofs.Common.{Some, inl, inr, refl, ap, sym, get_or-set_other}
use Rattle.std.specs.Prelude.{if◌then◌else◌, filter, map, remove, slice_get, slice_set, slice_index, not}
use Rattle.std.specs.List.{AllByRecursion}
use Rattle.std.proofs.lemmas.Bool.{cases_Bool, false≢true}
use Rattle.std.proofs.lemmas.List.{append-nil}
use Rattle.std.proofs.lemmas.List.Elements.{filter-append}
use Rattle.net_world.specs.Released.{OneIsFront}

pub index_apart : (counts : List ℕ) (place other count : ℕ) → other ≢ place →
    slice_index (slice_set counts place count) other ≡ slice_index counts other
index_apart counts place other count apart = get_or-set_other counts place other count 0 apart

pub not_left : (b : Bool) → not b ≡ true → b ≡ false
not_left true is = absurd (false≢true is)
not_left false is = refl

-- ---- one element

pub kept_first : {X : Type 0} (p : X → Bool) (x : X) (xs : List X) → p x ≡ true → filter p (x ∷ xs) ≡ x ∷ filter p xs
kept_first p x xs is = ap (λ (b : Bool). if b then x ∷ filter p xs else filter p xs) is

pub left_first : {X : Type 0} (p : X → Bool) (x : X) (xs : List X) → p x ≡ false → filter p (x ∷ xs) ≡ filter p xs
left_first p x xs is = ap (λ (b : Bool). if b then x ∷ filter p xs else filter p xs) is

pub left_last : {X : Type 0} (p : X → Bool) (xs : List X) (x : X) → p x ≡ false → filter p (xs ++ x ∷ []) ≡ filter p xs
left_last p xs x is =
    filter-append p xs (x ∷ []) ∙ ap (λ last. filter p xs ++ last) (left_first p x [] is) ∙ append-nil (filter p xs)

pub kept_last : {X : Type 0} (p : X → Bool) (xs : List X) (x : X) → p x ≡ true →
    filter p (xs ++ x ∷ []) ≡ filter p xs ++ x ∷ []
kept_last p xs x is = filter-append p xs (x ∷ []) ∙ ap (λ last. filter p xs ++ last) (kept_first p x [] is)

-- ---- an element is taken out

pub left_removed : {X : Type 0} (p : X → Bool) (xs : List X) (place : ℕ) (x : X) → slice_get xs place ≡ Some x →
    p x ≡ false → filter p (remove xs place) ≡ filter p xs
left_removed p [] place x there is = absurd (cc)
left_removed p (first ∷ xs) zero x there is =
    let same : first ≡ x = cc in
    sym (left_first p first xs (ap p same ∙ is))
left_removed p (first ∷ xs) (suc place) x there is =
    ap (λ others. if p first then first ∷ others else others) (left_removed p xs place x there is)

-- whatever is there and passes is kept
pub kept_some : {X : Type 0} (p : X → Bool) (xs : List X) (place : ℕ) (x : X) → slice_get xs place ≡ Some x →
    p x ≡ true → filter p xs ≢ []
kept_some p [] place x there is none = absurd (cc)
kept_some p (first ∷ xs) zero x there is none =
    let same : first ≡ x = cc in
    let kept : first ∷ filter p xs ≡ [] = sym (kept_first p first xs (ap p same ∙ is)) ∙ none in
    absurd (cc)
kept_some p (first ∷ xs) (suc place) x there is none = elim (cases_Bool (p first)) [
  | inl passes ↦
      let kept : first ∷ filter p xs ≡ [] = sym (kept_first p first xs passes) ∙ none in
      absurd (cc)
  | inr fails ↦ kept_some p xs place x there is (sym (left_first p first xs fails) ∙ none)
]

-- where only one element passes, whichever passes is that one, and none is left without it
pub only_taken : {X : Type 0} (p : X → Bool) (xs : List X) (place : ℕ) (x y : X) → slice_get xs place ≡ Some x →
    p x ≡ true → filter p xs ≡ y ∷ [] → (x ≡ y) × (filter p (remove xs place) ≡ [])
only_taken p [] place x y there is only = absurd (cc)
only_taken p (first ∷ xs) zero x y there is only =
    let same : first ≡ x = cc in
    let kept : first ∷ filter p xs ≡ y ∷ [] = sym (kept_first p first xs (ap p same ∙ is)) ∙ only in
    let one : first ≡ y = cc in
    let none : filter p xs ≡ [] = cc in
    (sym same ∙ one, none)
only_taken p (first ∷ xs) (suc place) x y there is only = elim (cases_Bool (p first)) [
  | inl passes ↦
      let kept : first ∷ filter p xs ≡ y ∷ [] = sym (kept_first p first xs passes) ∙ only in
      let none : filter p xs ≡ [] = cc in
      absurd (kept_some p xs place x there is none)
  | inr fails ↦
      let rest = only_taken p xs place x y there is (sym (left_first p first xs fails) ∙ only) in
      (rest.0, left_first p first (remove xs place) fails ∙ rest.1)
]

-- the only element that passes is there
pub only_there : {X : Type 0} (p : X → Bool) (xs : List X) (y : X) → filter p xs ≡ y ∷ [] →
    (place : ℕ) × (slice_get xs place ≡ Some y) × (p y ≡ true)
only_there p [] y only = absurd (cc)
only_there p (first ∷ xs) y only = elim (cases_Bool (p first)) [
  | inl passes ↦
      let kept : first ∷ filter p xs ≡ y ∷ [] = sym (kept_first p first xs passes) ∙ only in
      let one : first ≡ y = cc in
      (0, ap Some one, ap p (sym one) ∙ passes)
  | inr fails ↦
      let rest = only_there p xs y (sym (left_first p first xs fails) ∙ only) in
      (suc rest.0, rest.1, rest.2)
]

-- ---- all elements

length_kept : {X : Type 0} (p : X → Bool) (xs : List X) → length (filter p xs) ≤ length xs
length_kept p [] = omega arith
length_kept p (x ∷ xs) = elim (cases_Bool (p x)) [
  | inl passes ↦
      let is = ap length (kept_first p x xs passes) in
      let rest = length_kept p xs in
      omega arith
  | inr fails ↦
      let is = ap length (left_first p x xs fails) in
      let rest = length_kept p xs in
      omega arith
]

-- where none is left out, the first passes, and none of the rest is left out
pub all_kept : {X : Type 0} (p : X → Bool) (x : X) (xs : List X) → x ∷ xs ≡ filter p (x ∷ xs) →
    (p x ≡ true) × (xs ≡ filter p xs)
all_kept p x xs all = elim (cases_Bool (p x)) [
  | inl passes ↦
      let kept : x ∷ xs ≡ x ∷ filter p xs = all ∙ kept_first p x xs passes in
      let rest : xs ≡ filter p xs = cc in
      (passes, rest)
  | inr fails ↦
      let less : x ∷ xs ≡ filter p xs = all ∙ left_first p x xs fails in
      let is : suc (length xs) ≡ length (filter p xs) = ap length less in
      let most = length_kept p xs in
      absurd (omega arith)
]

-- ---- two lists

-- what two functions make of a list is the same, and so it is of each element
pub each_same : {X Y : Type 0} (f g : X → Y) (xs : List X) → map f xs ≡ map g xs →
    AllByRecursion (λ x. f x ≡ g x) xs
each_same f g [] same = tt
each_same f g (x ∷ xs) same =
    let first : f x ≡ g x = cc in
    let others : map f xs ≡ map g xs = cc in
    (first, each_same f g xs others)

-- Lists that are equal as far as both go, and begin with parts of one length, begin with the same.
pub same_chunk : {X : Type 0} (own other later more : List X) → length own ≡ length other →
    OneIsFront (own ++ later) (other ++ more) → (own ≡ other) × OneIsFront later more
same_chunk [] [] later more many alike = (refl, alike)
same_chunk [] (y ∷ other) later more many alike = absurd (omega (arith, many))
same_chunk (x ∷ own) [] later more many alike = absurd (omega (arith, many))
same_chunk {X} (x ∷ own) (y ∷ other) later more many (inl (rest, is)) =
    let first : y ≡ x = cc in
    let tails : other ++ more ≡ (own ++ later) ++ rest = cc in
    let few : length own ≡ length other = omega (arith, many) in
    let others = same_chunk own other later more few (inl (rest, tails)) in
    let both : x ∷ own ≡ y ∷ other = cc in
    (both, others.1)
same_chunk {X} (x ∷ own) (y ∷ other) later more many (inr (rest, is)) =
    let first : x ≡ y = cc in
    let tails : own ++ later ≡ (other ++ more) ++ rest = cc in
    let few : length own ≡ length other = omega (arith, many) in
    let others = same_chunk own other later more few (inr (rest, tails)) in
    let both : x ∷ own ≡ y ∷ other = cc in
    (both, others.1)
