-- Chains of pairs.
use Rattle.std.proofs.Common.{ℕ, ◌≡◌, ◌<◌, ◌⊎◌, ◌↔◌, sym, ap, refl, subst, inl, inr, List, [], ◌∷◌, ◌++◌, length}
use Rattle.std.proofs.Common.{get_or, Contains, Bool, IsTrue, arith}
use Rattle.std.proofs.lemmas.List.Elements.{Contains-append_left, Contains-append_right, Contains-append_cases}
use Rattle.principals.specs.ActsFor.{Declared, IsDeclared, LeadsTo, LeadsFrom, ActsFor, IsPreorder, outsider}

chained : (pairs : List (ℕ × ℕ)) (p q r : ℕ) (xs ys : List ℕ) → LeadsTo pairs p xs q → LeadsTo pairs q ys r →
    LeadsTo pairs p (xs ++ ys) r
chained pairs p q r [] ys same later =
    let P : ℕ → Type 0 = λ n. LeadsTo pairs n ys r in
    subst P (sym same) later
chained pairs p q r (next ∷ xs) ys earlier later = (earlier.0, chained pairs next q r xs ys earlier.1 later)

pub goes_on : (pairs : List (ℕ × ℕ)) (p q r : ℕ) → LeadsFrom pairs p q → LeadsFrom pairs q r → LeadsFrom pairs p r
goes_on pairs p q r earlier later = (earlier.0 ++ later.0, chained pairs p q r earlier.0 later.0 earlier.1 later.1)

pub to_itself : (pairs : List (ℕ × ℕ)) (p : ℕ) → LeadsFrom pairs p p
to_itself pairs p = ([], refl)

pub over_pair : (pairs : List (ℕ × ℕ)) (p q : ℕ) → Contains pairs (p, q) → LeadsFrom pairs p q
over_pair pairs p q is_pair = (q ∷ [], (is_pair, refl))

in_relation : (pairs : List (ℕ × ℕ)) (relation : ℕ → ℕ → Bool) → IsPreorder relation →
    ((p q : ℕ) → Contains pairs (p, q) → IsTrue (relation p q)) → (p q : ℕ) (xs : List ℕ) → LeadsTo pairs p xs q →
    IsTrue (relation p q)
in_relation pairs relation is holds p q [] same =
    let P : ℕ → Type 0 = λ n. IsTrue (relation p n) in
    subst P same (is.reflexive p)
in_relation pairs relation is holds p q (next ∷ xs) leads =
    is.transitive p next q (holds p next leads.0) (in_relation pairs relation is holds next q xs leads.1)

pub smallest : (principals : Declared) (relation : ℕ → ℕ → Bool) → IsPreorder relation →
    ((p q : ℕ) → Contains principals.pairs (p, q) → IsTrue (relation p q)) → (p q : ℕ) → ActsFor principals p q →
    IsTrue (relation p q)
smallest principals relation is holds p q acts = in_relation principals.pairs relation is holds p q acts.0 acts.1

-- ---- declared principals

pair_within : (principals : Declared) → IsDeclared principals → (p q : ℕ) → Contains principals.pairs (p, q) →
    (p < length principals.names) × (q < length principals.names)
pair_within principals is p q found =
    let P : ℕ × ℕ → Type 0 = λ pair. (pair.0 < length principals.names) × (pair.1 < length principals.names) in
    subst P found.2 (is.pairs found.0 (p, q) found.1)

-- who acts for whom is the same, or both are declared
alike : (principals : Declared) → IsDeclared principals → (p q : ℕ) (xs : List ℕ) →
    LeadsTo principals.pairs p xs q → (p ≡ q) ⊎ ((p < length principals.names) × (q < length principals.names))
alike principals is p q [] same = inl same
alike principals is p q (next ∷ xs) leads =
    let first = pair_within principals is p next leads.0 in
    elim (alike principals is next q xs leads.1) [
      | inl same ↦ inr (first.0, let P : ℕ → Type 0 = λ n. n < length principals.names in subst P same first.1)
      | inr both ↦ inr (first.0, both.1)
    ]

pub of_outsider : (principals : Declared) (p : ℕ) → IsDeclared principals → ActsFor principals outsider p → p ≡ outsider
of_outsider principals p is acts =
    elim (alike principals is outsider p acts.0 acts.1) [
      | inl same ↦ sym same
      | inr both ↦ absurd (omega (arith, both.0, is.names.few))
    ]

pub for_outsider : (principals : Declared) (p : ℕ) → IsDeclared principals → ActsFor principals p outsider →
    p ≡ outsider
for_outsider principals p is acts =
    elim (alike principals is p outsider acts.0 acts.1) [
      | inl same ↦ same
      | inr both ↦ absurd (omega (arith, both.1, is.names.few))
    ]

pub of_declared : (principals : Declared) (p q : ℕ) → IsDeclared principals → p < length principals.names →
    ActsFor principals p q → q < length principals.names
of_declared principals p q is within acts =
    elim (alike principals is p q acts.0 acts.1) [
      | inl same ↦ let P : ℕ → Type 0 = λ n. n < length principals.names in subst P same within
      | inr both ↦ both.1
    ]

pub for_declared : (principals : Declared) (p q : ℕ) → IsDeclared principals → q < length principals.names →
    ActsFor principals p q → p < length principals.names
for_declared principals p q is within acts =
    elim (alike principals is p q acts.0 acts.1) [
      | inl same ↦ let P : ℕ → Type 0 = λ n. n < length principals.names in subst P (sym same) within
      | inr both ↦ both.0
    ]

-- ---- one more pair

with_more : (pairs more : List (ℕ × ℕ)) (p q : ℕ) (xs : List ℕ) → LeadsTo pairs p xs q → LeadsTo (pairs ++ more) p xs q
with_more pairs more p q [] same = same
with_more pairs more p q (next ∷ xs) leads =
    (Contains-append_left pairs more (p, next) leads.0, with_more pairs more next q xs leads.1)

-- the chains with one more pair: one without it, or one to its first, and one from its second
abbrev pub OldOrOver : List (ℕ × ℕ) → ℕ → ℕ → ℕ → ℕ → Type 0
OldOrOver pairs first second p q = LeadsFrom pairs p q ⊎ (LeadsFrom pairs p first × LeadsFrom pairs second q)

only_pair : (first second p q : ℕ) → Contains {X = ℕ × ℕ} ((first, second) ∷ []) (p, q) → (p ≡ first) × (q ≡ second)
only_pair first second p q found =
    let at_zero : found.0 ≡ 0 = omega (arith, found.1) in
    let P : ℕ → Type 0 = λ k. get_or ((first, second) ∷ []) k (p, q) ≡ (p, q) in
    let same : (first, second) ≡ (p, q) = subst P at_zero found.2 in
    (sym (ap (λ pair. pair.0) same), sym (ap (λ pair. pair.1) same))

over_first : (pairs : List (ℕ × ℕ)) (first second p next q : ℕ) → (p ≡ first) × (next ≡ second) →
    OldOrOver pairs first second next q → OldOrOver pairs first second p q
over_first pairs first second p next q is (inl old) =
    let P : ℕ → Type 0 = λ n. LeadsFrom pairs n q in
    inr (([], is.0), subst P is.1 old)
over_first pairs first second p next q is (inr over) = inr (([], is.0), over.1)

after_old : (pairs : List (ℕ × ℕ)) (first second p next q : ℕ) → Contains pairs (p, next) →
    OldOrOver pairs first second next q → OldOrOver pairs first second p q
after_old pairs first second p next q is_pair (inl old) = inl (next ∷ old.0, (is_pair, old.1))
after_old pairs first second p next q is_pair (inr over) = inr ((next ∷ over.0.0, (is_pair, over.0.1)), over.1)

old_or_over : (pairs : List (ℕ × ℕ)) (first second p q : ℕ) (xs : List ℕ) →
    LeadsTo (pairs ++ (first, second) ∷ []) p xs q → OldOrOver pairs first second p q
old_or_over pairs first second p q [] same = inl ([], same)
old_or_over pairs first second p q (next ∷ xs) leads =
    let later = old_or_over pairs first second next q xs leads.1 in
    elim (Contains-append_cases pairs ((first, second) ∷ []) (p, next) leads.0) [
      | inl old ↦ after_old pairs first second p next q old later
      | inr new ↦ over_first pairs first second p next q (only_pair first second p next new) later
    ]

from_old_or_over : (pairs : List (ℕ × ℕ)) (first second p q : ℕ) → OldOrOver pairs first second p q →
    LeadsFrom (pairs ++ (first, second) ∷ []) p q
from_old_or_over pairs first second p q (inl old) = (old.0, with_more pairs ((first, second) ∷ []) p q old.0 old.1)
from_old_or_over pairs first second p q (inr over) =
    let all : List (ℕ × ℕ) = pairs ++ (first, second) ∷ [] in
    let new : Contains all (first, second) =
    Contains-append_right pairs ((first, second) ∷ []) (first, second) (0, omega arith, refl) in
    goes_on all p first q (over.0.0, with_more pairs ((first, second) ∷ []) p first over.0.0 over.0.1)
    (goes_on all first second q (over_pair all first second new)
    (over.1.0, with_more pairs ((first, second) ∷ []) second q over.1.0 over.1.1))

pub one_more_pair : (pairs : List (ℕ × ℕ)) (first second p q : ℕ) →
    LeadsFrom (pairs ++ (first, second) ∷ []) p q ↔ OldOrOver pairs first second p q
one_more_pair pairs first second p q =
    (λ leads. old_or_over pairs first second p q leads.0 leads.1, from_old_or_over pairs first second p q)

pub without_pairs : (p q : ℕ) → LeadsFrom [] p q → p ≡ q
without_pairs p q ([], same) = same
without_pairs p q (next ∷ xs, leads) = absurd (omega (arith, leads.0.1))
