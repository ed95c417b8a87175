-- The principal of a name, looked for one by one.
use Rattle.std.proofs.Common.{ℕ, ◌≡◌, ◌≢◌, ◌<◌, ◌≤◌, ◌+◌, ◌∙◌, sym, refl, subst, inl, inr, arith, Bool, true, false}
use Rattle.std.proofs.Common.{List, length, slice_get, Contains, Some}
use Rattle.std.specs.Str.{bytes_eq}
use Rattle.std.proofs.lemmas.Bool.{cases_lt, false≢true}
use Rattle.std.proofs.lemmas.Option.{slice_get_read}
use Rattle.std.proofs.lemmas.Slice.Eq.{bytes_eq-Decides}

-- ---- names that are told apart

not_true : (test : Bool) → (test ≡ true → ⊥) → false ≡ test
not_true false never = refl
not_true true never = absurd (never refl)

pub told_apart : (first second : List ℕ) → first ≢ second → false ≡ bytes_eq first second
told_apart first second apart =
    not_true (bytes_eq first second) (λ same. apart ((bytes_eq-Decides first second).0 same))

-- ---- names one by one

pub none_more : (names : List (List ℕ)) (place : ℕ) (own name : List ℕ) → slice_get names place ≡ Some own →
    bytes_eq own name ≡ false → ((k : ℕ) → k < place → slice_get names k ≢ Some name) →
    (k : ℕ) → k < place + 1 → slice_get names k ≢ Some name
none_more names place own name read differs before k below same = elim (cases_lt k place) [
  | inl less ↦ before k less same
  | inr more ↦
      let k_is : k ≡ place = omega arith in
      let P : ℕ → Type 0 = λ n. slice_get names n ≡ Some name in
      let both : Some own ≡ Some name = sym read ∙ subst P k_is same in
      let own_is : own ≡ name = cc in
      absurd (false≢true (sym differs ∙ (bytes_eq-Decides own name).1 own_is))
]

pub none_at_all : (names : List (List ℕ)) (place : ℕ) (name : List ℕ) → length names ≤ place →
    ((k : ℕ) → k < place → slice_get names k ≢ Some name) → ¬ Contains names name
none_at_all names place name all none found =
    let within = found.1 in
    none found.0 (omega (arith, within)) (slice_get_read names (length names) found.0 name refl found.1 (sym found.2))
