-- What stands in a legend occurs, and what occurs stands there.
use Rattle.std.proofs.Common.{◌≡◌, ◌⊎◌, ℕ, suc, zero, Bool, true, false, inl, inr, List, [], ◌∷◌, Some, filter}
use Rattle.std.proofs.Common.{refl, sym, ap, ◌∙◌}
use Rattle.std.specs.Prelude.{slice_get}
use Rattle.std.specs.List.{list_any}
use Rattle.run_chart.specs.Legend.{all_signs}
use Rattle.run_chart.specs.declared.legend.ChartSign.{ChartSign}
use Rattle.run_chart.specs.declared.legend.ChartSign.TheVariants as sign
use Rattle.run_chart.specs.declared.sheet.Stroke.TheVariants as stroke

true_or_false : (b : Bool) → (b ≡ true) ⊎ (b ≡ false)
true_or_false true = inl refl
true_or_false false = inr refl

pub kept_passes : {X : Type 0} (p : X → Bool) (xs : List X) (place : ℕ) (x : X) →
    slice_get (filter p xs) place ≡ Some x →
    p x ≡ true
kept_passes p [] place x there = absurd (let no = there in cc)
kept_passes p (first ∷ xs) zero x there = elim (true_or_false (p first)) [
  | inl passes ↦
      let is : Some first ≡ Some x = rw passes at there in
      let same : first ≡ x = cc in
      ap p (sym same) ∙ passes
  | inr fails ↦ kept_passes p xs zero x (rw fails at there)
]
kept_passes p (first ∷ xs) (suc place) x there = elim (true_or_false (p first)) [
  | inl passes ↦ kept_passes p xs place x (rw passes at there)
  | inr fails ↦ kept_passes p xs (suc place) x (rw fails at there)
]

pub stays_kept : {X : Type 0} (p : X → Bool) (xs : List X) (i : ℕ) (x : X) → slice_get xs i ≡ Some x → p x ≡ true →
    (place : ℕ) × (slice_get (filter p xs) place ≡ Some x)
stays_kept p [] i x there passes = absurd (let no = there in cc)
stays_kept p (first ∷ xs) zero x there passes =
    let is : Some first ≡ Some x = there in
    let same : first ≡ x = cc in
    let here : p first ≡ true = ap p same ∙ passes in
    (0, rw here (ap Some same))
stays_kept p (first ∷ xs) (suc i) x there passes =
    let more = stays_kept p xs i x there passes in
    elim (true_or_false (p first)) [
      | inl here ↦ (suc more.0, rw here more.1)
      | inr not_here ↦ (more.0, rw not_here more.1)
    ]

-- each sign is among all
pub sign_there : (one : ChartSign) → (place : ℕ) × (slice_get all_signs place ≡ Some one)
sign_there (sign.OfStroke stroke.Go) = (0, refl)
sign_there (sign.OfStroke stroke.Back) = (1, refl)
sign_there (sign.OfStroke stroke.Get) = (2, refl)
sign_there (sign.OfStroke stroke.Set) = (3, refl)
sign_there (sign.OfStroke stroke.Forward) = (4, refl)
sign_there (sign.OfStroke stroke.Sync) = (5, refl)
sign_there (sign.OfStroke stroke.Ack) = (6, refl)
sign_there sign.OfAct = (7, refl)
sign_there sign.Cross = (8, refl)
sign_there sign.Seen = (9, refl)
sign_there sign.Stack = (10, refl)
sign_there sign.Bars = (11, refl)

-- some element passes a test
pub some_passes : {X : Type 0} (p : X → Bool) (xs : List X) (i : ℕ) (x : X) → slice_get xs i ≡ Some x →
    p x ≡ true → list_any p xs ≡ true
some_passes p [] i x there passes = absurd (let no = there in cc)
some_passes p (first ∷ xs) zero x there passes =
    let is : Some first ≡ Some x = there in
    let same : first ≡ x = cc in
    let here : p first ≡ true = ap p same ∙ passes in
    rw here refl
some_passes p (first ∷ xs) (suc i) x there passes =
    let more = some_passes p xs i x there passes in
    elim (true_or_false (p first)) [ inl here ↦ rw here refl | inr not_here ↦ rw not_here more ]
