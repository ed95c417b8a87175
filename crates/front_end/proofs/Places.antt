-- What holds of the elements at places of lists.
use Rattle.std.proofs.Common.{◌≡◌, ℕ, zero, suc, ◌<◌, List, [], ◌∷◌, take, Some, slice_get, inl, inr, subst, sym}
use Rattle.std.proofs.Common.{ap, ◌∙◌, arith}
use Rattle.std.proofs.lemmas.Bool.{cases_order}
use Rattle.std.proofs.lemmas.Option.{slice_get_within}
use Rattle.std.specs.List.{AllByRecursion}

-- two places of which neither is before the other
pub same_place : (first second : ℕ) → ¬ (first < second) → ¬ (second < first) → first ≡ second
same_place first second not_before not_after =
    elim (cases_order first second) [
      | inl same ↦ same
      | inr apart ↦ elim apart [ inl before ↦ absurd (not_before before) | inr after ↦ absurd (not_after after) ]
    ]

pub same_here : {A : Type 0} (xs : List A) (place other : ℕ) (x y : A) → place ≡ other → slice_get xs place ≡ Some x →
    slice_get xs other ≡ Some y → x ≡ y
same_here xs place other x y same one two = let both : Some x ≡ Some y = sym one ∙ ap (slice_get xs) same ∙ two in cc

-- what holds of all
pub of_all : {A : Type 0} (P : A → Type 0) (xs : List A) (place : ℕ) (x : A) → AllByRecursion P xs →
    slice_get xs place ≡ Some x → P x
of_all P [] place x all here = absurd (let within = slice_get_within [] place x here in omega arith)
of_all P (y ∷ ys) zero x all here = let both : Some y ≡ Some x = here in let same : y ≡ x = cc in subst P same all.0
of_all P (y ∷ ys) (suc place) x all here = of_all P ys place x all.1 here

-- what holds of all in front of a place
pub of_front : {A : Type 0} (P : A → Type 0) (xs : List A) (count place : ℕ) (x : A) →
    AllByRecursion P (take count xs) →
    place < count → slice_get xs place ≡ Some x → P x
of_front P [] count place x all below here = absurd (let within = slice_get_within [] place x here in omega arith)
of_front P (y ∷ ys) zero place x all below here = absurd (omega arith)
of_front P (y ∷ ys) (suc count) zero x all below here =
    let both : Some y ≡ Some x = here in let same : y ≡ x = cc in subst P same all.0
of_front P (y ∷ ys) (suc count) (suc place) x all below here = of_front P ys count place x all.1 (omega arith) here
