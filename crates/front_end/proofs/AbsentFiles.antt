-- Files that tell what they hold: what is there of a name, and which of some names is the first that is absent.
use Rattle.std.proofs.Common.{◌≡◌, ℕ, ◌<◌, List, Option, Some, None, refl, sym, ◌∙◌, subst}
use Rattle.std.specs.Prelude.{IsSome}
use Rattle.std.proofs.lemmas.Bool.{false≢true}
use Rattle.front_end.specs.Loads.{Told, IsHeld, IsFirstAbsent}
use Rattle.front_end.proofs.Places.{same_place, same_here, of_front}

pub held_once : (holds : List ℕ → Option (List ℕ)) (name bytes other : List ℕ) →
    Told (Some holds) name (Some bytes) → Told (Some holds) name (Some other) → bytes ≡ other
held_once holds name bytes other one two = let both : Some bytes ≡ Some other = sym one ∙ two in cc

pub told_held : (holds : List ℕ → Option (List ℕ)) (name bytes : List ℕ) → Told (Some holds) name (Some bytes) →
    IsHeld (Some holds) name
told_held holds name bytes told = subst (IsSome {T = List ℕ}) (sym told) refl

pub absent_not_held : (holds : List ℕ → Option (List ℕ)) (name : List ℕ) → Told (Some holds) name None →
    ¬ IsHeld (Some holds) name
absent_not_held holds name told held = false≢true (subst (IsSome {T = List ℕ}) told held)

absent_not_before : (holds : List ℕ → Option (List ℕ)) (names : List (List ℕ)) (place other : ℕ)
    (file second : List ℕ) →
    IsFirstAbsent (Some holds) names place file → IsFirstAbsent (Some holds) names other second → ¬ (place < other)
absent_not_before holds names place other file second one two = λ before.
    absent_not_held holds file one.absent
    (of_front (IsHeld (Some holds)) names other place file two.before before one.here)

pub absent_once : (holds : List ℕ → Option (List ℕ)) (names : List (List ℕ)) (place other : ℕ) (file second : List ℕ) →
    IsFirstAbsent (Some holds) names place file → IsFirstAbsent (Some holds) names other second →
    (place ≡ other) × (file ≡ second)
absent_once holds names place other file second one two =
    let same =
    same_place place other (absent_not_before holds names place other file second one two)
    (absent_not_before holds names other place second file two one) in
    (same, same_here names place other file second same one.here two.here)
