-- The parts of the variables that ride, one after the other.
use Rattle.std.proofs.Common.{◌≤◌, List, [], ◌∷◌, length, drop, get_or, Option, Some, inl, inr, refl, arith}
use Rattle.host_code.specs.Riders.{Rider, names_of}
use Rattle.ignored_reasons.specs.declared.why.Why.{Why}
use Rattle.ignored_reasons.specs.declared.why.Why.TheVariants as reason
use Rattle.ignored_reasons.specs.Reasons.{IsFirstFalse, parts_riding}

pub first_false : (holds : Why → Type 0) (riders : List Rider) (none : Rider) → 1 ≤ length riders →
    ¬ holds (reason.MayNotForward (get_or riders 0 none).0) →
    IsFirstFalse holds (parts_riding (names_of riders)) (Some (reason.MayNotForward (get_or riders 0 none).0))
first_false holds [] none some not = absurd (omega arith)
first_false holds (rider ∷ riders) none some not = inr (not, refl)

pub behind_first : (holds : Why → Type 0) (riders : List Rider) (none : Rider) (found : Option Why) →
    1 ≤ length riders → holds (reason.MayNotForward (get_or riders 0 none).0) →
    IsFirstFalse holds (parts_riding (names_of (drop 1 riders))) found →
    IsFirstFalse holds (parts_riding (names_of riders)) found
behind_first holds [] none found some here rest = absurd (omega arith)
behind_first holds (rider ∷ riders) none found some here rest = inl (here, rest)
