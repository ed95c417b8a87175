-- The split of a program and a host file: one outcome, and always one.
use Rattle.std.proofs.Common.{◌≡◌, ℕ, List, refl, sym, ◌∙◌}
use Rattle.front_end.specs.PlacedSources.{PlacedSources}
use Rattle.split_cli.specs.Split.{SplitSources, split_of}
use Rattle.front_end.specs.Stages.{given, stopped}
use Rattle.front_end.specs.Verdicts.{VerdictShape}
use Rattle.front_end.proofs.PlacedStops.{then_stops}
use Rattle.front_end.proofs.RefusedStages.{IsRefusal, placed_refuse}
use Rattle.front_end.proofs.SomeStages.{HasOutcome, some_then}
use Rattle.front_end.proofs.Stages.{IsOne, one_then}

pub split_once : ((program hosts : List ℕ) → IsOne (PlacedSources program hosts)) → (program hosts : List ℕ) →
    IsOne (SplitSources program hosts)
split_once places program hosts =
    one_then (PlacedSources program hosts) (λ placed end. end ≡ given (split_of placed))
    (places program hosts) (λ placed was first second one two. one ∙ sym two)

pub split_some : ((program hosts : List ℕ) → HasOutcome (PlacedSources program hosts)) → (program hosts : List ℕ) →
    HasOutcome (SplitSources program hosts)
split_some places program hosts =
    some_then (PlacedSources program hosts) (λ placed end. end ≡ given (split_of placed))
    (places program hosts) (λ placed was. (given (split_of placed), refl))

-- where there is none, the program is refused
pub split_refuses : (program hosts : List ℕ) (verdict : VerdictShape) →
    SplitSources program hosts (stopped verdict) → IsRefusal verdict
split_refuses program hosts =
    then_stops IsRefusal (PlacedSources program hosts) (λ placed end. end ≡ given (split_of placed))
    (placed_refuse program hosts) (λ placed verdict is. absurd (let no = is in cc))
