-- What stops a command before its end is a refusal.
use Rattle.std.proofs.Common.{◌≡◌, ◌≢◌, ℕ, List, ⊎_elim, refl}
use Rattle.std.specs.Prelude.{◌⊎◌}
use Rattle.js_base.specs.declared.status.Status.{Status}
use Rattle.js_base.specs.declared.status.Status.TheVariants.{Done, Spent, SourceRefused, InputRefused}
use Rattle.front_end.specs.PlacedSources.{PlacedSources}
use Rattle.front_end.specs.Refusals.{RefusalShape, refusal_status}
use Rattle.front_end.specs.Stages.{stopped}
use Rattle.front_end.specs.Verdicts.{VerdictShape, Refuse}
use Rattle.front_end.proofs.PlacedStops.{IsSourceRefusal, placed_stops}

abbrev pub IsFailure : Status → Type 0
IsFailure status = (status ≢ Done) × (status ≢ Spent)

abbrev pub IsRefusal : VerdictShape → Type 0
IsRefusal verdict =
    (refusal : RefusalShape) × (verdict ≡ Refuse refusal) × IsFailure (refusal_status refusal)

is_failure : (status : Status) → (status ≡ SourceRefused) ⊎ (status ≡ InputRefused) → IsFailure status
is_failure status is = (
  λ done. ⊎_elim (λ source. let no : ⊥ = cc in no) (λ input. let no : ⊥ = cc in no) is,
  λ spent. ⊎_elim (λ source. let no : ⊥ = cc in no) (λ input. let no : ⊥ = cc in no) is,
)

source_refusal : (refusal : RefusalShape) → IsSourceRefusal refusal → IsRefusal (Refuse refusal)
source_refusal refusal of = (refusal, refl, is_failure (refusal_status refusal) of)

pub placed_refuse : (program hosts : List ℕ) (verdict : VerdictShape) → PlacedSources program hosts (stopped verdict) →
    IsRefusal verdict
placed_refuse = placed_stops IsRefusal source_refusal
