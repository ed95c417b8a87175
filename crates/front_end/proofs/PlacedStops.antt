-- What stops a program and its hosts refuses one of them: what holds of each such refusal holds of what is then due.
use Rattle.std.proofs.Common.{◌≡◌, ℕ, List, ⊎_elim, subst, sym, refl, inl, inr}
use Rattle.std.specs.Prelude.{◌⊎◌}
use Rattle.js_base.specs.declared.status.Status.TheVariants.{SourceRefused, InputRefused}
use Rattle.front_end.specs.PlacedSources.{OnHosts, PlacedSources}
use Rattle.front_end.specs.Sources.{Lexed, Parsed, Drafted, HostsRead, Resolved, ProgramLabelled, DraftAccepted}
use Rattle.front_end.specs.Sources.{AcceptedWith, Sources}
use Rattle.front_end.specs.Stages.{StageEnd, stopped, Then}
use Rattle.front_end.specs.Refusals.{RefusalShape, refusal_status}
use Rattle.front_end.specs.Verdicts.{VerdictShape, Refuse}
use Rattle.front_end.proofs.Stages.{stop_with}

-- what holds of the refusals of two stages holds of those of one after the other
pub then_stops : (P : VerdictShape → Type 0) {X Y : Type 0} (First : StageEnd X → Type 0)
    (Next : X → StageEnd Y → Type 0) → ((verdict : VerdictShape) → First (stopped verdict) → P verdict) →
    ((x : X) (verdict : VerdictShape) → Next x (stopped verdict) → P verdict) →
    (verdict : VerdictShape) → Then First Next (stopped verdict) → P verdict
then_stops P {X} {Y} First Next first next verdict ends =
    ⊎_elim (λ both. next both.0 verdict both.2)
    (λ no. let same : stop_with {X = Y} verdict ≡ stop_with no.0 = no.2 in
    let is : no.0 ≡ verdict = cc in
    subst P is (first no.0 no.1))
    ends

-- a refusal of a program, or of a host file
abbrev pub IsSourceRefusal : RefusalShape → Type 0
IsSourceRefusal refusal = (refusal_status refusal ≡ SourceRefused) ⊎ (refusal_status refusal ≡ InputRefused)

module _ (P : VerdictShape → Type 0) (refuses : (refusal : RefusalShape) → IsSourceRefusal refusal → P (Refuse refusal))
  where
    refused : (refusal : RefusalShape) (verdict : VerdictShape) → IsSourceRefusal refusal → verdict ≡ Refuse refusal →
        P verdict
    refused refusal verdict of is = subst P (sym is) (refuses refusal of)

    sources_stop : (program hosts : List ℕ) (verdict : VerdictShape) → Sources program hosts (stopped verdict) →
        P verdict
    sources_stop program hosts =
        then_stops P (Drafted program) (AcceptedWith hosts)
        (then_stops P (Lexed program) Parsed
        (λ verdict was. refused _ verdict (inl refl) was.3)
        (λ list verdict was. refused _ verdict (inl refl) was.3))
        (λ draft. then_stops P (HostsRead hosts) (λ file. DraftAccepted file draft)
        (λ verdict was. refused _ verdict (inr refl) was.3)
        (λ file. then_stops P (Resolved file draft) (ProgramLabelled file)
        (λ verdict was. refused _ verdict (inl refl) was.3)
        (λ tree verdict was. refused _ verdict (inl refl) was.3)))

    pub placed_stops : (program hosts : List ℕ) (verdict : VerdictShape) →
        PlacedSources program hosts (stopped verdict) →
        P verdict
    placed_stops program hosts =
        then_stops P (Sources program hosts) OnHosts (sources_stop program hosts)
        (λ source verdict was. refused _ verdict (inl refl) was.2)
