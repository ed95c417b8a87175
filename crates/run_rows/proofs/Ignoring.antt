-- Why an event was ignored, by whether the count of what its host ignored has risen.
use Rattle.std.proofs.Common.{◌≡◌, ◌⊎◌, ◌∙◌, ℕ, Bool, true, false, Option, Some, None, ap, sym, refl, inl, inr}
use Rattle.std.proofs.Common.{arith, subst, length, ◌<◌}
use Rattle.std.specs.Prelude.{◌↔◌, IsTrue, IsSomeAnd, IfSome, slice_get, if◌then◌else◌}
use Rattle.js_base.specs.declared.ids.HostId.{HostId}
use Rattle.host_code.specs.declared.message.Message.{Message}
use Rattle.host_code.specs.Code.{CodeShape}
use Rattle.host_code.specs.Thread.{ThreadShape}
use Rattle.host_core.specs.Host.{HostState, Outcome}
use Rattle.host_core.specs.Taking.{PassesCheck, IsTaking}
use Rattle.event_text.specs.declared.event.BadMessage.{BadMessage}
use Rattle.event_text.specs.declared.event.Event.{Event}
use Rattle.event_text.specs.declared.event.Event.TheVariants.{Take, Turn, Act}
use Rattle.net_world.specs.Fits.{ShapeFits, IsStateOf}
use Rattle.net_world.specs.Told.{message_made}
use Rattle.net_world.specs.World.{WorldShape, IsStep, IsTakeStep, IsTurnStep, IsActStep, state_at, tokens_sent, mover}
use Rattle.ignored_reasons.specs.declared.why.Why.{Why}
use Rattle.ignored_reasons.specs.declared.why.Why.TheVariants as why
use Rattle.run_rows.specs.declared.row.What.{What}
use Rattle.run_rows.specs.declared.row.What.TheVariants as what
use Rattle.run_rows.specs.Rows.{IsWhat, IsReason, IsIgnoring, TurnsWrong, seen_in}
use Rattle.run_rows.proofs.StatesOf.{some_and, and_some, after_take, after_turn, after_act}
use Rattle.run_rows.proofs.TurnTraces.{turn_ignores, TurnIgnores}

-- whether the host has ignored no more than before
abbrev pub SameCount : WorldShape → WorldShape → HostId → Type 0
SameCount world next host = (seen_in (state_at next host)).ignored ≡ (seen_in (state_at world host)).ignored

same_count : (world next : WorldShape) (host : HostId) (before after : HostState) → state_at world host ≡ Some before →
    state_at next host ≡ Some after → (SameCount world next host ↔ (after.ignored ≡ before.ignored))
same_count world next host before after was is =
    let one : (seen_in (state_at world host)).ignored ≡ before.ignored =
    ap (λ (o : Option HostState). (seen_in o).ignored) was in
    let other : (seen_in (state_at next host)).ignored ≡ after.ignored =
    ap (λ (o : Option HostState). (seen_in o).ignored) is in
    (λ same. sym other ∙ same ∙ one, λ same. other ∙ same ∙ sym one)

-- what the law of counts says of one message
abbrev pub Seen : CodeShape → Type 0
Seen code = (host : HostState) (from : HostId) (taken : Message) (outcome : Outcome) →
    IsTaking code host from taken outcome → ((outcome.state.ignored ≡ host.ignored) ↔ PassesCheck code host from taken)

chain : {A B C D : Type 0} → (A ↔ B) → (B ↔ C) → (C ↔ D) → (A ↔ D)
chain one two three = (λ a. three.0 (two.0 (one.0 a)), λ d. one.1 (two.1 (three.1 d)))

ignored_turn : (code : CodeShape) (host : HostState) (outcome : Outcome) (passes : Bool) →
    TurnIgnores code host outcome → (IsTrue passes ↔ (outcome.state.ignored ≡ host.ignored)) →
    let found : Option Why = if passes then None else Some why.NotOnTop in
    (TurnsWrong code host × (found ≡ Some why.NotOnTop)) ⊎ (¬ TurnsWrong code host × (found ≡ None))
ignored_turn code host outcome true (inl wrong) checked =
    absurd (omega (arith, wrong.1, checked.0 refl))
ignored_turn code host outcome true (inr right) checked = inr (right.0, refl)
ignored_turn code host outcome false (inl wrong) checked = inl (wrong.0, refl)
ignored_turn code host outcome false (inr right) checked = absurd (cc (checked.1 right.1))

runs_at : (running : Option ThreadShape) (host : HostId) (found : What) →
    IsSomeAnd running (λ thread. found ≡ what.Turn host thread.at) → (at : ℕ) × (found ≡ what.Turn host at)
runs_at None host found is = absurd is
runs_at (Some thread) host found is = (thread.at, is)

turned : (code : CodeShape) (world next : WorldShape) (host : HostId) (step : IsTurnStep code world host next)
    (found : What) (passes : Bool) (reason : Option Why) → IsWhat world (Turn host) found →
    IsReason code found passes reason → (IsTrue passes ↔ SameCount world next host) →
    IsIgnoring code world (Turn host) reason
turned code world next host step found passes reason is tells counted =
    let counts = same_count world next host step.state step.outcome.state step.obeys
    (after_turn code world next host step) in
    let at = runs_at step.state.running host found (and_some (state_at world host) step.state _ step.obeys is) in
    let due : reason ≡ (if passes then None else Some why.NotOnTop) =
    subst (λ (f : What). IsReason code f passes reason) at.1 tells in
    some_and (state_at world host) step.state _ step.obeys
    (subst (λ (r : Option Why). (TurnsWrong code step.state × (r ≡ Some why.NotOnTop))
    ⊎ (¬ TurnsWrong code step.state × (r ≡ None))) (sym due)
    (ignored_turn code step.state step.outcome passes (turn_ignores code step.state step.outcome step.turns)
    (λ is. counts.0 (counted.0 is), λ same. counted.1 (counts.1 same))))

-- the host of a state has its number
pub numbered : (code : CodeShape) (world : WorldShape) (host : HostId) (state : HostState) → ShapeFits code world →
    state_at world host ≡ Some state → state.me ≡ host
numbered code world host state fits obeys =
    let own : IsStateOf code host state =
    subst (λ (o : Option HostState). IfSome o (IsStateOf code host)) obeys (fits.states host) in
    own.me

-- and is one of the code's
pub numbered_host : (code : CodeShape) (world : WorldShape) (host : HostId) (state : HostState) → ShapeFits code world →
    state_at world host ≡ Some state → host.0 < length code.hosts
numbered_host code world host state fits obeys =
    let own : IsStateOf code host state =
    subst (λ (o : Option HostState). IfSome o (IsStateOf code host)) obeys (fits.states host) in
    subst (λ (h : HostId). h.0 < length code.hosts) own.me own.fits.me

took : (code : CodeShape) (world next : WorldShape) (from to : HostId) (place : ℕ)
    (step : IsTakeStep code world from to place next) (found : What) (passes : Bool) (reason : Option Why) →
    Seen code → ShapeFits code world → IsWhat world (Take from to place) found → IsReason code found passes reason →
    (IsTrue passes ↔ SameCount world next to) → IsIgnoring code world (Take from to place) reason
took code world next from to place step found passes reason seen fits is tells counted =
    let counts = same_count world next to step.state step.outcome.state step.obeys
    (after_take code world next from to place step) in
    let taken = and_some (slice_get (world.flying from to) place) step.flight _ step.there is in
    let due = subst (λ (f : What). IsReason code f passes reason) taken tells in
    some_and (slice_get (world.flying from to) place) step.flight _ step.there
    (some_and (state_at world to) step.state _ step.obeys
    (due step.state (numbered code world to step.state fits step.obeys)
    (chain counted counts (seen step.state from step.flight.message step.outcome step.takes))))

acted : (code : CodeShape) (world next : WorldShape) (from to : HostId) (made : BadMessage)
    (step : IsActStep code world from to made next) (found : What) (passes : Bool) (reason : Option Why) →
    Seen code → ShapeFits code world → IsWhat world (Act from to made) found → IsReason code found passes reason →
    (IsTrue passes ↔ SameCount world next to) → IsIgnoring code world (Act from to made) reason
acted code world next from to made step found passes reason seen fits is tells counted =
    let counts = same_count world next to step.state step.outcome.state step.obeys
    (after_act code world next from to made step) in
    let due = subst (λ (f : What). IsReason code f passes reason) is tells in
    some_and (message_made (tokens_sent world) made) step.message _ step.makes
    (some_and (state_at world to) step.state _ step.obeys
    (due step.state step.message (tokens_sent world) (numbered code world to step.state fits step.obeys) step.makes
    (chain counted counts (seen step.state from step.message step.outcome step.takes))))

pub ignoring : (code : CodeShape) (world next : WorldShape) (event : Event) (found : What) (passes : Bool)
    (reason : Option Why) → Seen code → ShapeFits code world → IsStep code world event next →
    IsWhat world event found → IsReason code found passes reason →
    (IsTrue passes ↔ SameCount world next (mover event)) → IsIgnoring code world event reason
ignoring code world next (Turn host) found passes reason seen fits step is tells counted =
    turned code world next host step found passes reason is tells counted
ignoring code world next (Take from to place) found passes reason seen fits step is tells counted =
    took code world next from to place step found passes reason seen fits is tells counted
ignoring code world next (Act from to made) found passes reason seen fits step is tells counted =
    acted code world next from to made step found passes reason seen fits is tells counted
