-- Every event leaves a world that stands for the same configuration of the plain run, or for the next.
use Rattle.std.proofs.Common.{◌≡◌, ◌∙◌, ℕ, inl, inr, true, false, [], ◌∷◌, Option, Some, None, refl, ap, sym}
use Rattle.std.proofs.Common.{subst}
use Rattle.std.specs.Prelude.{IsSome, IsSomeAnd, IsTrue}
use Rattle.std.proofs.lemmas.Bool.Decides.{eqb_tells}
use Rattle.js_base.specs.declared.ids.HostId.{HostId}
use Rattle.js_base.proofs.Options.{some_same}
use Rattle.jif_tree.specs.SourceRun.{Configuration, IsAtEnd}
use Rattle.event_text.specs.declared.event.Event.{Event}
use Rattle.event_text.specs.declared.event.Event.TheVariants.{Take, Turn, Act}
use Rattle.host_core.specs.Host.{HostState}
use Rattle.host_core.specs.Turn.{IsTurn, label_of_turn}
use Rattle.net_world.specs.Choice.{NoneRuns, NothingFlies}
use Rattle.net_world.specs.Flying.{Flight, Flying}
use Rattle.net_world.specs.World.{WorldShape, IsStep, IsTurnStep, IsTakeStep, state_at, after_step, has_halted}
use Rattle.net_world.proofs.Present.{same_id}
use Rattle.typed_steps.specs.Views.{Split, View}
use Rattle.typed_steps.specs.Weights.{Paced}
use Rattle.typed_steps.proofs.Basics.{none_there}
use Rattle.simulation.proofs.Simulates.{only, Holder, runs, asked, answered, gives, goes, returns, halted, IsIdle}
use Rattle.simulation.proofs.Simulates.{Stands, AreIdle, GoesOn, Simulates, Goes, IsFueled}
use Rattle.simulation.proofs.Moved.{none_taken, own_cell}
use Rattle.simulation.proofs.Turning.{holder_turn}
use Rattle.simulation.proofs.Takes.{asked_taken, answered_taken, giving_taken, going_taken, returning_taken}
use Rattle.net_world.specs.Fits.{ShapeFits}

-- ---- turns

-- a host where nothing runs makes no turn
idle_turn : (split : Split) (world after : WorldShape) (holder : Holder) → AreIdle holder world → (host : HostId) →
    IsIdle holder host → IsTurnStep split.code world host after → ⊥
idle_turn split world after holder idle host rests step =
    none_there step.state.running (idle host step.state step.obeys rests).0 step.runs

-- nor does one that waits
waiting_turn : (split : Split) (world after : WorldShape) (host holder : HostId) (state : HostState) →
    state_at world holder ≡ Some state → state.running ≡ None → host.0 ≡ holder.0 →
    IsTurnStep split.code world host after → ⊥
waiting_turn split world after host holder state there rests same step =
    let one : host ≡ holder = same_id host holder same in
    let is = some_same (state_at world holder) step.state state (ap (state_at world) (sym one) ∙ step.obeys) there in
    none_there step.state.running (ap (λ (s : HostState). s.running) is ∙ rests) step.runs

turned : (split : Split) (c : Configuration) (world after : WorldShape) (sim : Simulates split c world)
    (holder : Holder) → ShapeFits split.code world →
    (stands : Stands split c sim.view world holder) →
    (Paced split → IsFueled split c sim.view world holder stands sim.fuel) → AreIdle holder world →
    GoesOn holder world → (host : HostId) → IsTurnStep split.code world host after → Goes split c sim.fuel after
turned split c world after sim (runs holder) fits stands fueled idle none host step = elim (eqb_tells host.0 holder.0) [
  | inl same ↦
      let one : host ≡ holder = same_id host holder same.1 in
      let run = stands.1 in
      let here = subst (λ h. IsTurnStep split.code world h after) one step in
      let state = some_same (state_at world holder) here.state run.state here.obeys run.there in
      holder_turn split c world after holder fits sim run stands.0 none idle fueled here.outcome
      (subst (λ (s : HostState). IsTurn split.code s here.outcome) state here.turns)
      (ap (λ (s : HostState). after_step world holder here.outcome (label_of_turn split.code s)) (sym state)
      ∙ here.leaves)
  | inr apart ↦ absurd (idle_turn split world after (runs holder) idle host apart.1 step)
]
turned split c world after sim (asked holder owner) fits stands fueled idle none host step =
    elim (eqb_tells host.0 holder.0) [
      | inl same ↦
          let waits = stands.1.waits in
          absurd (waiting_turn split world after host holder waits.state waits.there waits.running same.1 step)
      | inr apart ↦ absurd (idle_turn split world after (asked holder owner) idle host apart.1 step)
    ]
turned split c world after sim (answered holder owner) fits stands fueled idle none host step =
    elim (eqb_tells host.0 holder.0) [
      | inl same ↦
          let waits = stands.1.waits in
          absurd (waiting_turn split world after host holder waits.state waits.there waits.running same.1 step)
      | inr apart ↦ absurd (idle_turn split world after (answered holder owner) idle host apart.1 step)
    ]
turned split c world after sim (gives holder owner) fits stands fueled idle none host step =
    elim (eqb_tells host.0 holder.0) [
      | inl same ↦
          let waits = stands.1.waits in
          absurd (waiting_turn split world after host holder waits.state waits.there waits.running same.1 step)
      | inr apart ↦ absurd (idle_turn split world after (gives holder owner) idle host apart.1 step)
    ]
turned split c world after sim (goes from to) fits stands fueled idle none host step =
    absurd (idle_turn split world after (goes from to) idle host tt step)
turned split c world after sim (returns from to) fits stands fueled idle none host step =
    absurd (idle_turn split world after (returns from to) idle host tt step)
turned split c world after sim halted fits stands fueled idle none host step =
    absurd (idle_turn split world after halted idle host tt step)

-- ---- messages

taken : (split : Split) (c : Configuration) (world after : WorldShape) (sim : Simulates split c world)
    (holder : Holder) → (stands : Stands split c sim.view world holder) →
    (Paced split → IsFueled split c sim.view world holder stands sim.fuel) → AreIdle holder world →
    GoesOn holder world →
    (from to : HostId) (place : ℕ) → IsTakeStep split.code world from to place after → Goes split c sim.fuel after
taken split c world after sim (runs holder) stands fueled idle none from to place step =
    absurd (none_taken world from to place step.flight stands.1.flying step.there)
taken split c world after sim (asked holder owner) stands fueled idle none from to place step =
    asked_taken split c world after sim holder owner idle none stands.0 stands.1 from to place step fueled
taken split c world after sim (answered holder owner) stands fueled idle none from to place step =
    answered_taken split c world after sim holder owner idle none stands.0 stands.1 from to place step fueled
taken split c world after sim (gives holder owner) stands fueled idle none from to place step =
    giving_taken split c world after sim holder owner idle none stands.0 stands.1 from to place step fueled
taken split c world after sim (goes sender target) stands fueled idle none from to place step =
    going_taken split c world after sim sender target idle none stands.0 stands.1 from to place step fueled
taken split c world after sim (returns sender target) stands fueled idle none from to place step =
    returning_taken split c world after sim sender target idle none stands.0 stands.1 from to place step fueled
taken split c world after sim halted stands fueled idle none from to place step =
    absurd (none_taken world from to place step.flight stands.flying step.there)

-- ---- events

pub event_kept : (split : Split) (c : Configuration) (world after : WorldShape) (event : Event) →
    (sim : Simulates split c world) → ShapeFits split.code world → IsStep split.code world event after →
    Goes split c sim.fuel after
event_kept split c world after (Take from to place) sim fits step =
    taken split c world after sim sim.holder sim.stands sim.fueled sim.idle sim.goes_on from to place step
event_kept split c world after (Turn host) sim fits step =
    turned split c world after sim sim.holder fits sim.stands sim.fueled sim.idle sim.goes_on host step
event_kept split c world after (Act from to made) sim fits step =
    absurd (let none = sim.orderly.none_bad from in let bad = step.bad in cc)

-- ---- what such a world has

halting : (o : Option HostState) → IsSomeAnd o (λ host. IsTrue host.halted) →
    (state : HostState) × (o ≡ Some state) × (state.halted ≡ true)
halting None halts = absurd halts
halting (Some state) halts = (state, refl, halts)

not_halted : (state : HostState) → state.halted ≡ false → state.halted ≡ true → ⊥
not_halted state one other = cc

still : (world : WorldShape) (root : HostId) →
    ((host : HostId) (state : HostState) → state_at world host ≡ Some state → state.halted ≡ false) →
    has_halted root world → ⊥
still world root none halts =
    let has = halting (state_at world root) halts in
    not_halted has.0 (none root has.0 has.1) has.2

ended : (split : Split) (c : Configuration) (world : WorldShape) (view : View)
    (holder : Holder) → Stands split c view world holder → GoesOn holder world → has_halted split.code.root world →
    IsAtEnd c
ended split c world view (runs holder) stands none halts = absurd (still world split.code.root none halts)
ended split c world view (asked holder owner) stands none halts = absurd (still world split.code.root none halts)
ended split c world view (answered holder owner) stands none halts = absurd
    (still world split.code.root none halts)
ended split c world view (gives holder owner) stands none halts = absurd (still world split.code.root none halts)
ended split c world view (goes from to) stands none halts = absurd (still world split.code.root none halts)
ended split c world view (returns from to) stands none halts = absurd (still world split.code.root none halts)
ended split c world view halted stands none halts = stands.ends

-- where the world has halted the plain run is at its end
pub halted_at_end : (split : Split) (c : Configuration) (world : WorldShape) → Simulates split c world →
    has_halted split.code.root world → IsAtEnd c
halted_at_end split c world sim halts = ended split c world sim.view sim.holder sim.stands sim.goes_on halts

flies : (world : WorldShape) (from to : HostId) (flight : Flight) → world.flying ≡ only from to (flight ∷ []) →
    NothingFlies world → ⊥
flies world from to flight flying idle =
    idle from to (λ none.
    let here : world.flying from to ≡ flight ∷ [] =
    ap (λ (f : Flying). f from to) flying ∙ own_cell from to (flight ∷ []) in
    let both : flight ∷ [] ≡ [] = sym here ∙ none in
    cc)

has_run : (o : Option HostState) (state : HostState) → o ≡ Some state → IsSome state.running →
    IsSomeAnd o (λ host. IsSome host.running)
has_run None state is running = absurd (cc)
has_run (Some there) state is running =
    let same : there ≡ state = cc in
    subst (λ (s : HostState). IsSome s.running) (sym same) running

has_ended : (o : Option HostState) (state : HostState) → o ≡ Some state → state.halted ≡ true →
    IsSomeAnd o (λ host. IsTrue host.halted)
has_ended None state is halts = absurd (cc)
has_ended (Some there) state is halts =
    let same : there ≡ state = cc in
    ap (λ (s : HostState). s.halted) same ∙ halts

idle_stands : (split : Split) (c : Configuration) (world : WorldShape) (view : View)
    (holder : Holder) → Stands split c view world holder → NoneRuns world → NothingFlies world →
    has_halted split.code.root world
idle_stands split c world view (runs holder) stands none idle =
    let run = stands.1 in
    absurd (none holder
    (has_run (state_at world holder) run.state run.there (subst IsSome (sym run.running) refl)))
idle_stands split c world view (asked holder owner) stands none idle =
    absurd (flies world holder owner stands.1.waits.flight stands.1.waits.flying idle)
idle_stands split c world view (answered holder owner) stands none idle =
    absurd (flies world owner holder stands.1.waits.flight stands.1.waits.flying idle)
idle_stands split c world view (gives holder owner) stands none idle =
    absurd (flies world holder owner stands.1.waits.flight stands.1.waits.flying idle)
idle_stands split c world view (goes from to) stands none idle =
    absurd (flies world from to stands.1.flight stands.1.flying idle)
idle_stands split c world view (returns from to) stands none idle =
    absurd (flies world from to stands.1.flight stands.1.flying idle)
idle_stands split c world view halted stands none idle =
    has_ended (state_at world split.code.root) stands.state stands.there stands.halted

-- where nothing is left to happen the program has halted
pub idle_halted : (split : Split) (c : Configuration) (world : WorldShape) → Simulates split c world →
    NoneRuns world → NothingFlies world → has_halted split.code.root world
idle_halted split c world sim none idle =
    idle_stands split c world sim.view sim.holder sim.stands none idle
