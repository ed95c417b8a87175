-- From each world that fits a sound code and whose hosts obey, something comes next or nothing, so a drive has an end.
use Rattle.std.proofs.Common.{◌≢◌, ◌⊎◌, ℕ, zero, suc, ◌<◌, List, [], ◌∷◌, length, Option, Some, None}
use Rattle.std.proofs.Common.{inl, inr, ⊎_elim, refl, ap, sym, ◌∙◌, arith}
use Rattle.std.specs.Prelude.{IsSome, IsSomeAnd, All, slice_get}
use Rattle.std.proofs.lemmas.List.Elements.{All-head}
use Rattle.js_base.proofs.Decisions.{Decided}
use Rattle.js_base.specs.declared.ids.HostId.{HostId}
use Rattle.js_base.specs.declared.status.Status.{Status}
use Rattle.js_base.specs.declared.status.Status.TheVariants.{Done, Spent}
use Rattle.event_text.specs.declared.event.Event.{Event}
use Rattle.event_text.specs.declared.event.Event.TheVariants.{Take, Turn}
use Rattle.host_code.specs.Code.{CodeShape}
use Rattle.host_code.specs.Sound.{IsSoundCode}
use Rattle.host_code.specs.Thread.{ThreadShape}
use Rattle.host_core.specs.Host.{HostState}
use Rattle.net_world.specs.Choice.{Runs, NoneRuns, IsFirstRunning, Flies, NothingFliesFrom, NothingFlies, IsFirstFrom}
use Rattle.net_world.specs.Choice.{IsFirstFlying, IsNextEvent}
use Rattle.net_world.specs.Fits.{FlightFits, HasOwnToken, ShapeFits}
use Rattle.net_world.specs.Flying.{Flight}
use Rattle.net_world.specs.World.{WorldShape, AllObey, IsStep, state_at, given}
use Rattle.script_stages.proofs.SomeScript.{SomeStep}
use Rattle.split_cli.specs.Driven.{DrivesTo, rested, spent}
use Rattle.split_cli.proofs.FirstHosts.{first_or_none}
use Rattle.net_world.proofs.NextGoes.{shape_goes, next_own}
use Rattle.split_cli.proofs.NextEvents.{KeepsObeying, obey_after}

-- ---- what runs

runs_decided : (running : Option ThreadShape) → Decided (IsSome running)
runs_decided None = inr (λ is. let no : ⊥ = cc in no)
runs_decided (Some thread) = inl refl

host_decided : (host : Option HostState) → Decided (IsSomeAnd host (λ state. IsSome state.running))
host_decided None = inr (λ is. is)
host_decided (Some state) = runs_decided state.running

there_within : (hosts : List (Option HostState)) (place : ℕ) →
    IsSomeAnd (given (slice_get hosts place)) (λ state. IsSome state.running) → place < length hosts
there_within [] place runs = absurd runs
there_within (host ∷ hosts) zero runs = omega arith
there_within (host ∷ hosts) (suc place) runs = let behind = there_within hosts place runs in omega (arith, behind)

running_or_none : (world : WorldShape) → ((host : HostId) × IsFirstRunning world host) ⊎ NoneRuns world
running_or_none world =
    ⊎_elim
    (λ found. inl (found.0, record { runs = found.1.holds; first = found.1.first }))
    (λ none. inr none)
    (first_or_none (Runs world) (λ host. host_decided (state_at world host)) (length world.hosts)
    (λ host runs. there_within world.hosts host.0 runs))

-- ---- what is in flight

flies_decided : (flights : List Flight) → Decided (flights ≢ [])
flies_decided [] = inr (λ not. not refl)
flies_decided (flight ∷ flights) = inl (λ same. let no : ⊥ = cc in no)

-- a flight goes from a host of the code to another
ends_within : (code : CodeShape) (from to : HostId) (flights : List Flight) → flights ≢ [] →
    All (FlightFits code from to) flights → (from.0 < length code.hosts) × (to.0 < length code.hosts)
ends_within code from to [] some all = absurd (some refl)
ends_within code from to (flight ∷ flights) some all =
    let first = All-head (FlightFits code from to) flight flights all in (first.sender, first.target.0)

target_or_none : (code : CodeShape) (world : WorldShape) → ShapeFits code world → (from : HostId) →
    ((to : HostId) × IsFirstFrom world from to) ⊎ NothingFliesFrom world from
target_or_none code world fits from =
    ⊎_elim
    (λ found. inl (found.0, record { flies = found.1.holds; first = found.1.first }))
    (λ none. inr none)
    (first_or_none (Flies world from) (λ to. flies_decided (world.flying from to)) (length code.hosts)
    (λ to flies. (ends_within code from to (world.flying from to) flies (fits.mail.flying from to)).1))

-- something is in flight from this host
abbrev SomethingFlies : WorldShape → HostId → Type 0
SomethingFlies world from = (to : HostId) × IsFirstFrom world from to

sends_decided : (code : CodeShape) (world : WorldShape) → ShapeFits code world → (from : HostId) →
    Decided (SomethingFlies world from)
sends_decided code world fits from =
    ⊎_elim (λ found. inl found) (λ none. inr (λ some. none some.0 some.1.flies))
    (target_or_none code world fits from)

-- what is in flight has a first target
nothing_from : (code : CodeShape) (world : WorldShape) → ShapeFits code world → (from : HostId) →
    ¬ SomethingFlies world from → NothingFliesFrom world from
nothing_from code world fits from none =
    ⊎_elim (λ found. absurd (none found)) (λ nothing. nothing) (target_or_none code world fits from)

flying_or_none : (code : CodeShape) (world : WorldShape) → ShapeFits code world →
    ((from : HostId) × (to : HostId) × IsFirstFlying world from to) ⊎ NothingFlies world
flying_or_none code world fits =
    ⊎_elim
    (λ found. inl (
      found.0,
      found.1.holds.0,
      record {
        sender = λ earlier before. nothing_from code world fits earlier (found.1.first earlier before);
        target = found.1.holds.1;
      },
    ))
    (λ none. inr (λ from. nothing_from code world fits from (none from)))
    (first_or_none (SomethingFlies world) (sends_decided code world fits) (length code.hosts)
    (λ from some. (ends_within code from some.0 (world.flying from some.0) some.1.flies
    (fits.mail.flying from some.0)).0))

-- ---- what comes next

next_or_rest : (code : CodeShape) (world : WorldShape) → ShapeFits code world →
    ((event : Event) × IsNextEvent world (Some event)) ⊎ IsNextEvent world None
next_or_rest code world fits =
    ⊎_elim
    (λ runs. inl (Turn runs.0, runs.1))
    (λ none. ⊎_elim
    (λ flies. inl (Take flies.0 flies.1 0, (none, flies.2, refl)))
    (λ nothing. inr (none, nothing))
    (flying_or_none code world fits))
    (running_or_none world)

-- ---- drives

-- what is known of steps
pub record StepCauses : Type 0 where
  pub some : SomeStep
  pub obeying : KeepsObeying
  pub fits : (code : CodeShape) (world after : WorldShape) (event : Event) → IsSoundCode code →
      ShapeFits code world → HasOwnToken world event → IsStep code world event after → ShapeFits code after

-- what comes next happens
next_happens : StepCauses → (code : CodeShape) (world : WorldShape) (event : Event) → ShapeFits code world →
    AllObey world → IsNextEvent world (Some event) → (after : WorldShape) × IsStep code world event after
next_happens laws code world event fits obey next =
    ⊎_elim (λ step. step)
    (λ refused. absurd (let no = sym (shape_goes code world event fits.count fits.mail obey next) ∙ refused.1 in cc))
    (laws.some code world event)

-- how a drive of at most so many events ends
pub record HasEnd (code : CodeShape) (world : WorldShape) (most : ℕ) : Type 0 where
  pub events : List Event
  pub last : WorldShape
  pub status : Status
  pub ends : DrivesTo code world most events last status

-- one event before the others
drives_first : (code : CodeShape) (world next last : WorldShape) (most : ℕ) (event : Event) (events : List Event)
    (status : Status) → IsNextEvent world (Some event) → IsStep code world event next →
    DrivesTo code next most events last status → DrivesTo code world (suc most) (event ∷ events) last status
drives_first code world next last most event events _ comes step (rested few driven rest) =
    rested (omega (arith, few)) (comes, (next, step, driven)) rest
drives_first code world next last most event events _ comes step (spent more all driven goes) =
    spent more (ap suc all) (comes, (next, step, driven)) goes

pub drive_ends : StepCauses → (code : CodeShape) → IsSoundCode code → (most : ℕ) (world : WorldShape) →
    ShapeFits code world → AllObey world → HasEnd code world most
drive_ends laws code sound zero world fits obey =
    ⊎_elim
    (λ next. record { events = []; last = world; status = Spent; ends = spent next.0 refl refl next.1 })
    (λ rest. record { events = []; last = world; status = Done; ends = rested (omega arith) refl rest })
    (next_or_rest code world fits)
drive_ends laws code sound (suc most) world fits obey =
    ⊎_elim
    (λ next. let step = next_happens laws code world next.0 fits obey next.1 in
    let others = drive_ends laws code sound most step.0
    (laws.fits code world step.0 next.0 sound fits (next_own world next.0 next.1) step.1)
    (obey_after laws.obeying code world step.0 next.0 step.1 obey) in
    record {
      events = next.0 ∷ others.events;
      last = others.last;
      status = others.status;
      ends = drives_first code world step.0 others.last most next.0 others.events others.status next.1 step.1
          others.ends;
    })
    (λ rest. record { events = []; last = world; status = Done; ends = rested (omega arith) refl rest })
    (next_or_rest code world fits)
