-- Where all hosts obey, what comes next is not refused, and only want of memory fails.
use Rattle.std.proofs.Common.{◌≡◌, ◌≢◌, ℕ, zero, suc, ◌<◌, ◌≤◌, false, List, [], ◌∷◌, length}
use Rattle.std.proofs.Common.{Option, Some, None, refl, ap, ◌∙◌, arith, ⊎_elim}
use Rattle.std.specs.Prelude.{◌↔◌, IsErrOf, Result, Err, All, IsSome, IsSomeAnd, IfSome, IsTrue, slice_get}
use Rattle.std.specs.Prelude.{is_some, if◌then◌else◌}
use Rattle.std.proofs.lemmas.List.{length-map}
use Rattle.std.proofs.lemmas.List.Elements.{All-head}
use Rattle.js_base.specs.declared.ids.HostId.{HostId}
use Rattle.event_text.specs.declared.event.Event.{Event}
use Rattle.event_text.specs.declared.event.Event.TheVariants.{Take, Turn, Act}
use Rattle.host_code.specs.Code.{CodeShape}
use Rattle.host_code.specs.Thread.{ThreadShape}
use Rattle.host_core.specs.declared.host.TheConstants.{MOST_CALLS}
use Rattle.host_core.specs.Host.{HostState, HostModel, IsStopped}
use Rattle.net_world.specs.Flying.{Flight}
use Rattle.net_world.specs.declared.world.EventError.{EventError}
use Rattle.net_world.specs.declared.world.EventError.TheVariants as answer
use Rattle.net_world.specs.World.{WorldShape, not_bad, not_there, host_busy, no_such_token, refusal_of, refusal_of_take}
use Rattle.net_world.specs.World.{refusal_of_turn, mover, AllObey, is_absent, given, state_at}
use Rattle.net_world.specs.Fits.{WorldModel, WorldFits, FlightFits, MailFits, HasOwnToken, host_at, world_of}
use Rattle.net_world.specs.Steps.{HasMade, HaveMade, IsStuck}
use Rattle.net_world.specs.Choice.{IsNextEvent}

there_among : (hosts : List (Option HostState)) (place : ℕ) → place < length hosts →
    is_absent (slice_get hosts place) ≡ false → (host : HostState) × (given (slice_get hosts place) ≡ Some host)
there_among [] place within obeys = absurd (omega arith)
there_among (None ∷ hosts) zero within obeys = let none : ⊥ = cc in absurd none
there_among (Some host ∷ hosts) zero within obeys = (host, refl)
there_among (host ∷ hosts) (suc place) within obeys = there_among hosts place (omega arith) obeys

-- ---- what comes next is not refused

runs_through : (running : Option ThreadShape) → IsSome running →
    (if is_some running then None else Some not_there) ≡ None
runs_through None some = let none : ⊥ = cc in absurd none
runs_through (Some thread) some = refl

turn_goes : (host : Option HostState) → IsSomeAnd host (λ state. IsSome state.running) → refusal_of_turn host ≡ None
turn_goes None runs = absurd runs
turn_goes (Some state) runs = runs_through state.running runs

rests_through : (running : Option ThreadShape) → ¬ IsSome running →
    (if is_some running then Some host_busy else None) ≡ None
rests_through None rests = refl
rests_through (Some thread) rests = absurd (rests refl)

take_goes : (found : Option Flight) (flight : Flight) (host : Option HostState) (state : HostState) →
    found ≡ Some flight → host ≡ Some state → ¬ IsSomeAnd host (λ one. IsSome one.running) →
    refusal_of_take found host ≡ None
take_goes None flight host state there obeys rests = let none : ⊥ = cc in absurd none
take_goes (Some other) flight None state there obeys rests = let none : ⊥ = cc in absurd none
take_goes (Some other) flight (Some one) state there obeys rests = rests_through one.running rests

first_of : (flights : List Flight) → flights ≢ [] → (flight : Flight) × (slice_get flights 0 ≡ Some flight)
first_of [] some = absurd (some refl)
first_of (flight ∷ flights) some = (flight, refl)

-- its target is a host of the code
target_within : (code : CodeShape) (from to : HostId) (flights : List Flight) → flights ≢ [] →
    All (FlightFits code from to) flights → to.0 < length code.hosts
target_within code from to [] some all = absurd (some refl)
target_within code from to (flight ∷ flights) some all =
    (All-head (FlightFits code from to) flight flights all).target.0

-- in a world that has the hosts of the code, and whose mail fits it
pub shape_goes : (code : CodeShape) (world : WorldShape) (event : Event) → length world.hosts ≡ length code.hosts →
    MailFits code world → AllObey world → IsNextEvent world (Some event) → refusal_of world event ≡ None
shape_goes code world (Turn host) count mail obey next = turn_goes (state_at world host) next.runs
shape_goes code world (Act from to made) count mail obey next = absurd next
shape_goes code world (Take from to place) count mail obey next =
    let flies = next.1.target.flies in
    let found = first_of (world.flying from to) flies in
    let within = target_within code from to (world.flying from to) flies (mail.flying from to) in
    let there = there_among world.hosts to.0 (omega (arith, count, within)) (obey to) in
    take_goes (slice_get (world.flying from to) place) found.0 (state_at world to) there.0
    (ap (λ (k : ℕ). slice_get (world.flying from to) k) next.2 ∙ found.1) there.1 (next.0 to)

pub next_goes : (code : CodeShape) (world : WorldModel) (event : Event) → WorldFits code world →
    AllObey (world_of world) → IsNextEvent (world_of world) (Some event) → refusal_of (world_of world) event ≡ None
next_goes code world event fits obey next =
    shape_goes code (world_of world) event (length-map world.hosts _ ∙ fits.count) fits.mail obey next

pub next_own : (world : WorldShape) (event : Event) → IsNextEvent world (Some event) → HasOwnToken world event
next_own world (Turn host) next = tt
next_own world (Take from to place) next = tt
next_own world (Act from to made) next = absurd next

-- ---- nor is its host stopped

answers_on : (made : ℕ) (host : Option HostModel) → made < MOST_CALLS → IfSome host (HasMade made) →
    ¬ IsSomeAnd host IsStopped
answers_on made None few has stopped = absurd stopped
answers_on made (Some host) few has stopped =
    ⊎_elim (λ (is : IsTrue host.stopped). let answers = has.answers in let none : ⊥ = cc in none)
    (λ (many : MOST_CALLS ≤ host.calls). let steps = has.steps in let none : ⊥ = omega arith in none) stopped

pub not_stuck : (world : WorldModel) (event : Event) (made : ℕ) → made < MOST_CALLS → HaveMade made world.hosts →
    ¬ IsStuck world event
not_stuck world event made few have stuck =
    answers_on made (host_at world (mover event)) few (have (mover event)) stuck.stopped

-- ---- so nothing but memory fails

-- why an event may fail
pub record Answers (world : WorldModel) (event : Event) (result : Result (Unit {0}) EventError) : Type 0 where
  pub not_bad : IsErrOf result answer.NotBad ↔ (refusal_of (world_of world) event ≡ Some not_bad)
  pub not_there : IsErrOf result answer.NotThere ↔ (refusal_of (world_of world) event ≡ Some not_there)
  pub busy : IsErrOf result answer.HostBusy ↔ (refusal_of (world_of world) event ≡ Some host_busy)
  pub no_token : (count : ℕ) →
      IsErrOf result (answer.NoSuchToken count) ↔ (refusal_of (world_of world) event ≡ Some (no_such_token count))
  pub stopped : IsErrOf result answer.Stopped ↔ IsStuck world event

some_and_none : {X : Type 0} (o : Option X) (x : X) → o ≡ None → ¬ (o ≡ Some x)
some_and_none o x none some = let never : ⊥ = cc in never

pub only_memory : (world : WorldModel) (event : Event) (result : Result (Unit {0}) EventError) (error : EventError) →
    Answers world event result → refusal_of (world_of world) event ≡ None → ¬ IsStuck world event →
    result ≡ Err error → error ≡ answer.OutOfMemory
only_memory world event result answer.OutOfMemory answers goes free is = refl
only_memory world event result answer.NotThere answers goes free is =
    absurd (some_and_none _ not_there goes (answers.not_there.0 is))
only_memory world event result answer.HostBusy answers goes free is =
    absurd (some_and_none _ host_busy goes (answers.busy.0 is))
only_memory world event result (answer.NoSuchToken count) answers goes free is =
    absurd (some_and_none _ (no_such_token count) goes ((answers.no_token count).0 is))
only_memory world event result answer.NotBad answers goes free is =
    absurd (some_and_none _ not_bad goes (answers.not_bad.0 is))
only_memory world event result answer.Stopped answers goes free is = absurd (free (answers.stopped.0 is))
