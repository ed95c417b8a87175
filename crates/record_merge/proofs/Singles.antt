-- At most one thing goes on after a step, and at most one event is possible.
use Rattle.std.proofs.Common.{◌≡◌, ◌≢◌, ◌∙◌, ℕ, zero, suc, ◌⊎◌, inl, inr, Bool, true, false, List, [], ◌∷◌, ◌++◌}
use Rattle.std.proofs.Common.{length, Option, Some, None, refl, ap, sym, subst, arith}
use Rattle.std.specs.Prelude.{IsSome, IsSomeAnd, IsTrue, slice_get, remove, ◌==◌, ◌&&◌, if◌then◌else◌}
use Rattle.std.proofs.lemmas.Bool.{eq-eqb, eqb-true}
use Rattle.std.proofs.lemmas.Bool.Decides.{eqb_tells}
use Rattle.js_base.specs.declared.ids.HostId.{HostId}
use Rattle.js_base.proofs.Options.{some_or_none}
use Rattle.event_text.specs.declared.event.Event.{Event}
use Rattle.event_text.specs.declared.event.Event.TheVariants.{Take, Turn, Act}
use Rattle.host_code.specs.Code.{CodeShape}
use Rattle.host_code.specs.declared.message.Message.{Message}
use Rattle.host_core.specs.Host.{HostState, Outcome, Letter, with_label}
use Rattle.net_world.specs.Choice.{Runs, NoneRuns, Flies, NothingFlies}
use Rattle.net_world.specs.Flying.{Flight, Flying, with_flights}
use Rattle.net_world.specs.World.{WorldShape, IsStep, IsTakeStep, IsTurnStep, state_at, misbehaves, with_state}
use Rattle.net_world.specs.World.{AllObey, without_flight, after_sending, after_posting, after_telling, letter_of}
use Rattle.net_world.specs.World.{after_step}
use Rattle.net_world.proofs.Moved.{Moved, mover_state, other_state, bad_moved}
use Rattle.net_world.proofs.Present.{same_id}
use Rattle.record_merge.specs.Single.{Active, nothing, runs, flies, FliesAlone, IsOnly, IsSingle}
use Rattle.record_merge.proofs.Spent.{IsSpent, turn_spent, take_spent}

-- ---- what runs

pub runs_there : (world : WorldShape) (host : HostId) (state : HostState) → state_at world host ≡ Some state →
    IsSome state.running → Runs world host
runs_there world host state is running = subst (λ o. IsSomeAnd o (λ s. IsSome s.running)) (sym is) running

pub rests_there : (world : WorldShape) (host : HostId) (state : HostState) → state_at world host ≡ Some state →
    state.running ≡ None → ¬ Runs world host
rests_there world host state is rests = λ running.
    let some : IsSome state.running = subst (λ o. IsSomeAnd o (λ s. IsSome s.running)) is running in
    let no : false ≡ true = subst IsSome rests some in absurd (cc)

-- no thread runs on another host
abbrev pub OthersRest : WorldShape → HostId → Type 0
OthersRest world host = (other : HostId) → Runs world other → other ≡ host

-- ---- what a step leaves

not_some : (flights : List Flight) → ¬ (flights ≢ []) → flights ≡ []
not_some [] none = refl
not_some (flight ∷ flights) none = absurd (none (λ is. absurd (cc)))

some_or_empty : (flights : List Flight) → (flights ≡ []) ⊎ (flights ≢ [])
some_or_empty [] = inl refl
some_or_empty (flight ∷ flights) = inr (λ is. absurd (cc))

picked : (first second : Bool) (flights others : List Flight) (P Q : Type 0) → (first ≡ true → P) →
    (second ≡ true → Q) → others ≡ [] → (if first && second then flights else others) ≢ [] → P × Q
picked true true flights others P Q one two none some = (one refl, two refl)
picked true false flights others P Q one two none some = absurd (some none)
picked false second flights others P Q one two none some = absurd (some none)

no_flight : (i j from to : HostId) (flights : List Flight) (flying : Flying) → flying i j ≡ [] →
    with_flights flying from to flights i j ≢ [] → (i ≡ from) × (j ≡ to)
no_flight i j from to flights flying none some =
    picked (i.0 == from.0) (j.0 == to.0) flights (flying i j) (i ≡ from) (j ≡ to)
    (λ same. same_id i from (eqb-true i.0 from.0 same)) (λ same. same_id j to (eqb-true j.0 to.0 same)) none some

own_flight : (from to : HostId) (flights : List Flight) (flying : Flying) →
    with_flights flying from to flights from to ≡ flights
own_flight from to flights flying = rw (eq-eqb from.0 from.0 refl, eq-eqb to.0 to.0 refl) refl

-- others rest after the step of a host
others_after : (world after : WorldShape) (host : HostId) (state : HostState) (flying : Flying) →
    OthersRest world host → Moved world host state flying after → OthersRest after host
others_after world after host state flying rest moved other running = elim (eqb_tells other.0 host.0) [
  | inl same ↦ same_id other host same.1
  | inr apart ↦ rest other (subst (λ o. IsSomeAnd o (λ s. IsSome s.running))
      (other_state world after host other state flying moved apart.1) running)
]

-- nothing more is in flight: a thread goes on, or nothing
pub quiet_left : (world after : WorldShape) (host : HostId) (old state : HostState) → AllObey world →
    state_at world host ≡ Some old → OthersRest world host → NothingFlies world →
    Moved world host state world.flying after → IsSingle after
quiet_left world after host old state obey obeys rest none moved =
    let there = mover_state world after host old state world.flying obeys moved in
    let others = others_after world after host state world.flying rest moved in
    let flights : NothingFlies after =
    λ from to some. none from to (λ is. some (ap (λ f. f from to) moved.flying ∙ is)) in
    let obeying : AllObey after =
    λ other. bad_moved world after host old state world.flying obeys moved other ∙ obey other in
    elim (some_or_none state.running) [
      | inl rests ↦ record {
        obey = obeying;
        active = nothing;
        only = (
          λ other running. rests_there after host state there rests
              (subst (Runs after) (others other running) running),
          flights,
        );
      }
      | inr goes ↦ record {
        obey = obeying;
        active = runs host;
        only = (
          record { there = runs_there after host state there (subst IsSome (sym goes.1) refl); alone = others },
          flights,
        );
      }
    ]

pub posted_flights : (world after : WorldShape) (host to : HostId) (state : HostState) (flight : Flight) →
    Moved world host state (with_flights world.flying host to (flight ∷ [])) after →
    after.flying host to ≡ flight ∷ []
posted_flights world after host to state flight moved =
    ap (λ (f : Flying). f host to) moved.flying ∙ own_flight host to (flight ∷ []) world.flying

-- a message is in flight, and nothing runs
pub posted_only : (world after : WorldShape) (host to : HostId) (old state : HostState) (flight : Flight) →
    state_at world host ≡ Some old → OthersRest world host → NothingFlies world → state.running ≡ None →
    Moved world host state (with_flights world.flying host to (flight ∷ [])) after →
    NoneRuns after × FliesAlone after host to
posted_only world after host to old state flight obeys rest none rests moved =
    let flying = with_flights world.flying host to (flight ∷ []) in
    let there = mover_state world after host old state flying obeys moved in
    let others = others_after world after host state flying rest moved in (
      λ other running. rests_there after host state there rests (subst (Runs after) (others other running) running),
      record {
        there = ap length (posted_flights world after host to state flight moved);
        alone = λ from target some. no_flight from target host to (flight ∷ []) world.flying
            (not_some (world.flying from target) (none from target))
            (λ is. some (ap (λ f. f from target) moved.flying ∙ is));
      },
    )

-- what is sent is in flight alone
pub letter_moved : (world after : WorldShape) (host : HostId) (old state : HostState) (letter : Letter) →
    AllObey world → state_at world host ≡ Some old → NothingFlies world →
    after_sending (with_state world host state) host (Some letter) ≡ after →
    Moved world host state
    (with_flights world.flying host letter.to (record { message = letter.message; label = letter.label } ∷ [])) after
letter_moved world after host old state letter obey obeys none leaves =
    let moved = with_state world host state in
    let bare : Moved world host state world.flying moved = record { hosts = refl; flying = refl } in
    let bad : misbehaves moved letter.to ≡ false =
    bad_moved world moved host old state world.flying obeys bare letter.to ∙ obey letter.to in
    let flight : Flight = record { message = letter.message; label = letter.label } in
    let done : after_posting moved host letter ≡ after =
    sym (ap (λ b. if b then after_telling moved host (Some (letter.to, letter.message))
    else after_posting moved host letter) bad) ∙ leaves in
    let empty = not_some (world.flying host letter.to) (none host letter.to) in record {
      hosts = ap (λ (w : WorldShape). w.hosts) (sym done);
      flying = ap (λ (w : WorldShape). w.flying) (sym done)
          ∙ ap (λ flights. with_flights world.flying host letter.to (flights ++ flight ∷ [])) empty;
    }

-- ---- a step

letter_left : (world after : WorldShape) (host : HostId) (old state : HostState) (letter : Option Letter) →
    AllObey world → state_at world host ≡ Some old → OthersRest world host → NothingFlies world →
    (state.running ≡ None) ⊎ (letter ≡ None) → after_sending (with_state world host state) host letter ≡ after →
    IsSingle after
letter_left world after host old state None obey obeys rest none spent leaves =
    quiet_left world after host old state obey obeys rest none (record {
      hosts = ap (λ (w : WorldShape). w.hosts) (sym leaves);
      flying = ap (λ (w : WorldShape). w.flying) (sym leaves);
    })
letter_left world after host old state (Some letter) obey obeys rest none spent leaves =
    let flight : Flight = record { message = letter.message; label = letter.label } in
    let flying = with_flights world.flying host letter.to (flight ∷ []) in
    let moved = letter_moved world after host old state letter obey obeys none leaves in
    let rests : state.running ≡ None = elim spent [ inl rests ↦ rests | inr unsent ↦ absurd (cc) ] in
    record {
      obey = λ other. bad_moved world after host old state flying obeys moved other ∙ obey other;
      active = flies host letter.to;
      only = posted_only world after host letter.to old state flight obeys rest none rests moved;
    }

pub nothing_sent : (label : Option ℕ) (sent : Option (HostId × Message)) → sent ≡ None → letter_of label sent ≡ None
nothing_sent None sent is = refl
nothing_sent (Some label) sent is = ap (with_label label) is

step_left : (world after : WorldShape) (host : HostId) (old : HostState) (outcome : Outcome) (label : Option ℕ) →
    AllObey world → state_at world host ≡ Some old → OthersRest world host → NothingFlies world →
    IsSpent outcome → after_step world host outcome label ≡ after → IsSingle after
step_left world after host old outcome label obey obeys rest none spent leaves =
    letter_left world after host old outcome.state (letter_of label outcome.sent) obey obeys rest none (elim spent [
      | inl rests ↦ inl rests
      | inr unsent ↦ inr (nothing_sent label outcome.sent unsent)
    ]) leaves

-- ---- what is possible

-- where a turn happens the thread of its host runs alone
pub turn_alone : (code : CodeShape) (world after : WorldShape) (host : HostId) (active : Active) →
    IsOnly world active → IsTurnStep code world host after → (active ≡ runs host)
turn_alone code world after host nothing only step =
    absurd (only.0 host (runs_there world host step.state step.obeys step.runs))
turn_alone code world after host (runs other) only step =
    ap runs (sym (only.0.alone host (runs_there world host step.state step.obeys step.runs)))
turn_alone code world after host (flies from to) only step =
    absurd (only.0 host (runs_there world host step.state step.obeys step.runs))

none_there : (place : ℕ) (flight : Flight) → ¬ (slice_get [] place ≡ Some flight)
none_there place flight is = absurd (cc)

pub flies_there : (world : WorldShape) (from to : HostId) (place : ℕ) (flight : Flight) →
    slice_get (world.flying from to) place ≡ Some flight → Flies world from to
flies_there world from to place flight there = λ is.
    absurd (none_there place flight (subst (λ flights. slice_get flights place ≡ Some flight) is there))

-- where a message is taken it is in flight alone
pub take_alone : (code : CodeShape) (world after : WorldShape) (from to : HostId) (place : ℕ) (active : Active) →
    IsOnly world active → IsTakeStep code world from to place after → (active ≡ flies from to)
take_alone code world after from to place nothing only step =
    absurd (only.1 from to (flies_there world from to place step.flight step.there))
take_alone code world after from to place (runs host) only step =
    absurd (only.1 from to (flies_there world from to place step.flight step.there))
take_alone code world after from to place (flies sender target) only step =
    let same = only.1.alone from to (flies_there world from to place step.flight step.there) in
    rw (same.0, same.1) refl

pub first_place : (flights : List Flight) (place : ℕ) (flight : Flight) → length flights ≡ 1 →
    slice_get flights place ≡ Some flight → place ≡ 0
first_place [] place flight one there = absurd (cc)
first_place (first ∷ []) zero flight one there = refl
first_place (first ∷ []) (suc place) flight one there = absurd (cc)
first_place (first ∷ next ∷ flights) place flight one there = absurd (omega arith)

none_left : (flights : List Flight) → length flights ≡ 1 → remove flights 0 ≡ []
none_left [] one = absurd (cc)
none_left (first ∷ []) one = refl
none_left (first ∷ next ∷ flights) one = absurd (omega arith)

pub taken_flights : (world : WorldShape) (from to : HostId) (place : ℕ) (flight : Flight) → FliesAlone world from to →
    slice_get (world.flying from to) place ≡ Some flight → NothingFlies (without_flight world from to place)
taken_flights world from to place flight alone there i j some =
    let left = remove (world.flying from to) place in
    let gone : left ≡ [] =
    ap (remove (world.flying from to)) (first_place (world.flying from to) place flight alone.there there)
    ∙ none_left (world.flying from to) alone.there in
    elim (some_or_empty (world.flying i j)) [
      | inl empty ↦
          let same = no_flight i j from to left world.flying empty some in
          some (ap (λ (h : HostId). with_flights world.flying from to left h j) same.0
          ∙ ap (with_flights world.flying from to left from) same.1 ∙ own_flight from to left world.flying ∙ gone)
      | inr there ↦
          let same = alone.alone i j there in
          some (ap (λ (h : HostId). with_flights world.flying from to left h j) same.0
          ∙ ap (with_flights world.flying from to left from) same.1 ∙ own_flight from to left world.flying ∙ gone)
    ]

-- ---- the laws

turn_single : (code : CodeShape) (world after : WorldShape) (host : HostId) → IsSingle world →
    IsTurnStep code world host after → IsSingle after
turn_single code world after host single step =
    let only = subst (IsOnly world) (turn_alone code world after host single.active single.only step) single.only in
    step_left world after host step.state step.outcome _ single.obey step.obeys only.0.alone only.1
    (turn_spent code step.state step.outcome step.turns) step.leaves

take_single : (code : CodeShape) (world after : WorldShape) (from to : HostId) (place : ℕ) → IsSingle world →
    IsTakeStep code world from to place after → IsSingle after
take_single code world after from to place single step =
    let only =
    subst (IsOnly world) (take_alone code world after from to place single.active single.only step) single.only in
    let taken = without_flight world from to place in
    step_left taken after to step.state step.outcome (Some step.flight.label) single.obey step.obeys
    (λ other running. absurd (only.0 other running)) (taken_flights world from to place step.flight only.1 step.there)
    (take_spent code step.state from step.flight.message step.outcome step.rests step.takes) step.leaves

pub act_nowhere : (world : WorldShape) (from : HostId) → AllObey world → IsTrue (misbehaves world from) → ⊥
act_nowhere world from obey bad = let never : false ≡ true = sym (obey from) ∙ bad in absurd (cc)

pub step_single : (code : CodeShape) (world after : WorldShape) (event : Event) → IsSingle world →
    IsStep code world event after → IsSingle after
step_single code world after (Turn host) single step = turn_single code world after host single step
step_single code world after (Take from to place) single step = take_single code world after from to place single step
step_single code world after (Act from to made) single step = absurd (act_nowhere world from single.obey step.bad)

-- this goes on where the event happens
abbrev is_active : Event → Active
is_active (Turn host) = runs host
is_active (Take from to place) = flies from to
is_active (Act from to made) = nothing

active_at : (code : CodeShape) (world after : WorldShape) (event : Event) → (single : IsSingle world) →
    IsStep code world event after → single.active ≡ is_active event
active_at code world after (Turn host) single step = turn_alone code world after host single.active single.only step
active_at code world after (Take from to place) single step =
    take_alone code world after from to place single.active single.only step
active_at code world after (Act from to made) single step = absurd (act_nowhere world from single.obey step.bad)

pub one_event : (code : CodeShape) (world first second : WorldShape) (event other : Event) → IsSingle world →
    IsStep code world event first → IsStep code world other second → event ≡ other
one_event code world first second (Act from to made) other single step next =
    absurd (act_nowhere world from single.obey step.bad)
one_event code world first second event (Act from to made) single step next =
    absurd (act_nowhere world from single.obey next.bad)
one_event code world first second (Turn host) (Turn target) single step next =
    let same = sym (active_at code world first (Turn host) single step)
    ∙ active_at code world second (Turn target) single next in
    cc
one_event code world first second (Turn host) (Take from to place) single step next =
    let same = sym (active_at code world first (Turn host) single step)
    ∙ active_at code world second (Take from to place) single next in
    absurd (cc)
one_event code world first second (Take from to place) (Turn host) single step next =
    let same = sym (active_at code world first (Take from to place) single step)
    ∙ active_at code world second (Turn host) single next in
    absurd (cc)
one_event code world first second (Take from to place) (Take sender target at) single step next =
    let active = take_alone code world first from to place single.active single.only step in
    let only = subst (IsOnly world) active single.only in
    let same = sym (take_alone code world second sender target at single.active single.only next) ∙ active in
    let sent : sender ≡ from = cc in
    let to_is : target ≡ to = cc in
    let one = first_place (world.flying from to) place step.flight only.1.there step.there in
    let there : slice_get (world.flying from to) at ≡ Some next.flight =
    subst (λ t. slice_get (world.flying from t) at ≡ Some next.flight) to_is
    (subst (λ s. slice_get (world.flying s target) at ≡ Some next.flight) sent next.there) in
    let two = first_place (world.flying from to) at next.flight only.1.there there in
    rw (sent, to_is, one, two) refl
