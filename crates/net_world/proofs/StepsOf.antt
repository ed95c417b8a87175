-- From the step of one host to that of the world.
use Rattle.std.proofs.Common.{◌≡◌, ℕ, List, length, refl, ap, sym, subst, ◌∙◌, Option, Some, None}
use Rattle.std.proofs.Common.{length-set, rules, Bool, true, false}
use Rattle.std.specs.Prelude.{slice_set, slice_get, IsSome, IsSomeAnd, IsTrue}
use Rattle.event_text.specs.declared.event.Event.TheVariants.{Take, Act}
use Rattle.event_text.specs.declared.event.BadMessage.{BadMessage}
use Rattle.host_code.specs.Code.{CodeShape}
use Rattle.host_core.specs.Taking.{IsTaking}
use Rattle.net_world.specs.Told.{message_made}
use Rattle.std.specs.Option.{option_map}
use Rattle.js_base.specs.declared.ids.HostId.{HostId}
use Rattle.host_code.specs.declared.message.Message.{Message}
use Rattle.host_core.specs.Host.{HostModel, HostState, Outcome, IsStopped, state_of}
use Rattle.net_world.specs.Flying.{Flight, flying_of, flights_of}
use Rattle.net_world.specs.World.{WorldShape, given, present, state_at, misbehaves, tokens_sent}
use Rattle.net_world.specs.World.{without_flight, after_sending, after_telling, letter_of, IsTakeStep, IsActStep}
use Rattle.net_world.specs.World.{refusal_of_take, refusal_of_act, refusal_of_token}
use Rattle.net_world.specs.Fits.{WorldModel, world_of, states_of, host_at}
use Rattle.net_world.specs.Steps.{HasMoved, HasStepped, IsReadyToTake, HasStopped, IsEventDue, IsTakeable, IsActable}
use Rattle.net_world.proofs.Present.{states_set, present_states}

-- the state of a host that is there
pub state_there : (world : WorldModel) (host : HostId) (there : HostModel) → present world.hosts host ≡ Some there →
    state_at (world_of world) host ≡ Some (state_of there)
state_there world host there is = present_states world.hosts host ∙ ap (option_map state_of) is

pub stepped : (kind : HostState → Outcome → Type 0) (world : WorldModel) (hosts : List (Option HostModel))
    (host : HostId) (sent : Option (HostId × Message)) → HasMoved kind world.hosts hosts host sent →
    HasStepped kind (world_of world) host sent (world_of (record world { hosts = hosts }))
stepped kind world hosts host sent moved =
    let before = moved.before in
    let after = moved.after in
    let shape : List (Option HostModel) → WorldShape =
    λ all. record {
      hosts = states_of all;
      flying = flying_of (length all) (flights_of world.queues);
      sent = world.told.sent;
    } in
    let changed : List (Option HostModel) = slice_set world.hosts host.0 (Some after) in
    record {
      before = state_of before;
      after = state_of after;
      obeys = state_there world host before (ap given moved.there);
      made = moved.made;
      leaves =
          ap (λ (n : ℕ). record {
            hosts = slice_set (states_of world.hosts) host.0 (Some (state_of after));
            flying = flying_of n (flights_of world.queues);
            sent = world.told.sent;
          }) (sym (length-set world.hosts host.0 (Some after)))
          ∙ ap (λ (states : List (Option HostState)). record {
            hosts = states;
            flying = flying_of (length changed) (flights_of world.queues);
            sent = world.told.sent;
          }) (sym (states_set world.hosts host.0 (Some after)))
          ∙ ap shape moved.leaves;
    }

-- ---- whole events

pub has_some : {X : Type 0} (o : Option X) (P : X → Type 0) → IsSomeAnd o P → (x : X) × (o ≡ Some x) × P x
has_some None P has = absurd has
has_some (Some x) P has = (x, refl, has)

-- the state of a host that is ready runs no thread
pub state_rests : (world : WorldModel) (host : HostId) → IsSomeAnd (host_at world host) IsReadyToTake →
    IsSomeAnd (state_at (world_of world) host) (λ state. state.running ≡ None)
state_rests world host ready =
    let at = has_some (host_at world host) IsReadyToTake ready in
    subst (λ o. IsSomeAnd o (λ (state : HostState). state.running ≡ None)) (sym (state_there world host at.0 at.1))
    at.2.0

answers : (world : WorldModel) (host : HostId) → IsSomeAnd (host_at world host) IsReadyToTake → ¬ HasStopped world host
answers world host ready = λ stopped.
    let at = has_some (host_at world host) IsReadyToTake ready in
    at.2.1 (subst (λ o. IsSomeAnd o IsStopped) at.1 stopped)

pub take_not_refused : (flight : Option Flight) (state : Option HostState) (found : Flight) → flight ≡ Some found →
    IsSomeAnd state (λ s. s.running ≡ None) → refusal_of_take flight state ≡ None
take_not_refused flight None found there rests = absurd rests
take_not_refused flight (Some state) found there rests = rw (there, rests) refl

pub take_due : (world : WorldModel) (from to : HostId) (place : ℕ) (found : Message × ℕ) →
    IsTakeable world from to place found → IsEventDue world (Take from to place)
take_due world from to place found takeable = record {
  there = take_not_refused (slice_get ((world_of world).flying from to) place) (state_at (world_of world) to)
      (record { message = found.0; label = found.1 }) takeable.there (state_rests world to takeable.host);
  answers = answers world to takeable.host;
}

pub act_not_refused : (bad : Bool) (state : Option HostState) (count : ℕ) (made : Option Message) (m : Message) →
    IsTrue bad → made ≡ Some m → IsSomeAnd state (λ s. s.running ≡ None) →
    refusal_of_act bad state (refusal_of_token count made) ≡ None
act_not_refused false state count made m bad makes rests = absurd (cc)
act_not_refused true None count made m bad makes rests = absurd rests
act_not_refused true (Some state) count made m bad makes rests = rw (makes, rests) refl

pub act_due : (world : WorldModel) (from to : HostId) (made : BadMessage) (m : Message) →
    IsActable world from to made m → IsEventDue world (Act from to made)
act_due world from to made m actable = record {
  there = act_not_refused (misbehaves (world_of world) from) (state_at (world_of world) to)
      (length (tokens_sent (world_of world))) (message_made (tokens_sent (world_of world)) made) m actable.bad
      actable.makes (state_rests world to actable.host);
  answers = answers world to actable.host;
}

rests_before : (kind : HostState → Outcome → Type 0) (old : WorldShape) (host : HostId)
    (sent : Option (HostId × Message)) (new : WorldShape) (stepped : HasStepped kind old host sent new) →
    IsSomeAnd (state_at old host) (λ state. state.running ≡ None) → stepped.before.running ≡ None
rests_before kind old host sent new stepped rests =
    subst (λ o. IsSomeAnd o (λ (state : HostState). state.running ≡ None)) stepped.obeys rests

-- the message is still there after the step of its host
pub still_there : (kind : HostState → Outcome → Type 0) (first old new : WorldShape) (host : HostId)
    (sent : Option (HostId × Message)) (from to : HostId) (place : ℕ) (flight : Flight) → old ≡ first →
    HasStepped kind old host sent new → slice_get (first.flying from to) place ≡ Some flight →
    IsSome (slice_get (new.flying from to) place)
still_there kind first old new host sent from to place flight same stepped there =
    subst (λ (w : WorldShape). IsSome (slice_get (w.flying from to) place)) stepped.leaves
    (subst (λ (w : WorldShape). IsSome (slice_get (w.flying from to) place)) (sym same)
    (subst IsSome (sym there) (search rules)))

pub taken : (code : CodeShape) (first old moved without after : WorldShape) (from to : HostId) (place : ℕ)
    (m : Message) (label : ℕ) (sent : Option (HostId × Message)) →
    slice_get (first.flying from to) place ≡ Some (record { message = m; label = label }) →
    IsSomeAnd (state_at first to) (λ state. state.running ≡ None) → old ≡ first →
    HasStepped (λ state outcome. IsTaking code state from m outcome) old to sent moved →
    without ≡ without_flight moved from to place → after ≡ after_sending without to (letter_of (Some label) sent) →
    IsTakeStep code first from to place after
taken code first old moved without after from to place m label sent there rests same made removed posted =
    let kind : HostState → Outcome → Type 0 = λ state outcome. IsTaking code state from m outcome in
    let stepped : HasStepped kind first to sent moved =
    subst (λ (w : WorldShape). HasStepped kind w to sent moved) same made in
    record {
      state = stepped.before;
      flight = record { message = m; label = label };
      outcome = record { state = stepped.after; sent = sent };
      there = there;
      obeys = stepped.obeys;
      rests = rests_before kind first to sent moved stepped rests;
      takes = stepped.made;
      leaves =
          ap (λ (w : WorldShape). after_sending w to (letter_of (Some label) sent))
          (ap (λ (w : WorldShape). without_flight w from to place) stepped.leaves ∙ sym removed)
          ∙ sym posted;
    }

pub acted : (code : CodeShape) (first old moved after : WorldShape) (from to : HostId) (made : BadMessage)
    (m : Message) (sent : Option (HostId × Message)) → IsTrue (misbehaves first from) →
    message_made (tokens_sent first) made ≡ Some m →
    IsSomeAnd (state_at first to) (λ state. state.running ≡ None) → old ≡ first →
    HasStepped (λ state outcome. IsTaking code state from m outcome) old to sent moved →
    after ≡ after_telling moved to sent → IsActStep code first from to made after
acted code first old moved after from to made m sent bad makes rests same took told =
    let kind : HostState → Outcome → Type 0 = λ state outcome. IsTaking code state from m outcome in
    let stepped : HasStepped kind first to sent moved =
    subst (λ (w : WorldShape). HasStepped kind w to sent moved) same took in
    record {
      state = stepped.before;
      message = m;
      outcome = record { state = stepped.after; sent = sent };
      bad = bad;
      obeys = stepped.obeys;
      rests = rests_before kind first to sent moved stepped rests;
      makes = makes;
      takes = stepped.made;
      leaves = ap (λ (w : WorldShape). after_telling w to sent) stepped.leaves ∙ sym told;
    }
