-- An event happens, or is refused for a cause.
use Rattle.std.proofs.Common.{◌≡◌, ◌⊎◌, ℕ, Bool, true, false, Option, Some, None, ap, sym, subst, inl, inr, refl}
use Rattle.std.specs.Prelude.{slice_get, is_some, if◌then◌else◌, length}
use Rattle.js_base.specs.declared.ids.HostId.{HostId}
use Rattle.js_base.proofs.Options.{some_or_none}
use Rattle.event_text.specs.declared.event.Event.{Event}
use Rattle.event_text.specs.declared.event.Event.TheVariants.{Take, Turn, Act}
use Rattle.event_text.specs.declared.event.BadMessage.{BadMessage}
use Rattle.host_code.specs.declared.message.Message.{Message}
use Rattle.host_code.specs.Code.{CodeShape}
use Rattle.host_core.specs.Host.{HostState}
use Rattle.host_core.proofs.SomeOutcome.{some_taking, some_turn}
use Rattle.net_world.specs.Flying.{Flight}
use Rattle.net_world.specs.Told.{message_made}
use Rattle.net_world.specs.World.{WorldShape, IsStep, EventRefusal, refusal_of, refusal_of_take, refusal_of_turn}
use Rattle.net_world.specs.World.{refusal_of_act, refusal_of_token, state_at, misbehaves, tokens_sent}
use Rattle.net_world.specs.World.EventRefusal.{not_bad, not_there, host_busy, no_such_token}

-- the event happens, or this is why it does not
abbrev HappensOr : CodeShape → WorldShape → Event → Option EventRefusal → Type 0
HappensOr code world event refusal =
    ((after : WorldShape) × IsStep code world event after) ⊎ ((why : EventRefusal) × (refusal ≡ Some why))

take_or_refused : (code : CodeShape) (world : WorldShape) (from to : HostId) (place : ℕ) (flight : Option Flight)
    (state : Option HostState) → slice_get (world.flying from to) place ≡ flight → state_at world to ≡ state →
    HappensOr code world (Take from to place) (refusal_of_take flight state)
take_or_refused code world from to place None state there obeys = inr (not_there, refl)
take_or_refused code world from to place (Some flight) None there obeys = inr (not_there, refl)
take_or_refused code world from to place (Some flight) (Some state) there obeys = elim (some_or_none state.running) [
  | inl rests ↦
      let taken = some_taking code state from flight.message in
      inl (
        _,
        record {
          state = state;
          flight = flight;
          outcome = taken.0;
          there = there;
          obeys = obeys;
          rests = rests;
          takes = taken.1;
          leaves = refl;
        },
      )
  | inr runs ↦ inr (host_busy, ap (λ running. if is_some running then Some host_busy else None) runs.1)
]

turn_or_refused : (code : CodeShape) (world : WorldShape) (host : HostId) (state : Option HostState) →
    state_at world host ≡ state → HappensOr code world (Turn host) (refusal_of_turn state)
turn_or_refused code world host None obeys = inr (not_there, refl)
turn_or_refused code world host (Some state) obeys = elim (some_or_none state.running) [
  | inl rests ↦ inr (not_there, ap (λ running. if is_some running then None else Some not_there) rests)
  | inr runs ↦
      let turned = some_turn code state in
      inl (
        _,
        record {
          state = state;
          outcome = turned.0;
          obeys = obeys;
          runs = ap is_some runs.1;
          turns = turned.1;
          leaves = refl;
        },
      )
]

-- a message that was made is taken by a host at rest
made_or_refused : (code : CodeShape) (world : WorldShape) (from to : HostId) (made : BadMessage) (state : HostState)
    (message : Option Message) → misbehaves world from ≡ true → state_at world to ≡ Some state →
    state.running ≡ None → message_made (tokens_sent world) made ≡ message →
    HappensOr code world (Act from to made) (refusal_of_token (length (tokens_sent world)) message)
made_or_refused code world from to made state None bad obeys rests makes =
    inr (no_such_token (length (tokens_sent world)), refl)
made_or_refused code world from to made state (Some message) bad obeys rests makes =
    let taken = some_taking code state from message in
    inl (
      _,
      record {
        state = state;
        message = message;
        outcome = taken.0;
        bad = bad;
        obeys = obeys;
        rests = rests;
        makes = makes;
        takes = taken.1;
        leaves = refl;
      },
    )

act_or_refused : (code : CodeShape) (world : WorldShape) (from to : HostId) (made : BadMessage) (bad : Bool)
    (state : Option HostState) → misbehaves world from ≡ bad → state_at world to ≡ state →
    HappensOr code world (Act from to made)
    (refusal_of_act bad state
    (refusal_of_token (length (tokens_sent world)) (message_made (tokens_sent world) made)))
act_or_refused code world from to made false state bad obeys = inr (not_bad, refl)
act_or_refused code world from to made true None bad obeys = inr (not_there, refl)
act_or_refused code world from to made true (Some state) bad obeys =
    let token = refusal_of_token (length (tokens_sent world)) (message_made (tokens_sent world) made) in
    elim (some_or_none state.running) [
      | inl rests ↦
          subst (λ running. HappensOr code world (Act from to made) (if is_some running then Some host_busy else token))
          (sym rests) (made_or_refused code world from to made state _ bad obeys rests refl)
      | inr runs ↦ inr (host_busy, ap (λ running. if is_some running then Some host_busy else token) runs.1)
    ]

pub happens_or_refused : (code : CodeShape) (world : WorldShape) (event : Event) →
    HappensOr code world event (refusal_of world event)
happens_or_refused code world (Take from to place) = take_or_refused code world from to place _ _ refl refl
happens_or_refused code world (Turn host) = turn_or_refused code world host _ refl
happens_or_refused code world (Act from to made) = act_or_refused code world from to made _ _ refl refl
