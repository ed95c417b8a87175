-- The first message in flight.
use Rattle.std.proofs.Common.{◌≡◌, ◌≢◌, ◌∙◌, ℕ, List, [], ◌∷◌, Some, refl, ap, sym}
use Rattle.std.proofs.Common.{subst, ◌≤◌, length, get_or, arith}
use Rattle.std.specs.Prelude.{All, map, slice_get}
use Rattle.std.proofs.lemmas.List.Elements.{All-head}
use Rattle.js_base.specs.declared.ids.HostId.{HostId}
use Rattle.event_text.specs.declared.event.Event.{Event}
use Rattle.event_text.specs.declared.event.Event.TheVariants.{Take}
use Rattle.host_code.specs.declared.message.Message.{Message}
use Rattle.host_code.specs.Code.{CodeShape}
use Rattle.host_code.specs.Messages.{MessageFits}
use Rattle.net_world.specs.Choice.{IsNextEvent}
use Rattle.net_world.specs.Fits.{FlightFits}
use Rattle.net_world.specs.Flying.{Flight}
use Rattle.net_world.specs.World.{WorldShape}
use Rattle.event_text.specs.JournalText.{take_words}
use Rattle.record_merge.specs.NextLines.{IsFirstFlight, taken_words, step_words}

pub take_step : (code : CodeShape) (world : WorldShape) (from to : HostId) (place : ℕ) (event : Event)
    (message : Message) → event ≡ Take from to place → IsNextEvent world (Some event) →
    IsFirstFlight code (world.flying from to) message → step_words code world event ≡ take_words code from message
take_step code world from to place event message is next first =
    let here = subst (λ (e : Event). IsNextEvent world (Some e)) is next in
    ap (step_words code world) is ∙ ap (λ n. taken_words code from (slice_get (world.flying from to) n)) here.2
    ∙ ap (taken_words code from) first.there ∙ ap (take_words code from) first.is

pub none_flies : (world : WorldShape) (from to : HostId) (place : ℕ) (event : Event) → event ≡ Take from to place →
    IsNextEvent world (Some event) → world.flying from to ≢ []
none_flies world from to place event is next =
    (subst (λ (e : Event). IsNextEvent world (Some e)) is next).1.target.flies

pub first_at : (code : CodeShape) (from to : HostId) (flights : List Flight) (messages : List Message)
    (message : Message) → All (FlightFits code from to) flights → messages ≡ map (λ (f : Flight). f.message) flights →
    1 ≤ length messages → message ≡ get_or messages 0 message → IsFirstFlight code flights message
first_at code from to [] messages message all are some is =
    let none : length messages ≡ 0 = ap length are in
    absurd (omega (arith, none, some))
first_at code from to (flight ∷ flights) messages message all are some is =
    let same : flight.message ≡ message = ap (λ ms. get_or ms 0 message) (sym are) ∙ sym is in
    record {
      flight = flight;
      there = refl;
      is = same;
      fits = subst (MessageFits code) same (All-head (FlightFits code from to) flight flights all).message;
    }
