-- What is in flight from a host to a host.
use Rattle.std.proofs.Common.{◌≡◌, ℕ, List, [], ◌∷◌, map, ap, ◌∙◌}
use Rattle.std.specs.Prelude.{All}
use Rattle.std.proofs.lemmas.List.Elements.{All-cons, All-head, All-nil, All-tail}
use Rattle.host_code.specs.Code.{CodeShape}
use Rattle.host_code.specs.Messages.{MessageFits}
use Rattle.host_code.specs.declared.message.Message.{Message}
use Rattle.js_base.specs.declared.ids.HostId.{HostId}
use Rattle.net_world.specs.Fits.{FlightFits}
use Rattle.net_world.specs.Flying.{Flight}
use Rattle.run_rows.specs.Senders.{senders_at}
use Rattle.run_sheet.specs.FlightsLeft.{flights_in_queue, flights_to, messages_left}
use Rattle.run_sheet.specs.RunSources.{RunSourceShape}

pub messages_fit : (code : CodeShape) (from to : HostId) (flights : List Flight) →
    All (FlightFits code from to) flights → All (MessageFits code) (map (λ flight. flight.message) flights)
messages_fit code from to [] all = All-nil (MessageFits code)
messages_fit code from to (flight ∷ flights) all =
    All-cons (MessageFits code) flight.message (map (λ (one : Flight). one.message) flights)
    (All-head (FlightFits code from to) flight flights all).message
    (messages_fit code from to flights (All-tail (FlightFits code from to) flight flights all))

pub queue_is : (source : RunSourceShape) (lanes : List ℕ) (from to : HostId) (numbers : List ℕ)
    (queue : List Message) → numbers ≡ senders_at source.senders from to → queue ≡ messages_left source.world from to →
    flights_in_queue source.code lanes from to numbers 0 queue ≡ flights_to source lanes from to
queue_is source lanes from to numbers queue beside are =
    ap (λ (xs : List ℕ). flights_in_queue source.code lanes from to xs 0 queue) beside
    ∙ ap (flights_in_queue source.code lanes from to (senders_at source.senders from to) 0) are
