-- What is in flight at the end of a run.
use Rattle.std.specs.Prelude.{ℕ, ◌+◌, List, [], ◌∷◌, flat_map, map, slice_get, Option}
use Rattle.host_code.specs.Code.{CodeShape}
use Rattle.host_code.specs.MessageText.{message_text}
use Rattle.host_code.specs.declared.message.Message.{Message}
use Rattle.js_base.specs.declared.ids.HostId.{HostId}
use Rattle.net_world.specs.World.{WorldShape}
use Rattle.run_chart.specs.Sheets.{ChartFlightShape}
use Rattle.run_rows.specs.Senders.{senders_at}
use Rattle.run_sheet.specs.ChartStrokes.{message_stroke}
use Rattle.run_sheet.specs.RunSources.{RunSourceShape, hosts_in}
use Rattle.run_sheet.specs.SendLanes.{sent_start}

-- a message from a host to a host, which the event of a number sent
abbrev pub flight_of : CodeShape → (lanes : List ℕ) → (from to : HostId) → Option ℕ → Message → ChartFlightShape
flight_of code lanes from to sent_by message = record {
  from = from;
  to = to;
  stroke = message_stroke message;
  start = sent_start lanes sent_by;
  text = message_text code message;
}

-- the messages from a host to a host from a place of their queue on, beside which stand the events that sent them
abbrev pub flights_in_queue :
    CodeShape → (lanes : List ℕ) → (from to : HostId) → (numbers : List ℕ) → (place : ℕ) → List Message →
    List ChartFlightShape
flights_in_queue code lanes from to numbers place [] = []
flights_in_queue code lanes from to numbers place (message ∷ messages) =
    flight_of code lanes from to (slice_get numbers place) message
    ∷ flights_in_queue code lanes from to numbers (place + 1) messages

-- the messages in flight from a host to a host, the oldest first
abbrev pub messages_left : WorldShape → HostId → HostId → List Message
messages_left world from to = map (λ flight. flight.message) (world.flying from to)

abbrev pub flights_to : RunSourceShape → (lanes : List ℕ) → (from to : HostId) → List ChartFlightShape
flights_to source lanes from to =
    flights_in_queue source.code lanes from to (senders_at source.senders from to) 0
    (messages_left source.world from to)

abbrev pub flights_from : RunSourceShape → (lanes : List ℕ) → HostId → List ChartFlightShape
flights_from source lanes from = flat_map (flights_to source lanes from) (hosts_in source.code)

-- by senders and receivers, in the order of the hosts
abbrev pub flights_left : RunSourceShape → (lanes : List ℕ) → List ChartFlightShape
flights_left source lanes = flat_map (flights_from source lanes) (hosts_in source.code)
