-- Requests and their answers, by their numbers.
use Rattle.std.specs.Prelude.{◌≡◌, ◌⊎◌, ℕ, Option, Some, None, IsSomeAnd, slice_get}
use Rattle.js_base.specs.declared.ids.HostId.{HostId}
use Rattle.js_base.specs.declared.ids.RequestId.{RequestId}
use Rattle.host_code.specs.declared.message.Message.{Message}
use Rattle.host_code.specs.declared.message.Message.TheVariants as message
use Rattle.host_core.specs.Host.{HostState}
use Rattle.net_world.specs.World.{WorldShape}

-- the number of a request
abbrev pub number_asked : Message → Option RequestId
number_asked (message.Get request field index) = Some request
number_asked (message.Set request field index value) = Some request
number_asked (message.Forward request frame variable value) = Some request
number_asked (message.Sync request frame entry token) = Some request
number_asked _ = None

-- the number of the request that a message answers
abbrev pub number_answered : Message → Option RequestId
number_answered (message.Value request value) = Some request
number_answered (message.Ack request) = Some request
number_answered (message.Token request token) = Some request
number_answered _ = None

-- the place of a message in flight from one host to another
pub record FlightSpot : Type 0 where
  pub from : HostId
  pub to : HostId
  pub place : ℕ

-- there is a message in flight at the spot whose number is this one
abbrev pub IsNumberedAt : WorldShape → FlightSpot → (Message → Option RequestId) → RequestId → Type 0
IsNumberedAt world spot number_of request =
    IsSomeAnd (slice_get (world.flying spot.from spot.to) spot.place) (λ flight.
    number_of flight.message ≡ Some request)

-- by a message at the spot a host asks another by this number, or that one answers it
abbrev pub IsUnderWay : WorldShape → HostId → HostId → RequestId → FlightSpot → Type 0
IsUnderWay world host other request spot =
    ((spot.from ≡ host) × (spot.to ≡ other) × IsNumberedAt world spot number_asked request)
    ⊎ ((spot.from ≡ other) × (spot.to ≡ host) × IsNumberedAt world spot number_answered request)

-- a thread of the host waits for the answer to this number from another host
abbrev pub WaitsFor : HostState → RequestId → HostId → Type 0
WaitsFor state request other =
    (place : ℕ) × IsSomeAnd (slice_get state.waiting place) (λ waiting.
    (waiting.request ≡ request) × (waiting.asked ≡ other))
