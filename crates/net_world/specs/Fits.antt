-- A world in the program, and what holds of it from the start on: it is a world of the code.
use Rattle.std.specs.Prelude.{◌≡◌, ⊤, Bool, List, All, length, map, Option, IfSome, IsTrue}
use Rattle.std.specs.Option.{option_map}
use Rattle.js_base.specs.declared.ids.HostId.{HostId}
use Rattle.event_text.specs.declared.event.Event.{Event}
use Rattle.event_text.specs.declared.event.Event.TheVariants.{Act}
use Rattle.event_text.specs.declared.event.BadToken.{BadToken}
use Rattle.event_text.specs.declared.event.BadToken.TheVariants.{Own}
use Rattle.event_text.specs.declared.event.BadMessage.{BadMessage}
use Rattle.event_text.specs.declared.event.BadMessage.TheVariants as bad
use Rattle.host_code.specs.Code.{CodeShape}
use Rattle.host_code.specs.Sound.{IsHost, IsOther, IsLabelNumber}
use Rattle.host_code.specs.Messages.{MessageFits}
use Rattle.host_core.specs.Host.{HostState, HostModel, state_of}
use Rattle.host_core.specs.Fits.{HostFits, StateFits}
use Rattle.net_world.specs.Flying.{Flight, Queue, flights_of, flying_of}
use Rattle.net_world.specs.Told.{SentMessage, ToldShape}
use Rattle.net_world.specs.World.{WorldShape, present, state_at, misbehaves}
use Rattle.net_world.specs.Secret.{AreReadable}

-- The root host, the hosts, a queue for each pair of hosts, for each label whether a misbehaving host may see it, and
-- what misbehaving hosts were sent.
pub record WorldModel : Type 0 where
  pub root : HostId
  pub hosts : List (Option HostModel)
  pub queues : List Queue
  pub readable : List Bool
  pub told : ToldShape

abbrev pub states_of : List (Option HostModel) → List (Option HostState)
states_of hosts = map (λ host. option_map state_of host) hosts

-- the world, of which the definitions speak
abbrev pub world_of : WorldModel → WorldShape
world_of world =
    record {
      hosts = states_of world.hosts;
      flying = flying_of (length world.hosts) (flights_of world.queues);
      sent = world.told.sent;
    }

-- an obeying host in the program
abbrev pub host_at : WorldModel → HostId → Option HostModel
host_at world host = present world.hosts host

-- a message in flight goes from a host to another, and names what is there
pub record FlightFits (code : CodeShape) (from to : HostId) (flight : Flight) : Type 0 where
  pub sender : IsHost code from
  pub target : IsOther code from to
  pub message : MessageFits code flight.message
  pub label : IsLabelNumber code flight.label

pub record SentMessageFits (code : CodeShape) (sent : SentMessage) : Type 0 where
  pub sender : IsHost code sent.0
  pub target : IsOther code sent.0 sent.1
  pub message : MessageFits code sent.2

-- what is in flight and what misbehaving hosts were sent fits
pub record MailFits (code : CodeShape) (world : WorldShape) : Type 0 where
  pub flying : (from to : HostId) → All (FlightFits code from to) (world.flying from to)
  pub sent : All (SentMessageFits code) world.sent

-- an obeying host has its number, and runs the code
pub record PresentFits (code : CodeShape) (number : HostId) (host : HostModel) : Type 0 where
  pub me : host.me ≡ number
  pub fits : HostFits code host

abbrev pub HostsFit : CodeShape → List (Option HostModel) → Type 0
HostsFit code hosts = (number : HostId) → IfSome (present hosts number) (PresentFits code number)

pub record WorldFits (code : CodeShape) (world : WorldModel) : Type 0 where
  pub root : world.root ≡ code.root
  pub count : length world.hosts ≡ length code.hosts
  pub hosts : HostsFit code world.hosts
  pub mail : MailFits code (world_of world)
  pub readable : AreReadable code (world_of world) world.readable

-- ---- the same of the definitions alone

pub record IsStateOf (code : CodeShape) (number : HostId) (state : HostState) : Type 0 where
  pub me : state.me ≡ number
  pub fits : StateFits code state

pub record ShapeFits (code : CodeShape) (world : WorldShape) : Type 0 where
  pub count : length world.hosts ≡ length code.hosts
  pub states : (number : HostId) → IfSome (state_at world number) (IsStateOf code number)
  pub mail : MailFits code world

-- ---- what a misbehaving host may present as its own

abbrev pub OwnToken : WorldShape → BadToken → Type 0
OwnToken world (Own token) = IsTrue (misbehaves world token.host)
OwnToken world _ = ⊤

abbrev pub OwnTokenIn : WorldShape → BadMessage → Type 0
OwnTokenIn world (bad.Sync request frame entry token) = OwnToken world token
OwnTokenIn world (bad.Rgoto frame entry token) = OwnToken world token
OwnTokenIn world (bad.RgotoWith frame entry token riders) = OwnToken world token
OwnTokenIn world (bad.Lgoto token) = OwnToken world token
OwnTokenIn world (bad.Token request token) = OwnToken world token
OwnTokenIn world _ = ⊤

-- a token that is no sent one names a misbehaving host
abbrev pub HasOwnToken : WorldShape → Event → Type 0
HasOwnToken world (Act from to made) = OwnTokenIn world made
HasOwnToken world _ = ⊤
