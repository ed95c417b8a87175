-- What the parts of an event find and leave: the tests before it, the step of its host, and its answer.
use Rattle.std.specs.Prelude.{◌≡◌, ◌≢◌, ◌⊎◌, ◌≤◌, ◌+◌, ℕ, false, List, length, Option, Some}
use Rattle.std.specs.Prelude.{None, IsSome, IsTrue, ⊤}
use Rattle.std.specs.Prelude.{IsSomeAnd, IfSome, slice_get, slice_set, Result, Ok, Err}
use Rattle.js_base.specs.declared.ids.HostId.{HostId}
use Rattle.host_code.specs.declared.message.Message.{Message}
use Rattle.host_code.specs.Code.{CodeShape}
use Rattle.host_code.specs.Sound.{IsLabelNumber, IsOther}
use Rattle.host_core.specs.Fits.{TokensFit}
use Rattle.host_core.specs.Host.{HostState, HostModel, Outcome, state_of, IsStopped}
use Rattle.host_core.specs.Taking.{IsTaking}
use Rattle.host_core.specs.Turn.{IsTurn, label_of_turn}
use Rattle.event_text.specs.declared.event.Event.{Event}
use Rattle.net_world.specs.declared.moves.Move.{Move}
use Rattle.net_world.specs.declared.moves.Move.TheVariants as move
use Rattle.net_world.specs.declared.world.EventError.{EventError}
use Rattle.net_world.specs.declared.world.EventError.TheVariants as answer
use Rattle.event_text.specs.declared.event.BadMessage.{BadMessage}
use Rattle.net_world.specs.Told.{message_made}
use Rattle.net_world.specs.World.{WorldShape, IsStep, not_bad, not_there, host_busy, no_such_token, refusal_of, mover}
use Rattle.net_world.specs.World.{present, state_at, with_state, misbehaves, tokens_sent}
use Rattle.net_world.specs.Fits.{WorldModel, world_of, host_at}

-- a host that answers, and takes a message or makes a turn
abbrev pub IsReadyToTake : HostModel → Type 0
IsReadyToTake host = (host.running ≡ None) × ¬ IsStopped host

abbrev pub IsActive : HostModel → Type 0
IsActive host = IsSome host.running × ¬ IsStopped host

-- it can make the move
abbrev pub IsMovable : Move → HostModel → Type 0
IsMovable (move.Take from message) host = IsReadyToTake host
IsMovable move.Turn host = IsActive host

-- a message that is taken is from another host, and its tokens name hosts of the code
abbrev pub MoveFits : CodeShape → HostId → Move → Type 0
MoveFits code me (move.Take from message) = IsOther code me from × TokensFit code message.now
MoveFits code me move.Turn = ⊤

-- this is what the move leaves and sends
abbrev pub IsMove : CodeShape → Move → HostState → Outcome → Type 0
IsMove code (move.Take from message) state outcome = IsTaking code state from message.now outcome
IsMove code move.Turn state outcome = IsTurn code state outcome

-- a host that answers, and has made at most so many steps
pub record HasMade (most : ℕ) (host : HostModel) : Type 0 where
  pub answers : host.stopped ≡ false
  pub steps : host.calls ≤ most

abbrev pub HaveMade : ℕ → List (Option HostModel) → Type 0
HaveMade most hosts = (number : HostId) → IfSome (present hosts number) (HasMade most)

-- the host is there and answers no more
abbrev pub HasStopped : WorldModel → HostId → Type 0
HasStopped world host = IsSomeAnd (host_at world host) IsStopped

-- there is such an event, but its host answers no more
pub record IsStuck (world : WorldModel) (event : Event) : Type 0 where
  pub there : refusal_of (world_of world) event ≡ None
  pub stopped : HasStopped world (mover event)

-- a host made a step of this kind, and this is what it sends
pub record HasStepped (kind : HostState → Outcome → Type 0) (old : WorldShape) (host : HostId)
    (sent : Option (HostId × Message)) (new : WorldShape) : Type 0 where
  pub before : HostState
  pub after : HostState
  pub obeys : state_at old host ≡ Some before
  pub made : kind before (record { state = after; sent = sent })
  pub leaves : with_state old host after ≡ new

-- the same of the hosts alone
pub record HasMoved (kind : HostState → Outcome → Type 0) (old new : List (Option HostModel)) (host : HostId)
    (sent : Option (HostId × Message)) : Type 0 where
  pub before : HostModel
  pub after : HostModel
  pub there : slice_get old host.0 ≡ Some (Some before)
  pub made : kind (state_of before) (record { state = state_of after; sent = sent })
  pub leaves : slice_set old host.0 (Some after) ≡ new

-- the host of the number has answered one more call, and answers on as before
pub record HasCountedCall (number : HostId) (old new : List (Option HostModel)) : Type 0 where
  pub before : HostModel
  pub after : HostModel
  pub was : present old number ≡ Some before
  pub is : present new number ≡ Some after
  pub calls : after.calls ≡ before.calls + 1
  pub stopped : after.stopped ≡ before.stopped

-- no host but that of the number has changed
pub record ChangesOnlyHost (number : HostId) (old new : List (Option HostModel)) : Type 0 where
  pub count : length new ≡ length old
  pub others : (host : HostId) → host.0 ≢ number.0 → slice_get new host.0 ≡ slice_get old host.0

-- a message is there, and its host is ready
pub record IsTakeable (world : WorldModel) (from to : HostId) (place : ℕ) (found : Message × ℕ) : Type 0 where
  pub there : slice_get ((world_of world).flying from to) place
      ≡ Some (record { message = found.0; label = found.1 })
  pub host : IsSomeAnd (host_at world to) IsReadyToTake

-- a thread of the host runs, and its instruction has this label, which is one of the code's
abbrev pub IsRunnable : CodeShape → WorldModel → HostId → Option ℕ → Type 0
IsRunnable code world host label =
    IsSomeAnd (host_at world host) (λ there. IsActive there × (label ≡ label_of_turn code (state_of there)))
    × IfSome label (IsLabelNumber code)

-- a misbehaving host makes this message, and its target is ready
pub record IsActable (world : WorldModel) (from to : HostId) (made : BadMessage) (message : Message) : Type 0 where
  pub bad : IsTrue (misbehaves (world_of world) from)
  pub makes : message_made (tokens_sent (world_of world)) made ≡ Some message
  pub host : IsSomeAnd (host_at world to) IsReadyToTake

-- why a host takes no message, beside that it answers no more
abbrev pub CannotRest : Option HostModel → EventError → Type 0
CannotRest host answer.NotThere = host ≡ None
CannotRest host answer.HostBusy = IsSomeAnd host (λ there. IsSome there.running)
CannotRest host _ = ⊥

-- Where memory ran out no host has changed, as the world had no room for what the step may send, or the step itself had
-- no memory, and its host answers no more.
abbrev pub HasNoMemory : WorldModel → Event → WorldModel → Type 0
HasNoMemory world event after = (after.hosts ≡ world.hosts) ⊎ HasStopped after (mover event)

-- an event is refused with this error
abbrev pub IsEventRefused : WorldModel → Event → EventError → Type 0
IsEventRefused world event answer.OutOfMemory = ⊥
IsEventRefused world event answer.Stopped = IsStuck world event
IsEventRefused world event answer.NotThere = refusal_of (world_of world) event ≡ Some not_there
IsEventRefused world event answer.HostBusy = refusal_of (world_of world) event ≡ Some host_busy
IsEventRefused world event (answer.NoSuchToken count) = refusal_of (world_of world) event ≡ Some (no_such_token count)
IsEventRefused world event answer.NotBad = refusal_of (world_of world) event ≡ Some not_bad

-- there is such an event, and its host answers
pub record IsEventDue (world : WorldModel) (event : Event) : Type 0 where
  pub there : refusal_of (world_of world) event ≡ None
  pub answers : ¬ HasStopped world (mover event)

-- an event has this answer, and leaves this world
abbrev pub IsAnswer : CodeShape → WorldModel → Event → Result (Unit {0}) EventError → WorldModel → Type 0
IsAnswer code world event (Ok done) after =
    IsEventDue world event × IsStep code (world_of world) event (world_of after)
IsAnswer code world event (Err answer.OutOfMemory) after =
    IsEventDue world event × (world_of after ≡ world_of world) × HasNoMemory world event after
IsAnswer code world event (Err error) after = IsEventRefused world event error × (after ≡ world)
