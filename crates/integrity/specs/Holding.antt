-- A chain of entries that are to be taken off their stacks, and whoever holds the token of the first of them, in a
-- world where some hosts misbehave. All that is neither the chain's nor the holder's could be the doing of those hosts.
use Rattle.std.specs.Prelude.{◌≡◌, ⊤, ◌⊎◌, ℕ, true, List, [], ◌∷◌, Option, Some, None, All, IfSome, IsSomeAnd}
use Rattle.std.specs.Prelude.{slice_get}
use Rattle.std.specs.List.{AllByRecursion}
use Rattle.js_base.specs.declared.ids.HostId.{HostId}
use Rattle.capability.specs.declared.token.Token.{Token}
use Rattle.ics_stack.specs.declared.stack.StackEntry.{StackEntry}
use Rattle.ics_stack.specs.Stack.{top_token}
use Rattle.host_code.specs.declared.message.Message.{Message}
use Rattle.host_code.specs.Code.{halt}
use Rattle.host_code.specs.Thread.{ThreadShape, WaitingShape}
use Rattle.host_core.specs.Host.{HostState}
use Rattle.event_text.specs.declared.event.Event.{Event}
use Rattle.event_text.specs.declared.event.Event.TheVariants.{Take, Turn, Act}
use Rattle.net_world.specs.Flying.{Flight}
use Rattle.net_world.specs.Told.{token_in, message_made}
use Rattle.net_world.specs.World.{WorldShape, state_at, misbehaves, tokens_sent}
use Rattle.token_laws.specs.Holders.{IsTokenHeld, IsTokenSent}
use Rattle.token_laws.specs.Requests.{number_asked, number_answered}
use Rattle.integrity.specs.Outside.{Threat, ThreadIsOpen, EntryIsOpen, MessageIsOpen}

-- ---- the holder

-- one of a list
abbrev pub IsAmong : {X : Type 0} → List X → X → Type 0
IsAmong all one = (place : ℕ) × (slice_get all place ≡ Some one)

pub data Holder : Type 0 where
  -- a thread runs on a host
  runs : HostId → ThreadShape → Holder
  -- a thread waits on a host, and its request is in flight, or the answer to that
  asked : HostId → WaitingShape → Message → Holder
  answered : HostId → WaitingShape → Message → Holder
  -- a thread waits for a host that misbehaves
  stuck : HostId → WaitingShape → Holder
  -- the token is in flight from a host to another
  passes : HostId → HostId → Message → Holder
  -- nobody has it
  lost : Holder
  -- there is no entry any more
  halted : Holder

abbrev pub first_of : Option Token → Option Token → Option Token
first_of None second = second
first_of (Some token) second = Some token

-- the token that the holder has, which may be in the message that its thread waits for
abbrev pub token_of : Holder → Option Token
token_of (runs host thread) = thread.held
token_of (asked host waiting m) = first_of (token_in m) waiting.thread.held
token_of (answered host waiting m) = first_of (token_in m) waiting.thread.held
token_of (stuck host waiting) = waiting.thread.held
token_of (passes from to m) = token_in m
token_of lost = None
token_of halted = None

-- ---- where the holder is

abbrev pub Waits : WorldShape → HostId → WaitingShape → Type 0
Waits world host waiting = IsSomeAnd (state_at world host) (λ state. IsAmong state.waiting waiting)

-- the message is in flight
pub record MessageFlies (world : WorldShape) (from to : HostId) (m : Message) : Type 0 where
  pub flight : Flight
  pub among : IsAmong (world.flying from to) flight
  pub is : flight.message ≡ m

abbrev pub IsThere : WorldShape → Holder → Type 0
IsThere world (runs host thread) = IsSomeAnd (state_at world host) (λ state. state.running ≡ Some thread)
IsThere world (asked host waiting m) =
    Waits world host waiting × MessageFlies world host waiting.asked m × (number_asked m ≡ Some waiting.request)
IsThere world (answered host waiting m) =
    Waits world host waiting × MessageFlies world waiting.asked host m × (number_answered m ≡ Some waiting.request)
IsThere world (stuck host waiting) = Waits world host waiting × (misbehaves world waiting.asked ≡ true)
IsThere world (passes from to m) = MessageFlies world from to m
IsThere world lost = ⊤
IsThere world halted = ⊤

-- The holder has the token of the first entry. Where that is lost, nobody has it.
abbrev pub HasTop : WorldShape → List StackEntry → Holder → Type 0
HasTop world chain lost = (token : Token) → top_token chain ≡ Some token → ¬ IsTokenHeld world token
HasTop world chain holder = token_of holder ≡ top_token chain

-- ---- what is the holder's

abbrev pub OwnsRunning : Holder → HostId → Type 0
OwnsRunning (runs holder thread) host = host ≡ holder
OwnsRunning other host = ⊥

-- A thread that waits is known by its host and the number of its request.
abbrev pub OwnsWaiting : Holder → HostId → WaitingShape → Type 0
OwnsWaiting (asked holder waiting m) host one = (host ≡ holder) × (one.request ≡ waiting.request)
OwnsWaiting (answered holder waiting m) host one = (host ≡ holder) × (one.request ≡ waiting.request)
OwnsWaiting (stuck holder waiting) host one = (host ≡ holder) × (one.request ≡ waiting.request)
OwnsWaiting other host one = ⊥

-- So are its request and the answer. The token in flight is known by the whole message.
abbrev pub OwnsMessage : Holder → HostId → HostId → Message → Type 0
OwnsMessage (asked holder waiting m) from to one =
    (from ≡ holder) × (to ≡ waiting.asked) × (number_asked one ≡ Some waiting.request)
OwnsMessage (answered holder waiting m) from to one =
    (from ≡ waiting.asked) × (to ≡ holder) × (number_answered one ≡ Some waiting.request)
OwnsMessage (stuck holder waiting) from to one =
    (from ≡ waiting.asked) × (to ≡ holder) × (number_answered one ≡ Some waiting.request)
OwnsMessage (passes sender target m) from to one = (from ≡ sender) × (to ≡ target) × (one ≡ m)
OwnsMessage other from to one = ⊥

-- the holder's thread makes a turn, or a message of the holder's is taken
abbrev pub IsHoldersEvent : Holder → WorldShape → Event → Type 0
IsHoldersEvent holder world (Take from to place) =
    IsSomeAnd (slice_get (world.flying from to) place) (λ flight. OwnsMessage holder from to flight.message)
IsHoldersEvent holder world (Turn host) = OwnsRunning holder host
IsHoldersEvent holder world (Act from to made) =
    IsSomeAnd (message_made (tokens_sent world) made) (OwnsMessage holder from to)

-- ---- what is not

-- each is open, or the holder's or the chain's
pub record StateIsOutside (threat : Threat) (chain : List StackEntry) (holder : Holder) (state : HostState) : Type 0
  where
    pub running : OwnsRunning holder state.me ⊎ IfSome state.running (ThreadIsOpen threat state.me)
    pub waiting : All (λ waiting. OwnsWaiting holder state.me waiting ⊎ ThreadIsOpen threat state.me waiting.thread)
        state.waiting
    pub entries : All (λ on_stack. IsAmong chain on_stack ⊎ EntryIsOpen threat on_stack.entry) state.entries

abbrev pub FlightIsOutside : Threat → Holder → HostId → HostId → Flight → Type 0
FlightIsOutside threat holder from to flight =
    OwnsMessage holder from to flight.message ⊎ MessageIsOpen threat flight.message

pub record IsOutsideBut (threat : Threat) (chain : List StackEntry) (holder : Holder) (world : WorldShape) : Type 0
  where
    pub states : (host : HostId) → IfSome (state_at world host) (StateIsOutside threat chain holder)
    pub flying : (from to : HostId) → All (FlightIsOutside threat holder from to) (world.flying from to)

-- ---- the chain

-- each keeps the token of the next
abbrev pub AreLinked : List StackEntry → Type 0
AreLinked [] = ⊤
AreLinked (one ∷ []) = ⊤
AreLinked (one ∷ next ∷ chain) = (one.kept ≡ next.token) × AreLinked (next ∷ chain)

-- an entry is on the stack of the host that its token names, and misbehaving hosts were not sent that
pub record IsStanding (world : WorldShape) (on_stack : StackEntry) : Type 0 where
  pub there : IsSomeAnd (state_at world on_stack.token.host) (λ state. IsAmong state.entries on_stack)
  pub unsent : ¬ IsTokenSent world on_stack.token

-- The chain stands, the holder has the token of its first entry, or nobody has, and all else is outside.
pub record IsTight (threat : Threat) (chain : List StackEntry) (holder : Holder) (world : WorldShape) : Type 0 where
  pub linked : AreLinked chain
  pub standing : AllByRecursion (IsStanding world) chain
  pub there : IsThere world holder
  pub has_top : HasTop world chain holder
  pub outside : IsOutsideBut threat chain holder world

-- The entry that ends the program is the whole chain, and a thread on the root holds its token.
pub record StartsTight (threat : Threat) (world : WorldShape) : Type 0 where
  pub last : StackEntry
  pub ends : last.entry ≡ halt
  pub thread : ThreadShape
  pub tight : IsTight threat (last ∷ []) (runs threat.code.root thread) world
