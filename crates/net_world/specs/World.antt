-- All hosts, what is in flight between them, and what each event leaves.
--
-- An answer carries the label of the message that it answers. A host knows the label of the instruction that it runs,
-- and not that of a request. What is in flight has its label beside it, and so the world labels answers.
--
-- A message is taken from any place of its queue. The network may deliver messages of one pair in another order than
-- they were sent. A script says which message arrives, by its place among those in flight.
--
-- Who misbehaves is who has no state. A world has no list of misbehaving hosts beside the states, so that the two can't
-- disagree. What misbehaving hosts are sent carries no label, since nobody takes it.
use Rattle.std.specs.Prelude.{◌≡◌, ℕ, ◌+◌, ℤ, Bool, true, false, ◌==◌, if◌then◌else◌, List}
use Rattle.std.specs.Prelude.{[], ◌∷◌, ◌++◌, length, map}
use Rattle.std.specs.Prelude.{Option, Some, None, IsSome, is_some, slice_get, slice_set, remove, IsTrue, IsSomeAnd}
use Rattle.std.specs.Int.{bit_at}
use Rattle.js_base.specs.declared.ids.HostId.{HostId}
use Rattle.capability.specs.declared.token.Token.{Token}
use Rattle.host_decl.specs.Hosts as declared_hosts
use Rattle.host_code.specs.declared.message.Message.{Message}
use Rattle.host_code.specs.Code.{CodeShape, CodeHostShape}
use Rattle.host_core.specs.Host.{HostState, Outcome, Letter, with_label}
use Rattle.host_core.specs.Start.{host_at_start}
use Rattle.host_core.specs.Taking.{IsTaking}
use Rattle.host_core.specs.Turn.{IsTurn, label_of_turn}
use Rattle.event_text.specs.declared.event.Event.{Event}
use Rattle.event_text.specs.declared.event.Event.TheVariants.{Take, Turn, Act}
use Rattle.event_text.specs.declared.event.BadMessage.{BadMessage}
use Rattle.net_world.specs.Flying.{Flight, Flying, with_flights}
use Rattle.net_world.specs.Told.{SentMessage, tokens_in, message_made}

-- For each host of the code its state, or nothing where it misbehaves; what is in flight between obeying hosts; and
-- what misbehaving hosts were sent, in order.
pub record WorldShape : Type 0 where
  pub hosts : List (Option HostState)
  pub flying : Flying
  pub sent : List SentMessage

-- what stands for a host in a list that has something or nothing for each
abbrev pub given : {X : Type 0} → Option (Option X) → Option X
given None = None
given (Some there) = there

abbrev pub present : {X : Type 0} → List (Option X) → HostId → Option X
present hosts host = given (slice_get hosts host.0)

-- the state of an obeying host of the code
abbrev pub state_at : WorldShape → HostId → Option HostState
state_at world host = present world.hosts host

abbrev pub is_absent : {X : Type 0} → Option (Option X) → Bool
is_absent (Some None) = true
is_absent _ = false

-- a misbehaving host of the code has no state
abbrev pub lacks : {X : Type 0} → List (Option X) → HostId → Bool
lacks hosts host = is_absent (slice_get hosts host.0)

abbrev pub misbehaves : WorldShape → HostId → Bool
misbehaves world host = lacks world.hosts host

-- no host misbehaves
abbrev pub AllObey : WorldShape → Type 0
AllObey world = (host : HostId) → misbehaves world host ≡ false

abbrev pub tokens_sent : WorldShape → List Token
tokens_sent world = tokens_in world.sent

-- the root host obeys, and took the entry that ends the program off its control stack
abbrev pub has_halted : HostId → WorldShape → Type 0
has_halted root world = IsSomeAnd (state_at world root) (λ host. IsTrue host.halted)

-- ---- changes

abbrev pub with_state : WorldShape → HostId → HostState → WorldShape
with_state world host state = record world { hosts = slice_set world.hosts host.0 (Some state) }

-- a message is no longer in flight
abbrev pub without_flight : WorldShape → HostId → HostId → ℕ → WorldShape
without_flight world from to place =
    record world { flying = with_flights world.flying from to (remove (world.flying from to) place) }

-- a misbehaving host was sent a message
abbrev pub after_telling : WorldShape → HostId → Option (HostId × Message) → WorldShape
after_telling world from None = world
after_telling world from (Some sent) = record world { sent = world.sent ++ (from, sent.0, sent.1) ∷ [] }

-- one more message is in flight
abbrev pub after_posting : WorldShape → HostId → Letter → WorldShape
after_posting world from letter =
    record world {
      flying =
          with_flights world.flying from letter.to
          (world.flying from letter.to ++ record { message = letter.message; label = letter.label } ∷ []);
    }

-- what a host sends is told to a misbehaving host, or is in flight to another
abbrev pub after_sending : WorldShape → HostId → Option Letter → WorldShape
after_sending world from None = world
after_sending world from (Some letter) =
    if misbehaves world letter.to
    then after_telling world from (Some (letter.to, letter.message))
    else after_posting world from letter

-- what is sent with this label, nothing where there is no label
abbrev pub letter_of : Option ℕ → Option (HostId × Message) → Option Letter
letter_of None sent = None
letter_of (Some label) sent = with_label label sent

-- a host made a step, and sends with this label
abbrev pub after_step : WorldShape → HostId → Outcome → Option ℕ → WorldShape
after_step world host outcome label =
    after_sending (with_state world host outcome.state) host (letter_of label outcome.sent)

-- ---- events

-- A host takes a message in flight, and its answer carries the label of that message.
pub record IsTakeStep (code : CodeShape) (world : WorldShape) (from to : HostId) (place : ℕ) (after : WorldShape)
    : Type 0 where
  pub state : HostState
  pub flight : Flight
  pub outcome : Outcome
  pub there : slice_get (world.flying from to) place ≡ Some flight
  pub obeys : state_at world to ≡ Some state
  pub rests : state.running ≡ None
  pub takes : IsTaking code state from flight.message outcome
  pub leaves : after_step (without_flight world from to place) to outcome (Some flight.label) ≡ after

-- A host runs one instruction, and what it sends carries the instruction's label.
pub record IsTurnStep (code : CodeShape) (world : WorldShape) (host : HostId) (after : WorldShape) : Type 0 where
  pub state : HostState
  pub outcome : Outcome
  pub obeys : state_at world host ≡ Some state
  pub runs : IsSome state.running
  pub turns : IsTurn code state outcome
  pub leaves : after_step world host outcome (label_of_turn code state) ≡ after

-- A misbehaving host sends an obeying host a message, which is taken at once. The answer is told to the sender.
pub record IsActStep (code : CodeShape) (world : WorldShape) (from to : HostId) (made : BadMessage) (after : WorldShape)
    : Type 0 where
  pub state : HostState
  pub message : Message
  pub outcome : Outcome
  pub bad : IsTrue (misbehaves world from)
  pub obeys : state_at world to ≡ Some state
  pub rests : state.running ≡ None
  pub makes : message_made (tokens_sent world) made ≡ Some message
  pub takes : IsTaking code state from message outcome
  pub leaves : after_telling (with_state world to outcome.state) to outcome.sent ≡ after

-- an event happens in a world, and leaves this one
abbrev pub IsStep : CodeShape → WorldShape → Event → WorldShape → Type 0
IsStep code world (Take from to place) after = IsTakeStep code world from to place after
IsStep code world (Turn host) after = IsTurnStep code world host after
IsStep code world (Act from to made) after = IsActStep code world from to made after

-- events happen one after the other, and leave this world
abbrev pub IsRun : CodeShape → WorldShape → List Event → WorldShape → Type 0
IsRun code world [] after = world ≡ after
IsRun code world (event ∷ events) after =
    (next : WorldShape) × IsStep code world event next × IsRun code next events after

-- the host whose step an event is
abbrev pub mover : Event → HostId
mover (Take from to place) = to
mover (Turn host) = host
mover (Act from to made) = to

-- ---- refusals

-- why there is no such event, the first that holds
pub data EventRefusal : Type 0 where
  not_bad : EventRefusal
  not_there : EventRefusal
  host_busy : EventRefusal
  no_such_token : ℕ → EventRefusal

-- with how many tokens misbehaving hosts were sent
abbrev pub refusal_of_token : ℕ → Option Message → Option EventRefusal
refusal_of_token count None = Some (no_such_token count)
refusal_of_token count (Some message) = None

abbrev pub refusal_of_take : Option Flight → Option HostState → Option EventRefusal
refusal_of_take None host = Some not_there
refusal_of_take (Some flight) None = Some not_there
refusal_of_take (Some flight) (Some host) = if is_some host.running then Some host_busy else None

abbrev pub refusal_of_turn : Option HostState → Option EventRefusal
refusal_of_turn None = Some not_there
refusal_of_turn (Some host) = if is_some host.running then None else Some not_there

abbrev pub refusal_of_act : Bool → Option HostState → Option EventRefusal → Option EventRefusal
refusal_of_act false host token = Some not_bad
refusal_of_act true None token = Some not_there
refusal_of_act true (Some host) token = if is_some host.running then Some host_busy else token

-- Why an event is refused. A host that answers no more refuses its events beside these, after all of them.
abbrev pub refusal_of : WorldShape → Event → Option EventRefusal
refusal_of world (Take from to place) =
    refusal_of_take (slice_get (world.flying from to) place) (state_at world to)
refusal_of world (Turn host) = refusal_of_turn (state_at world host)
refusal_of world (Act from to made) =
    refusal_of_act (misbehaves world from) (state_at world to)
    (refusal_of_token (length (tokens_sent world)) (message_made (tokens_sent world) made))

-- ---- the start

-- a host of a host file, as a code has it
abbrev pub named_host : declared_hosts.HostShape → CodeHostShape
named_host row = record { name = row.name; label = row.label }

-- the hosts of the code are those of a host file, with their names and labels
abbrev pub AreHostsOf : CodeShape → List declared_hosts.HostShape → Type 0
AreHostsOf code rows = map named_host rows ≡ code.hosts

-- A host before the first event, with its key. Bit h of the word says that host h misbehaves.
abbrev pub host_before : CodeShape → List (List ℤ) → ℕ → ℕ → declared_hosts.HostShape → Option HostState
host_before code store bad number row =
    if bit_at bad number == 1 then None else Some (host_at_start code store row.key (record { 0 = number }))

-- the hosts from a number on
abbrev pub hosts_before : CodeShape → List (List ℤ) → ℕ → ℕ → List declared_hosts.HostShape →
    List (Option HostState)
hosts_before code store bad number [] = []
hosts_before code store bad number (row ∷ rows) =
    host_before code store bad number row ∷ hosts_before code store bad (number + 1) rows

-- the world before the first event
abbrev pub world_at_start : CodeShape → List declared_hosts.HostShape → ℕ → List (List ℤ) → WorldShape
world_at_start code rows bad store =
    record { hosts = hosts_before code store bad 0 rows; flying = λ from to. []; sent = [] }
