-- What is in flight between the hosts, and how the program keeps it: a queue for each ordered pair of 16 hosts.
--
-- There are 256 queues, for 16 hosts. What is in flight from host i to host j stands at place 16 * i + j, however many
-- hosts there are. So the place of a pair depends on the pair alone, and its proofs need no count of hosts. The empty
-- queues cost nothing that matters.
use Rattle.std.specs.Prelude.{◌≡◌, ℕ, Bool, false, ◌+◌, ◌*◌, ◌<◌, ◌==◌, ◌&&◌, if◌then◌else◌, nat_lt, List}
use Rattle.std.specs.Prelude.{[], ◌∷◌, map, IsSomeAnd}
use Rattle.std.specs.Prelude.{unwrap_or, slice_get}
use Rattle.js_base.specs.declared.ids.HostId.{HostId}
use Rattle.js_base.specs.declared.limits.TheConstants.{HOSTS}
use Rattle.host_code.specs.declared.message.Message.{Message}

-- A message in flight, with the place of the label that it carries among the code's labels: that of the instruction
-- that sent it, and for an answer that of the message that it answers.
pub record Flight : Type 0 where
  pub message : Message
  pub label : ℕ

-- for each ordered pair of hosts what is in flight from the first to the second, the oldest first
abbrev pub Flying : Type 0
Flying = HostId → HostId → List Flight

-- these are in flight from a host to a host, and all else stays
abbrev pub with_flights : Flying → HostId → HostId → List Flight → Flying
with_flights flying from to flights =
    λ i j. if i.0 == from.0 && j.0 == to.0 then flights else flying i j

-- ---- in the program

-- messages beside their labels
abbrev pub flights_with : List Message → List ℕ → List Flight
flights_with [] labels = []
flights_with (message ∷ messages) [] = []
flights_with (message ∷ messages) (label ∷ labels) =
    record { message = message; label = label } ∷ flights_with messages labels

-- whether the label at this place may be seen, by a list that tells it for each label
abbrev pub may_be_seen : List Bool → ℕ → Bool
may_be_seen readable label = unwrap_or (slice_get readable label) false

-- how many messages carry a label that may not be seen
abbrev pub one_if_hidden : List Bool → ℕ → ℕ
one_if_hidden readable label = if may_be_seen readable label then 0 else 1

abbrev pub hidden_in : List Bool → List Flight → ℕ
hidden_in readable [] = 0
hidden_in readable (flight ∷ flights) = one_if_hidden readable flight.label + hidden_in readable flights

-- what is in a queue, the count of what may not be seen of it, and for how many more messages and labels it has room
pub record Queue : Type 0 where
  pub flights : List Flight
  pub hidden : ℕ
  pub message_room : ℕ
  pub label_room : ℕ

abbrev pub IsQueueCounted : List Bool → Queue → Type 0
IsQueueCounted readable queue = queue.hidden ≡ hidden_in readable queue.flights

-- a queue for each pair of hosts, and for each label of the code whether a misbehaving host may see it
pub record QueuesShape : Type 0 where
  pub queues : List Queue
  pub readable : List Bool

-- the place of the queue from a host to a host
abbrev pub pair_place : HostId → HostId → ℕ
pair_place from to = HOSTS * from.0 + to.0

abbrev pub flights_of : List Queue → List (List Flight)
flights_of queues = map (λ queue. queue.flights) queues

-- what is in the queue at a place
abbrev pub flights_at : List (List Flight) → ℕ → List Flight
flights_at queues place = unwrap_or (slice_get queues place) []

-- what is in flight between so many hosts, and nothing where a number is none of theirs
abbrev pub flying_of : ℕ → List (List Flight) → Flying
flying_of count queues =
    λ from to. if nat_lt from.0 count && nat_lt to.0 count then flights_at queues (pair_place from to) else []

-- one more message goes into the queue without memory
abbrev pub QueueHasRoom : Queue → Type 0
QueueHasRoom queue = (0 < queue.message_room) × (0 < queue.label_room)

abbrev pub HasRoom : List Queue → ℕ → Type 0
HasRoom queues place = IsSomeAnd (slice_get queues place) QueueHasRoom
