-- What a change of one queue does to all of them.
use Rattle.std.proofs.Common.{◌≡◌, ℕ, zero, suc, ◌<◌, List, [], ◌∷◌, length, get_or, refl, arith}
use Rattle.std.specs.Prelude.{slice_set}
use Rattle.std.proofs.Math.Seq.{map-set_same}
use Rattle.std.proofs.lemmas.List.{map-set}
use Rattle.net_world.specs.Flying.{Queue, QueueHasRoom, HasRoom, flights_of, flights_at}

-- the messages after a queue is replaced
pub flights_of_set : (queues : List Queue) (place : ℕ) (queue : Queue) →
    flights_of (slice_set queues place queue) ≡ slice_set (flights_of queues) place queue.flights
flights_of_set queues place queue = map-set (λ (q : Queue). q.flights) queues place queue

-- and where the queue has the same messages
pub flights_of_same : (queues : List Queue) (place : ℕ) (queue d : Queue) →
    queue.flights ≡ (get_or queues place d).flights → flights_of (slice_set queues place queue) ≡ flights_of queues
flights_of_same queues place queue d same = map-set_same (λ (q : Queue). q.flights) queues place queue d same

pub flights_at_queue : (queues : List Queue) (place : ℕ) (d : Queue) → place < length queues →
    flights_at (flights_of queues) place ≡ (get_or queues place d).flights
flights_at_queue [] place d lt = absurd (omega arith)
flights_at_queue (queue ∷ queues) zero d lt = refl
flights_at_queue (queue ∷ queues) (suc place) d lt = flights_at_queue queues place d (omega arith)

-- a queue that has room is there, with it
pub room_of : (queues : List Queue) (place : ℕ) (d : Queue) → HasRoom queues place →
    QueueHasRoom (get_or queues place d)
room_of [] place d has = absurd has
room_of (queue ∷ queues) zero d has = has
room_of (queue ∷ queues) (suc place) d has = room_of queues place d has

-- a queue with room
pub has_room : (queues : List Queue) (place : ℕ) (queue : Queue) → place < length queues → QueueHasRoom queue →
    HasRoom (slice_set queues place queue) place
has_room [] place queue lt room = absurd (omega arith)
has_room (q ∷ queues) zero queue lt room = room
has_room (q ∷ queues) (suc place) queue lt room = has_room queues place queue (omega arith) room

-- every queue keeps its room where the replaced one does
pub keeps_room : (queues : List Queue) (place : ℕ) (queue d : Queue) →
    (QueueHasRoom (get_or queues place d) → QueueHasRoom queue) → (other : ℕ) → HasRoom queues other →
    HasRoom (slice_set queues place queue) other
keeps_room [] place queue d keeps other has = has
keeps_room (q ∷ queues) zero queue d keeps zero has = keeps has
keeps_room (q ∷ queues) zero queue d keeps (suc other) has = has
keeps_room (q ∷ queues) (suc place) queue d keeps zero has = has
keeps_room (q ∷ queues) (suc place) queue d keeps (suc other) has = keeps_room queues place queue d keeps other has

-- ---- what the steps on queues cite

pub ruleset reserving = (flights_of_same, has_room, keeps_room)

pub ruleset pushing = (flights_of_set, flights_at_queue, room_of)

pub ruleset removing = (flights_of_set, flights_at_queue, keeps_room)
