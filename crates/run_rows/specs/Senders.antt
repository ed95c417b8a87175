-- Which event sent a message that is in flight. The numbers of events stand beside the messages, in the same order: for
-- each pair of hosts at the place of its queue, the oldest first. What is taken out of a queue is taken out there too.
use Rattle.std.specs.Prelude.{◌≡◌, ℕ, ◌<◌, List, [], ◌∷◌, ◌++◌, length, remove, replicate, slice_get, slice_set}
use Rattle.std.specs.Prelude.{Option, Some, None, unwrap_or}
use Rattle.js_base.specs.declared.ids.HostId.{HostId}
use Rattle.js_base.specs.declared.limits.TheConstants.{HOSTS}
use Rattle.event_text.specs.declared.event.Event.{Event}
use Rattle.event_text.specs.declared.event.Event.TheVariants.{Take}
use Rattle.net_world.specs.Flying.{Flight, Flying, with_flights, pair_place}
use Rattle.net_world.specs.World.{WorldShape, mover}
use Rattle.run_rows.specs.declared.senders.TheConstants.{PAIRS}

abbrev pub senders_at : List (List ℕ) → HostId → HostId → List ℕ
senders_at senders from to = unwrap_or (slice_get senders (pair_place from to)) []

-- nothing is in flight
abbrev pub no_senders : List (List ℕ)
no_senders = replicate PAIRS []

-- the number of the event that sent what is taken
abbrev pub sender_of : List (List ℕ) → Event → Option ℕ
sender_of senders (Take from to place) = slice_get (senders_at senders from to) place
sender_of senders _ = None

-- what is taken is no longer in flight
abbrev pub senders_left : List (List ℕ) → Event → List (List ℕ)
senders_left senders (Take from to place) =
    slice_set senders (pair_place from to) (remove (senders_at senders from to) place)
senders_left senders _ = senders

-- the event of this number sent a message that is in flight, if it sent one
abbrev pub senders_with : List (List ℕ) → HostId → Option HostId → ℕ → List (List ℕ)
senders_with senders from None number = senders
senders_with senders from (Some to) number =
    slice_set senders (pair_place from to) (senders_at senders from to ++ number ∷ [])

abbrev pub senders_after : List (List ℕ) → Event → Option HostId → ℕ → List (List ℕ)
senders_after senders event posts number = senders_with (senders_left senders event) (mover event) posts number

-- ---- what is in flight

-- what stays in flight in an event
abbrev pub flying_left : WorldShape → Event → Flying
flying_left world (Take from to place) =
    with_flights world.flying from to (remove (world.flying from to) place)
flying_left world _ = world.flying

-- to whom the event's host sent a message that is in flight now, if it sent one
abbrev pub IsPosting : WorldShape → Event → WorldShape → Option HostId → Type 0
IsPosting world event next None = next.flying ≡ flying_left world event
IsPosting world event next (Some to) =
    (flight : Flight)
    × (next.flying
    ≡ with_flights (flying_left world event) (mover event) to
    (flying_left world event (mover event) to ++ flight ∷ []))

-- the numbers stand beside what is in flight
abbrev pub AreBeside : List (List ℕ) → Flying → Type 0
AreBeside senders flying =
    (length senders ≡ PAIRS)
    × ((from to : HostId) → from.0 < HOSTS → to.0 < HOSTS →
    length (senders_at senders from to) ≡ length (flying from to))

-- ---- in the program

-- more is in flight than has numbers
abbrev pub IsLonger : List (List ℕ) → WorldShape → HostId → HostId → Type 0
IsLonger senders world from to = length (senders_at senders from to) < length (world.flying from to)
