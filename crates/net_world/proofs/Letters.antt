-- What a change of one queue does to what is in flight.
use Rattle.std.proofs.Common.{◌≡◌, ◌≢◌, ℕ, zero, suc, ◌<◌, ◌≤◌, Bool, true, false, List, [], ◌∷◌, ◌++◌, length}
use Rattle.std.proofs.Common.{replicate}
use Rattle.std.proofs.Common.{Option, Some, refl, ap, sym, subst, ◌∙◌, arith}
use Rattle.std.specs.Prelude.{slice_set, remove, nat_lt, ◌==◌, ◌&&◌, if◌then◌else◌, unwrap_or}
use Rattle.std.proofs.lemmas.Bool.{lt-ltb}
use Rattle.std.proofs.lemmas.Bool.Decides.{nat_tests}
use Rattle.js_base.specs.declared.ids.HostId.{HostId}
use Rattle.host_code.specs.declared.message.Message.{Message}
use Rattle.net_world.specs.Flying.{Flight, Flying, Queue, with_flights, pair_place, flights_of, flights_at, flying_of}
use Rattle.net_world.specs.World.{WorldShape, misbehaves, after_sending, after_posting, letter_of}
use Rattle.net_world.specs.World.{without_flight}
use Rattle.net_world.specs.Fits.{WorldModel, world_of, states_of}
use Rattle.net_world.proofs.Present.{get_other}

at_same : (queues : List (List Flight)) (place : ℕ) (flights : List Flight) → place < length queues →
    flights_at (slice_set queues place flights) place ≡ flights
at_same [] place flights lt = absurd (omega arith)
at_same (queue ∷ queues) zero flights lt = refl
at_same (queue ∷ queues) (suc place) flights lt = at_same queues place flights (omega arith)

at_other : (queues : List (List Flight)) (place other : ℕ) (flights : List Flight) → other ≢ place →
    flights_at (slice_set queues place flights) other ≡ flights_at queues other
at_other queues place other flights ne = ap (λ o. unwrap_or o []) (get_other queues place other flights ne)

at_replicate : (n place : ℕ) → flights_at (replicate n []) place ≡ []
at_replicate zero place = refl
at_replicate (suc n) zero = refl
at_replicate (suc n) (suc place) = at_replicate n place

-- what is in flight between two hosts
pub flying_at : (count : ℕ) (queues : List (List Flight)) (from to : HostId) → from.0 < count → to.0 < count →
    flying_of count queues from to ≡ flights_at queues (pair_place from to)
flying_at count queues from to lt within = rw (lt-ltb from.0 count lt, lt-ltb to.0 count within) refl

set_cell : (count : ℕ) (queues : List (List Flight)) (from to i j : HostId) (flights : List Flight)
    (same there : Bool) →
    (i.0 == from.0 && j.0 == to.0) ≡ same → (nat_lt i.0 count && nat_lt j.0 count) ≡ there → count ≤ 16 →
    length queues ≡ 256 → from.0 < count → to.0 < count →
    (if there then flights_at (slice_set queues (pair_place from to) flights) (pair_place i j) else [])
    ≡ (if same then flights else (if there then flights_at queues (pair_place i j) else []))
set_cell count queues from to i j flights true true is within few pairs lt lt' =
    let first : i.0 ≡ from.0 = grind (arith, nat_tests) in
    let second : j.0 ≡ to.0 = grind (arith, nat_tests) in
    let place : pair_place from to ≡ pair_place i j = omega arith in
    subst (λ p. flights_at (slice_set queues (pair_place from to) flights) p ≡ flights) place
    (at_same queues (pair_place from to) flights (omega arith))
set_cell count queues from to i j flights true false is within few pairs lt lt' = absurd (grind (arith, nat_tests))
set_cell count queues from to i j flights false true is within few pairs lt lt' =
    at_other queues (pair_place from to) (pair_place i j) flights
    (λ place.
    let low : i.0 < count = grind (arith, nat_tests) in
    let low' : j.0 < count = grind (arith, nat_tests) in
    let first : i.0 ≡ from.0 = omega arith in
    let second : j.0 ≡ to.0 = omega arith in
    absurd (grind (arith, nat_tests)))
set_cell count queues from to i j flights false false is within few pairs lt lt' = refl

pub flying_set : (count : ℕ) (queues : List (List Flight)) (from to : HostId) (flights : List Flight) → count ≤ 16 →
    length queues ≡ 256 → from.0 < count → to.0 < count →
    flying_of count (slice_set queues (pair_place from to) flights)
    ≡ with_flights (flying_of count queues) from to flights
flying_set count queues from to flights few pairs lt lt' =
    λ t i j. set_cell count queues from to i j flights (i.0 == from.0 && j.0 == to.0)
    (nat_lt i.0 count && nat_lt j.0 count) refl refl few pairs lt lt' t

empty_cell : (n place : ℕ) (there : Bool) → (if there then flights_at (replicate n []) place else []) ≡ []
empty_cell n place true = at_replicate n place
empty_cell n place false = refl

pub flying_empty : (count n : ℕ) → flying_of count (replicate n []) ≡ (λ from to. [])
flying_empty count n = λ t i j. empty_cell n (pair_place i j) (nat_lt i.0 count && nat_lt j.0 count) t

length_flights_of : (queues : List Queue) → length (flights_of queues) ≡ length queues
length_flights_of [] = refl
length_flights_of (queue ∷ queues) = ap suc (length_flights_of queues)

-- ---- worlds

sending : (world : WorldShape) (from to : HostId) (message : Message) (label : ℕ) (labelled : Option ℕ)
    (sent : Option (HostId × Message)) → labelled ≡ Some label → sent ≡ Some (to, message) →
    misbehaves world to ≡ false →
    after_posting world from (record { to = to; message = message; label = label })
    ≡ after_sending world from (letter_of labelled sent)
sending world from to message label labelled sent with_label is_sent obeys = rw (with_label, is_sent, obeys) refl

-- a message was taken out
pub taken_out : (world : WorldModel) (after : List Queue) (from to : HostId) (place : ℕ) →
    length world.hosts ≤ 16 → length world.queues ≡ 256 → from.0 < length world.hosts → to.0 < length world.hosts →
    flights_of after ≡ slice_set (flights_of world.queues) (pair_place from to)
    (remove (flights_at (flights_of world.queues) (pair_place from to)) place) →
    world_of (record world { queues = after }) ≡ without_flight (world_of world) from to place
taken_out world after from to place few pairs lt lt' leaves =
    let count = length world.hosts in
    let queues = flights_of world.queues in
    let shape : Flying → WorldShape =
    λ flying. record { hosts = states_of world.hosts; flying = flying; sent = world.told.sent } in
    let many : length queues ≡ 256 = length_flights_of world.queues ∙ pairs in
    ap (λ (qs : List (List Flight)). shape (flying_of count qs)) leaves
    ∙ ap shape (flying_set count queues from to (remove (flights_at queues (pair_place from to)) place) few many lt lt')
    ∙ ap (λ (flights : List Flight). shape (with_flights (flying_of count queues) from to (remove flights place)))
    (sym (flying_at count queues from to lt lt'))

-- a message was put in flight
pub posted : (world : WorldModel) (after : List Queue) (from to : HostId) (message : Message) (label : ℕ)
    (labelled : Option ℕ) (sent : Option (HostId × Message)) →
    length world.hosts ≤ 16 → length world.queues ≡ 256 → from.0 < length world.hosts → to.0 < length world.hosts →
    labelled ≡ Some label → sent ≡ Some (to, message) → misbehaves (world_of world) to ≡ false →
    flights_of after ≡ slice_set (flights_of world.queues) (pair_place from to)
    (flights_at (flights_of world.queues) (pair_place from to) ++ record { message = message; label = label } ∷ []) →
    world_of (record world { queues = after }) ≡ after_sending (world_of world) from (letter_of labelled sent)
posted world after from to message label labelled sent few pairs lt lt' with_label is_sent obeys leaves =
    let count = length world.hosts in
    let queues = flights_of world.queues in
    let flight : Flight = record { message = message; label = label } in
    let shape : Flying → WorldShape =
    λ flying. record { hosts = states_of world.hosts; flying = flying; sent = world.told.sent } in
    let many : length queues ≡ 256 = length_flights_of world.queues ∙ pairs in
    let now : world_of (record world { queues = after })
    ≡ after_posting (world_of world) from (record { to = to; message = message; label = label }) =
    ap (λ (qs : List (List Flight)). shape (flying_of count qs)) leaves
    ∙ ap shape (flying_set count queues from to (flights_at queues (pair_place from to) ++ flight ∷ []) few many lt lt')
    ∙ ap (λ (flights : List Flight). shape (with_flights (flying_of count queues) from to (flights ++ flight ∷ [])))
    (sym (flying_at count queues from to lt lt')) in
    now ∙ sending (world_of world) from to message label labelled sent with_label is_sent obeys
