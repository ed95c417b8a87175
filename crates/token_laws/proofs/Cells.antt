-- How many messages of a kind are in flight between two hosts, after an event.
use Rattle.std.proofs.Common.{◌≡◌, ◌∙◌, ℕ, ◌+◌, ◌≤◌, Bool, true, false, List, [], ◌∷◌, ◌++◌}
use Rattle.std.proofs.Common.{Option, Some, None, refl, ap, sym, arith}
use Rattle.std.specs.Prelude.{slice_get, remove, sum_by, if◌then◌else◌, ◌==◌, ◌&&◌}
use Rattle.std.proofs.lemmas.List.Sums.{sum_by_push, sum_by-le-sum_by}
use Rattle.js_base.specs.declared.ids.HostId.{HostId}
use Rattle.host_code.specs.declared.message.Message.{Message}
use Rattle.host_core.specs.Host.{Letter}
use Rattle.net_world.specs.Flying.{Flight, Flying, with_flights}
use Rattle.net_world.specs.World.{WorldShape, misbehaves, without_flight, after_sending, after_telling, after_posting}
use Rattle.net_world.specs.World.{letter_of}
use Rattle.net_world.proofs.Present.{same_id}
use Rattle.token_laws.proofs.Counting.{any, one_if}
use Rattle.token_laws.proofs.Counting.{between}
use Rattle.token_laws.proofs.Sums.{removed_at, other_cell, same_cell}
use Rattle.token_laws.proofs.Tests.{one_at_most, parts_same, number_same}

-- whether two hosts are this pair
abbrev pub is_pair : HostId → HostId → HostId → HostId → Bool
is_pair one other from to = one.0 == from.0 && other.0 == to.0

-- of a message from a host, how many of a kind it is between two hosts
abbrev pub posted : (Message → Bool) → HostId → HostId → HostId → Option (HostId × Message) → ℕ
posted kind one other from None = 0
posted kind one other from (Some letter) = one_if (is_pair one other from letter.0 && kind letter.1)

-- ---- one pair's messages changed

pair_is : (one other from to : HostId) → is_pair one other from to ≡ true → (one ≡ from) × (other ≡ to)
pair_is one other from to is =
    let parts = parts_same _ _ is in (
      same_id one from (number_same one.0 from.0 parts.0),
      same_id other to (number_same other.0 to.0 parts.1),
    )

at_pair : (kind : Message → Bool) (flying : Flying) (flights : List Flight) (one other from to : HostId) →
    is_pair one other from to ≡ true →
    (between kind (with_flights flying from to flights) one other
    ≡ sum_by (λ flight. one_if (kind flight.message)) flights)
    × (between kind flying one other ≡ between kind flying from to)
at_pair kind flying flights one other from to is =
    let same = pair_is one other from to is in
    let of : List Flight → ℕ = sum_by (λ flight. one_if (kind flight.message)) in (
      ap (λ (h : HostId). between kind (with_flights flying from to flights) h other) same.0
          ∙ ap (λ (h : HostId). between kind (with_flights flying from to flights) from h) same.1
          ∙ ap of (same_cell flying from to flights),
      ap (λ (h : HostId). between kind flying h other) same.0 ∙ ap (between kind flying from) same.1,
    )

off_pair : (kind : Message → Bool) (flying : Flying) (flights : List Flight) (one other from to : HostId) →
    is_pair one other from to ≡ false →
    between kind (with_flights flying from to flights) one other ≡ between kind flying one other
off_pair kind flying flights one other from to apart =
    ap (sum_by (λ (flight : Flight). one_if (kind flight.message)))
    (other_cell flying from to one other flights apart)

-- one message less
fewer_if : (kind : Message → Bool) (flying : Flying) (one other from to : HostId) (place : ℕ) (flight : Flight)
    (pair : Bool) → slice_get (flying from to) place ≡ Some flight → is_pair one other from to ≡ pair →
    between kind (with_flights flying from to (remove (flying from to) place)) one other
    + one_if (pair && kind flight.message) ≡ between kind flying one other
fewer_if kind flying one other from to place flight true there is =
    let both = at_pair kind flying (remove (flying from to) place) one other from to is in
    let first = both.0 in
    let second = both.1 in
    let left = removed_at (λ (f : Flight). one_if (kind f.message)) (flying from to) place flight there in
    omega arith
fewer_if kind flying one other from to place flight false there is =
    let same = off_pair kind flying (remove (flying from to) place) one other from to is in
    omega arith

pub fewer : (kind : Message → Bool) (world : WorldShape) (one other from to : HostId) (place : ℕ) (flight : Flight) →
    slice_get (world.flying from to) place ≡ Some flight →
    between kind (without_flight world from to place).flying one other
    + one_if (is_pair one other from to && kind flight.message) ≡ between kind world.flying one other
fewer kind world one other from to place flight there =
    fewer_if kind world.flying one other from to place flight (is_pair one other from to) there refl

-- one message more
more_if : (kind : Message → Bool) (flying : Flying) (one other from to : HostId) (flight : Flight) (pair : Bool) →
    is_pair one other from to ≡ pair →
    between kind (with_flights flying from to (flying from to ++ flight ∷ [])) one other
    ≡ between kind flying one other + one_if (pair && kind flight.message)
more_if kind flying one other from to flight true is =
    let both = at_pair kind flying (flying from to ++ flight ∷ []) one other from to is in
    let first = both.0 in
    let second = both.1 in
    let push = sum_by_push (λ (f : Flight). one_if (kind f.message)) (flying from to) flight in
    omega arith
more_if kind flying one other from to flight false is =
    let same = off_pair kind flying (flying from to ++ flight ∷ []) one other from to is in
    omega arith

told_if : (kind : Message → Bool) (world : WorldShape) (one other from : HostId) (letter : Letter) (tells : Bool) →
    between kind (if tells then after_telling world from (Some (letter.to, letter.message))
    else after_posting world from letter).flying one other
    ≤ between kind world.flying one other + one_if (is_pair one other from letter.to && kind letter.message)
told_if kind world one other from letter true = omega arith
told_if kind world one other from letter false =
    let more =
    more_if kind world.flying one other from letter.to (record { message = letter.message; label = letter.label })
    (is_pair one other from letter.to) refl in
    omega arith

-- what is sent is in flight, or told a misbehaving host
pub sent : (kind : Message → Bool) (world : WorldShape) (one other from : HostId) (label : Option ℕ)
    (letter : Option (HostId × Message)) →
    between kind (after_sending world from (letter_of label letter)).flying one other
    ≤ between kind world.flying one other + posted kind one other from letter
sent kind world one other from None letter = omega arith
sent kind world one other from (Some label) None = omega arith
sent kind world one other from (Some label) (Some letter) =
    told_if kind world one other from (record { to = letter.0; message = letter.1; label = label })
    (misbehaves world letter.0)

-- nothing is put in flight to a misbehaving host
apart_from : (world : WorldShape) (one other from to : HostId) (pair : Bool) → misbehaves world other ≡ true →
    misbehaves world to ≡ false → is_pair one other from to ≡ pair → pair ≡ false
apart_from world one other from to true bad obeys is =
    let same : other ≡ to = (pair_is one other from to is).1 in
    let never : true ≡ false = sym bad ∙ ap (misbehaves world) same ∙ obeys in
    absurd (cc)
apart_from world one other from to false bad obeys is = refl

bad_if : (kind : Message → Bool) (world : WorldShape) (one other from : HostId) (letter : Letter) (tells : Bool) →
    misbehaves world other ≡ true → misbehaves world letter.to ≡ tells →
    between kind (if tells then after_telling world from (Some (letter.to, letter.message))
    else after_posting world from letter).flying one other ≡ between kind world.flying one other
bad_if kind world one other from letter true bad tells = refl
bad_if kind world one other from letter false bad tells =
    off_pair kind world.flying
    (world.flying from letter.to ++ record { message = letter.message; label = letter.label } ∷ []) one other from
    letter.to (apart_from world one other from letter.to (is_pair one other from letter.to) bad tells refl)

pub sent_to_bad : (kind : Message → Bool) (world : WorldShape) (one other from : HostId) (label : Option ℕ)
    (letter : Option (HostId × Message)) → misbehaves world other ≡ true →
    between kind (after_sending world from (letter_of label letter)).flying one other
    ≡ between kind world.flying one other
sent_to_bad kind world one other from None letter bad = refl
sent_to_bad kind world one other from (Some label) None bad = refl
sent_to_bad kind world one other from (Some label) (Some letter) bad =
    bad_if kind world one other from (record { to = letter.0; message = letter.1; label = label })
    (misbehaves world letter.0) bad refl

-- a kind is part of all
pub of_all : (kind : Message → Bool) (flying : Flying) (one other : HostId) →
    between kind flying one other ≤ between any flying one other
of_all kind flying one other =
    sum_by-le-sum_by (λ (f : Flight). one_if (kind f.message)) (λ (f : Flight). one_if (any f.message))
    (flying one other) (λ f. one_at_most (kind f.message))
