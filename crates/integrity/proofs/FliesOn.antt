-- Messages in flight after an event: each that is not taken is in flight still, and what holds of each, by who sent it
-- and where it comes to, holds of each after the event where it holds of what is sent.
use Rattle.std.proofs.Common.{◌≡◌, ◌≢◌, ◌∙◌, ℕ, Bool, true, false, List, [], ◌∷◌, ◌++◌, Option, Some, None}
use Rattle.std.proofs.Common.{refl, sym, ap, subst}
use Rattle.std.specs.Prelude.{◌==◌, ◌&&◌, if◌then◌else◌, remove, slice_get, All, IfSome}
use Rattle.std.proofs.lemmas.List.Elements.{All-push}
use Rattle.js_base.specs.declared.ids.HostId.{HostId}
use Rattle.host_code.specs.declared.message.Message.{Message}
use Rattle.host_core.specs.Host.{Letter}
use Rattle.net_world.specs.Flying.{Flight, Flying, with_flights}
use Rattle.net_world.specs.World.{WorldShape, misbehaves, without_flight, after_sending, after_telling, after_posting}
use Rattle.net_world.specs.World.{letter_of}
use Rattle.net_world.proofs.Present.{same_id}
use Rattle.token_laws.proofs.HostNumbers.{all_but}
use Rattle.token_laws.proofs.Tests.{number_same}
use Rattle.integrity.specs.Holding.{IsAmong}
use Rattle.integrity.proofs.Among.{among_push, among_without}

-- ---- one pair of hosts

-- what holds of the new messages from a host to a host, and of the others, holds of all
cell : (P : List Flight → HostId → HostId → Type 0) (flying : Flying) (from to : HostId) (flights : List Flight)
    (one other : HostId) (b c : Bool) → (one.0 == from.0) ≡ b → (other.0 == to.0) ≡ c →
    (one ≡ from → other ≡ to → P flights one other) → P (flying one other) one other →
    P (if b && c then flights else flying one other) one other
cell P flying from to flights one other true true first second new old =
    new (same_id one from (number_same one.0 from.0 first)) (same_id other to (number_same other.0 to.0 second))
cell P flying from to flights one other true false first second new old = old
cell P flying from to flights one other false c first second new old = old

with_new : (P : List Flight → HostId → HostId → Type 0) (flying : Flying) (from to : HostId) (flights : List Flight)
    (one other : HostId) → (one ≡ from → other ≡ to → P flights one other) → P (flying one other) one other →
    P (with_flights flying from to flights one other) one other
with_new P flying from to flights one other new old =
    cell P flying from to flights one other (one.0 == from.0) (other.0 == to.0) refl refl new old

-- ---- what stays in flight

-- what was in flight from a host to a host is in flight there
abbrev pub FliesOn : Flying → Flying → Type 0
FliesOn old new = (one other : HostId) (flight : Flight) → IsAmong (old one other) flight → IsAmong
    (new one other) flight

pub flies_without : (world : WorldShape) (from to : HostId) (place : ℕ) (one other : HostId) (flight : Flight) →
    (has : IsAmong (world.flying one other) flight) → (one ≡ from → other ≡ to → has.0 ≢ place) →
    IsAmong ((without_flight world from to place).flying one other) flight
flies_without world from to place one other flight has apart =
    with_new (λ flights i j. IsAmong flights flight) world.flying from to (remove
    (world.flying from to) place) one other
    (λ first second.
    among_without (world.flying from to) has.0 place flight
    (ap (λ h. slice_get (world.flying h to) has.0) (sym first) ∙ ap (λ h. slice_get (world.flying one h) has.0)
    (sym second) ∙ has.1) (apart first second)) has

posted_on : (world : WorldShape) (from : HostId) (letter : Letter) →
    FliesOn world.flying (after_posting world from letter).flying
posted_on world from letter one other flight has =
    with_new (λ flights i j. IsAmong flights flight) world.flying from letter.to _ one other
    (λ first second.
    among_push (world.flying from letter.to) _ flight
    (subst (λ h. IsAmong (world.flying h letter.to) flight) first
    (subst (λ h. IsAmong (world.flying one h) flight) second has))) has

either_on : (world : WorldShape) (from : HostId) (letter : Letter) (tells : Bool) →
    FliesOn world.flying (if tells then after_telling world from (Some (letter.to, letter.message))
    else after_posting world from letter).flying
either_on world from letter true one other flight has = has
either_on world from letter false one other flight has = posted_on world from letter one other flight has

pub sends_on : (world : WorldShape) (from : HostId) (label : Option ℕ) (sent : Option (HostId × Message)) →
    FliesOn world.flying (after_sending world from (letter_of label sent)).flying
sends_on world from None sent one other flight has = has
sends_on world from (Some label) None one other flight has = has
sends_on world from (Some label) (Some sent) one other flight has =
    either_on world from (record { to = sent.0; message = sent.1; label = label }) (misbehaves world sent.0) one other
    flight has

-- ---- what holds of each

abbrev pub FlyAs : (HostId → HostId → Message → Type 0) → Flying → Type 0
FlyAs P flying = (from to : HostId) → All (λ flight. P from to flight.message) (flying from to)

pub all_without : (P : HostId → HostId → Message → Type 0) (world : WorldShape) (from to : HostId) (place : ℕ) →
    FlyAs P world.flying → FlyAs P (without_flight world from to place).flying
all_without P world from to place has one other =
    with_new (λ flights i j. All (λ flight. P i j flight.message) flights) world.flying from to
    (remove (world.flying from to) place) one other
    (λ first second.
    subst (λ h. All (λ flight. P h other flight.message) (remove (world.flying from to) place)) (sym first)
    (subst (λ h. All (λ flight. P from h flight.message) (remove (world.flying from to) place)) (sym second)
    (all_but (λ flight. P from to flight.message) (world.flying from to) place (has from to)))) (has one other)

pub all_posted : (P : HostId → HostId → Message → Type 0) (world : WorldShape) (from : HostId) (letter : Letter) →
    FlyAs P world.flying → P from letter.to letter.message → FlyAs P (after_posting world from letter).flying
all_posted P world from letter has said one other =
    let new = world.flying from letter.to ++ record { message = letter.message; label = letter.label } ∷ [] in
    with_new (λ flights i j. All (λ flight. P i j flight.message) flights) world.flying from letter.to new one other
    (λ first second.
    subst (λ h. All (λ flight. P h other flight.message) new) (sym first)
    (subst (λ h. All (λ flight. P from h flight.message) new) (sym second)
    (All-push (λ flight. P from letter.to flight.message) (world.flying from letter.to) _ (has from letter.to) said)))
    (has one other)

either_all : (P : HostId → HostId → Message → Type 0) (world : WorldShape) (from : HostId) (letter : Letter)
    (tells : Bool) → FlyAs P world.flying → P from letter.to letter.message →
    FlyAs P (if tells then after_telling world from (Some (letter.to, letter.message))
    else after_posting world from letter).flying
either_all P world from letter true has said = has
either_all P world from letter false has said = all_posted P world from letter has said

pub all_sent : (P : HostId → HostId → Message → Type 0) (world : WorldShape) (from : HostId) (label : Option ℕ)
    (sent : Option (HostId × Message)) → FlyAs P world.flying → IfSome sent (λ letter. P from letter.0 letter.1) →
    FlyAs P (after_sending world from (letter_of label sent)).flying
all_sent P world from None sent has said = has
all_sent P world from (Some label) None has said = has
all_sent P world from (Some label) (Some sent) has said =
    either_all P world from (record { to = sent.0; message = sent.1; label = label }) (misbehaves world sent.0) has said
