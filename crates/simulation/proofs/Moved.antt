-- What a step of one host changes in a world where all obey and at most one message is in flight.
use Rattle.std.proofs.Common.{◌≡◌, ◌∙◌, ℕ, zero, suc, Bool, true, false, List, [], ◌∷◌}
use Rattle.std.proofs.Common.{◌++◌, Some, refl, ap, sym}
use Rattle.std.specs.Prelude.{slice_get, remove, ◌==◌, ◌&&◌, if◌then◌else◌}
use Rattle.std.proofs.lemmas.Bool.{eq-eqb}
use Rattle.js_base.specs.declared.ids.HostId.{HostId}
use Rattle.host_code.specs.declared.message.Message.{Message}
use Rattle.host_core.specs.Host.{HostState, Outcome, with_message}
use Rattle.net_world.specs.Flying.{Flight, Flying, with_flights}
use Rattle.net_world.specs.World.{WorldShape, state_at, misbehaves}
use Rattle.net_world.specs.World.{without_flight, after_step}
use Rattle.net_world.proofs.Moved.{Moved, moved_posted}
use Rattle.net_world.proofs.Present.{same_id}
use Rattle.typed_steps.proofs.Basics.{told_equal}
use Rattle.simulation.proofs.Simulates.{nothing, only}

-- ---- what a step sends

-- a step that sends a message where nothing else is in flight
pub moved_telling : (world : WorldShape) (host : HostId) (outcome : Outcome) (old state : HostState) (to : HostId)
    (message : Message) (label : ℕ) (after : WorldShape) → state_at world host ≡ Some old →
    ((host : HostId) → misbehaves world host ≡ false) → world.flying ≡ nothing →
    with_message state to message ≡ outcome → after_step world host outcome (Some label) ≡ after →
    Moved world host state (only host to (record { message = message; label = label } ∷ [])) after
moved_telling world host outcome old state to message label after obeys none flying is leaves =
    let flight : Flight = record { message = message; label = label } in
    let posted =
    moved_posted world host outcome old state to message (Some label) label after obeys (none to) refl is leaves in
    record {
      hosts = posted.moved.hosts;
      flying = posted.moved.flying ∙ ap (λ (f : Flying). with_flights f host to (f host to ++ flight ∷ [])) flying;
    }

-- ---- what is taken

pub none_taken : (world : WorldShape) (from to : HostId) (place : ℕ) (flight : Flight) → world.flying ≡ nothing →
    slice_get (world.flying from to) place ≡ Some flight → ⊥
none_taken world from to place flight flying there =
    let empty : List Flight = [] in
    let none : slice_get empty place ≡ Some flight =
    sym (ap (λ (f : Flying). slice_get (f from to) place) flying) ∙ there in
    cc

pub record IsOne (from to : HostId) (place : ℕ) (flight : Flight) (from' to' : HostId) (flight' : Flight) : Type 0 where
  pub from_is : from ≡ from'
  pub to_is : to ≡ to'
  pub place_is : place ≡ 0
  pub flight_is : flight ≡ flight'

first_place : (place : ℕ) (flight other : Flight) → slice_get (other ∷ []) place ≡ Some flight →
    (place ≡ 0) × (flight ≡ other)
first_place zero flight other there = let same : other ≡ flight = cc in (refl, sym same)
first_place (suc place) flight other there = absurd (cc)

one_cell : (from to from' to' : HostId) (place : ℕ) (flight flight' : Flight) (first second : Bool) →
    (first ≡ true → from.0 ≡ from'.0) → (second ≡ true → to.0 ≡ to'.0) →
    slice_get (if first && second then flight' ∷ [] else []) place ≡ Some flight →
    IsOne from to place flight from' to' flight'
one_cell from to from' to' place flight flight' true true one other there =
    let is = first_place place flight flight' there in
    record {
      from_is = same_id from from' (one refl);
      to_is = same_id to to' (other refl);
      place_is = is.0;
      flight_is = is.1;
    }
one_cell from to from' to' place flight flight' true false one other there = absurd (cc)
one_cell from to from' to' place flight flight' false second one other there = absurd (cc)

pub the_one : (world : WorldShape) (from to from' to' : HostId) (place : ℕ) (flight flight' : Flight) →
    world.flying ≡ only from' to' (flight' ∷ []) → slice_get (world.flying from to) place ≡ Some flight →
    IsOne from to place flight from' to' flight'
the_one world from to from' to' place flight flight' flying there =
    one_cell from to from' to' place flight flight' (from.0 == from'.0) (to.0 == to'.0) (told_equal from.0 from'.0)
    (told_equal to.0 to'.0) (sym (ap (λ (f : Flying). slice_get (f from to) place) flying) ∙ there)

emptied_cell : (b : Bool) (flights others : List Flight) → flights ≡ [] →
    (if b then flights else (if b then others else [])) ≡ []
emptied_cell true flights others none = none
emptied_cell false flights others none = refl

pub own_cell : (from to : HostId) (flights : List Flight) → only from to flights from to ≡ flights
own_cell from to flights = rw (eq-eqb from.0 from.0 refl, eq-eqb to.0 to.0 refl) refl

-- nothing is in flight once the only message was taken
pub emptied : (world : WorldShape) (from to : HostId) (flight : Flight) → world.flying ≡ only from to (flight ∷ []) →
    (without_flight world from to 0).flying ≡ nothing
emptied world from to flight flying =
    ap (λ (f : Flying). with_flights f from to (remove (f from to) 0)) flying
    ∙ (λ t i j. emptied_cell (i.0 == from.0 && j.0 == to.0) (remove (only from to (flight ∷ []) from to) 0)
    (flight ∷ []) (ap (λ (list : List Flight). remove list 0) (own_cell from to (flight ∷ []))) t)
