-- What holds of each message in flight, and of each obeying host, holds after an event too where it holds of what the
-- event leaves and sends.
use Rattle.std.proofs.Common.{◌≡◌, ℕ, inl, inr, Bool, true, false, List, Option, Some, None, refl, sym, subst}
use Rattle.std.specs.Prelude.{slice_set, remove, All, IfSome, if◌then◌else◌, ◌==◌, ◌&&◌}
use Rattle.std.proofs.lemmas.List.Elements.{All-push}
use Rattle.js_base.specs.declared.ids.HostId.{HostId}
use Rattle.host_code.specs.declared.message.Message.{Message}
use Rattle.host_core.specs.Host.{HostState, Letter}
use Rattle.net_world.specs.Flying.{Flight, Flying, with_flights}
use Rattle.net_world.specs.World.{WorldShape, state_at, misbehaves, without_flight, after_sending, after_telling}
use Rattle.net_world.specs.World.{after_posting, letter_of}
use Rattle.net_world.proofs.Moved.{either}
use Rattle.token_laws.proofs.HostNumbers.{all_but}

-- ---- what is in flight

abbrev pub FlyWith : (Message → Type 0) → Flying → Type 0
FlyWith P flying = (from to : HostId) → All (λ flight. P flight.message) (flying from to)

cell_has : (P : Message → Type 0) (b : Bool) (flights other : List Flight) → All (λ flight. P flight.message) flights →
    All (λ flight. P flight.message) other → All (λ flight. P flight.message) (if b then flights else other)
cell_has P true flights other has also = has
cell_has P false flights other has also = also

changed : (P : Message → Type 0) (flying : Flying) (from to : HostId) (flights : List Flight) → FlyWith P flying →
    All (λ flight. P flight.message) flights → FlyWith P (with_flights flying from to flights)
changed P flying from to flights has also one other =
    cell_has P (one.0 == from.0 && other.0 == to.0) flights (flying one other) also (has one other)

-- one message was taken out
pub fly_without : (P : Message → Type 0) (world : WorldShape) (from to : HostId) (place : ℕ) →
    FlyWith P world.flying → FlyWith P (without_flight world from to place).flying
fly_without P world from to place has =
    changed P world.flying from to (remove (world.flying from to) place) has
    (all_but (λ (f : Flight). P f.message) (world.flying from to) place (has from to))

told : (P : Message → Type 0) (world : WorldShape) (from : HostId) (letter : Letter) (tells : Bool) →
    FlyWith P world.flying → P letter.message →
    FlyWith P (if tells then after_telling world from (Some (letter.to, letter.message))
    else after_posting world from letter).flying
told P world from letter true has said = has
told P world from letter false has said =
    changed P world.flying from letter.to _ has
    (All-push (λ flight. P flight.message) (world.flying from letter.to) _ (has from letter.to) said)

-- what is sent is in flight, or told a misbehaving host
pub fly_sent : (P : Message → Type 0) (world : WorldShape) (from : HostId) (label : Option ℕ)
    (sent : Option (HostId × Message)) → FlyWith P world.flying → IfSome sent (λ letter. P letter.1) →
    FlyWith P (after_sending world from (letter_of label sent)).flying
fly_sent P world from None sent has said = has
fly_sent P world from (Some label) None has said = has
fly_sent P world from (Some label) (Some sent) has said =
    told P world from (record { to = sent.0; message = sent.1; label = label }) (misbehaves world sent.0) has said

-- ---- the states

-- each obeying host has it
abbrev pub StatesHave : (HostState → Type 0) → WorldShape → Type 0
StatesHave P world = (host : HostId) → IfSome (state_at world host) P

pub of_state : (P : HostState → Type 0) (world : WorldShape) (host : HostId) (state : HostState) → StatesHave P world →
    state_at world host ≡ Some state → P state
of_state P world host state has obeys = subst (λ (o : Option HostState). IfSome o P) obeys (has host)

-- one host has changed
states_with : (P : HostState → Type 0) (world after : WorldShape) (me : HostId) (old state : HostState) →
    state_at world me ≡ Some old → after.hosts ≡ slice_set world.hosts me.0 (Some state) → StatesHave P world →
    P state → (host : HostId) (o : Option HostState) → state_at after host ≡ o → IfSome o P
states_with P world after me old state obeys puts has also host None is = tt
states_with P world after me old state obeys puts has also host (Some there) is =
    elim (either world after me old state after.flying obeys (record { hosts = puts; flying = refl }) host there is) [
      | inl mover ↦ subst P (sym mover.is) also
      | inr other ↦ of_state P world host there has other.obeys
    ]

pub states_after : (P : HostState → Type 0) (world after : WorldShape) (me : HostId) (old state : HostState) →
    state_at world me ≡ Some old → after.hosts ≡ slice_set world.hosts me.0 (Some state) → StatesHave P world →
    P state → StatesHave P after
states_after P world after me old state obeys puts has also host =
    states_with P world after me old state obeys puts has also host (state_at after host) refl
