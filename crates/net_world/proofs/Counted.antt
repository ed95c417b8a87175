-- How many messages may not be seen, after a change.
use Rattle.std.proofs.Common.{◌≡◌, ℕ, zero, suc, ◌+◌, ◌≤◌, ◌<◌, Bool, true, false, List}
use Rattle.std.proofs.Common.{[], ◌∷◌, ◌++◌, length, refl, ap}
use Rattle.std.proofs.Common.{arith, Some, get_or, ◌∙◌}
use Rattle.std.specs.Prelude.{slice_get, remove, All, if◌then◌else◌, IsTrue}
use Rattle.host_code.specs.declared.message.Message.{Message}
use Rattle.net_world.specs.Flying.{Flight, flights_with, may_be_seen, one_if_hidden, hidden_in}
use Rattle.net_world.proofs.Flights.{flights_remove, label_there, length_flights}

one_at_most : (seen : Bool) → (if seen then 0 else 1) ≤ 1
one_at_most true = omega arith
one_at_most false = omega arith

pub hidden_few : (readable : List Bool) (flights : List Flight) → hidden_in readable flights ≤ length flights
hidden_few readable [] = omega arith
hidden_few readable (flight ∷ flights) =
    let first : one_if_hidden readable flight.label ≤ 1 = one_at_most (may_be_seen readable flight.label) in
    let rest : hidden_in readable flights ≤ length flights = hidden_few readable flights in
    omega arith

pub hidden_push : (readable : List Bool) (flights : List Flight) (flight : Flight) →
    hidden_in readable (flights ++ flight ∷ []) ≡ hidden_in readable flights + one_if_hidden readable flight.label
hidden_push readable [] flight = omega arith
hidden_push readable (first ∷ flights) flight =
    let rest = hidden_push readable flights flight in omega arith

pub hidden_remove : (readable : List Bool) (flights : List Flight) (place : ℕ) (flight : Flight) →
    slice_get flights place ≡ Some flight →
    hidden_in readable flights ≡ hidden_in readable (remove flights place) + one_if_hidden readable flight.label
hidden_remove readable [] place flight there = absurd (cc)
hidden_remove readable (first ∷ flights) zero flight there =
    let same : first ≡ flight = cc in
    let adds : one_if_hidden readable first.label ≡ one_if_hidden readable flight.label =
    ap (λ (f : Flight). one_if_hidden readable f.label) same in
    omega arith
hidden_remove readable (first ∷ flights) (suc place) flight there =
    let rest = hidden_remove readable flights place flight there in omega arith

-- none is hidden where each may be seen
pub none_hidden : (readable : List Bool) (flights : List Flight) →
    All (λ flight. IsTrue (may_be_seen readable flight.label)) flights → hidden_in readable flights ≡ 0
none_hidden readable [] all = refl
none_hidden readable (flight ∷ flights) all =
    let seen : may_be_seen readable flight.label ≡ true = all 0 flight (omega arith) in
    let adds : one_if_hidden readable flight.label ≡ 0 = ap (λ (b : Bool). if b then 0 else 1) seen in
    let rest = none_hidden readable flights (λ k d lt. all (suc k) d (omega arith)) in
    omega arith

seen_where_none : (seen : Bool) (adds : ℕ) → adds ≡ (if seen then 0 else 1) → adds ≡ 0 → seen ≡ true
seen_where_none true adds is none = refl
seen_where_none false adds is none = absurd (omega arith)

pub each_seen : (readable : List Bool) (flights : List Flight) → hidden_in readable flights ≡ 0 →
    All (λ flight. IsTrue (may_be_seen readable flight.label)) flights
each_seen readable [] none k d lt = absurd (omega arith)
each_seen readable (flight ∷ flights) none zero d lt =
    let first : one_if_hidden readable flight.label ≡ 0 = omega arith in
    seen_where_none (may_be_seen readable flight.label) (one_if_hidden readable flight.label) refl first
each_seen readable (flight ∷ flights) none (suc k) d lt =
    let rest : hidden_in readable flights ≡ 0 = omega arith in
    each_seen readable flights rest k d (omega arith)

-- what there was is what is left and what was taken out
pub taken_from : (readable : List Bool) (messages after : List Message) (labels rest : List ℕ)
    (place label hidden one : ℕ) → hidden ≡ hidden_in readable (flights_with messages labels) →
    length messages ≡ length labels → place < length (flights_with messages labels) →
    label ≡ get_or labels place label → after ≡ remove messages place → rest ≡ remove labels place →
    one ≡ one_if_hidden readable label → hidden ≡ hidden_in readable (flights_with after rest) + one
taken_from readable messages after labels rest place label hidden one counted same there at left labels_left adds =
    let long : length (flights_with messages labels) ≡ length messages = length_flights messages labels same in
    let found = label_there messages labels place label same (omega arith) at in
    let all = hidden_remove readable (flights_with messages labels) place found.0 found.1 in
    let removed : flights_with after rest ≡ remove (flights_with messages labels) place =
    ap (λ (m : List Message). flights_with m rest) left
    ∙ ap (λ (l : List ℕ). flights_with (remove messages place) l) labels_left
    ∙ flights_remove messages labels place same in
    let is = ap (hidden_in readable) removed in
    let own : one_if_hidden readable found.0.label ≡ one_if_hidden readable label =
    ap (one_if_hidden readable) found.2 in
    omega arith
