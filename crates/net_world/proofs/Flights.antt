-- Messages beside their labels, in two lists of one length.
use Rattle.std.proofs.Common.{◌≡◌, ℕ, zero, suc, List, [], ◌∷◌, ◌++◌, length, map, refl, ap, sym, ◌<◌, get_or, arith}
use Rattle.std.proofs.Common.{Some, None}
use Rattle.std.specs.Prelude.{slice_get, remove}
use Rattle.host_code.specs.declared.message.Message.{Message}
use Rattle.net_world.specs.Flying.{Flight, flights_with}

pub messages_of_flights : (messages : List Message) (labels : List ℕ) → length messages ≡ length labels →
    map (λ (flight : Flight). flight.message) (flights_with messages labels) ≡ messages
messages_of_flights [] labels same = refl
messages_of_flights (message ∷ messages) [] same = absurd (omega arith)
messages_of_flights (message ∷ messages) (label ∷ labels) same =
    ap (λ rest. message ∷ rest) (messages_of_flights messages labels (omega arith))

pub length_flights : (messages : List Message) (labels : List ℕ) → length messages ≡ length labels →
    length (flights_with messages labels) ≡ length messages
length_flights [] labels same = refl
length_flights (message ∷ messages) [] same = absurd (omega arith)
length_flights (message ∷ messages) (label ∷ labels) same = ap suc (length_flights messages labels (omega arith))

pub flights_push : (messages : List Message) (labels : List ℕ) (message : Message) (label : ℕ) →
    length messages ≡ length labels →
    flights_with (messages ++ message ∷ []) (labels ++ label ∷ [])
    ≡ flights_with messages labels ++ record { message = message; label = label } ∷ []
flights_push [] [] message label same = refl
flights_push [] (other ∷ labels) message label same = absurd (omega arith)
flights_push (first ∷ messages) [] message label same = absurd (omega arith)
flights_push (first ∷ messages) (other ∷ labels) message label same =
    ap (λ rest. record { message = first; label = other } ∷ rest)
    (flights_push messages labels message label (omega arith))

pub flights_remove : (messages : List Message) (labels : List ℕ) (place : ℕ) → length messages ≡ length labels →
    flights_with (remove messages place) (remove labels place) ≡ remove (flights_with messages labels) place
flights_remove [] [] zero same = refl
flights_remove [] [] (suc place) same = refl
flights_remove [] (other ∷ labels) place same = absurd (omega arith)
flights_remove (first ∷ messages) [] place same = absurd (omega arith)
flights_remove (first ∷ messages) (other ∷ labels) zero same = refl
flights_remove (first ∷ messages) (other ∷ labels) (suc place) same =
    ap (λ rest. record { message = first; label = other } ∷ rest)
    (flights_remove messages labels place (omega arith))

pub flights_get : (messages : List Message) (labels : List ℕ) (place : ℕ) (message : Message) (label : ℕ) →
    slice_get messages place ≡ Some message → slice_get labels place ≡ Some label →
    slice_get (flights_with messages labels) place ≡ Some (record { message = message; label = label })
flights_get [] labels place message label there beside = absurd (cc)
flights_get (first ∷ messages) [] place message label there beside = absurd (cc)
flights_get (first ∷ messages) (other ∷ labels) zero message label there beside =
    let is : first ≡ message = cc in
    let at : other ≡ label = cc in
    rw (is, at) refl
flights_get (first ∷ messages) (other ∷ labels) (suc place) message label there beside =
    flights_get messages labels place message label there beside

-- what stands beside each other at a place
pub flights_get_no_message : (messages : List Message) (labels : List ℕ) (place : ℕ) →
    slice_get messages place ≡ None → slice_get (flights_with messages labels) place ≡ None
flights_get_no_message [] labels place none = refl
flights_get_no_message (first ∷ messages) [] place none = refl
flights_get_no_message (first ∷ messages) (other ∷ labels) zero none = absurd (cc)
flights_get_no_message (first ∷ messages) (other ∷ labels) (suc place) none =
    flights_get_no_message messages labels place none

pub flights_get_no_label : (messages : List Message) (labels : List ℕ) (place : ℕ) →
    slice_get labels place ≡ None → slice_get (flights_with messages labels) place ≡ None
flights_get_no_label [] labels place none = refl
flights_get_no_label (first ∷ messages) [] place none = refl
flights_get_no_label (first ∷ messages) (other ∷ labels) zero none = absurd (cc)
flights_get_no_label (first ∷ messages) (other ∷ labels) (suc place) none =
    flights_get_no_label messages labels place none

-- what stands at a place has the label of that place
pub label_there : (messages : List Message) (labels : List ℕ) (place label : ℕ) → length messages ≡ length labels →
    place < length labels → label ≡ get_or labels place label → (flight : Flight)
    × (slice_get (flights_with messages labels) place ≡ Some flight) × (flight.label ≡ label)
label_there [] labels place label same lt is = absurd (omega arith)
label_there (first ∷ messages) [] place label same lt is = absurd (omega arith)
label_there (first ∷ messages) (other ∷ labels) zero label same lt is =
    (record { message = first; label = other }, refl, sym is)
label_there (first ∷ messages) (other ∷ labels) (suc place) label same lt is =
    label_there messages labels place label (omega arith) (omega arith) is

pub ruleset flights = (
  messages_of_flights,
  length_flights,
  flights_push,
  flights_remove,
  flights_get,
  flights_get_no_message,
  flights_get_no_label,
)
