-- The first fault is what reading refuses bytes for.
use Rattle.std.proofs.Common.{◌≡◌, ℕ, Bool, true, false, List, [], ◌∷◌, length, take, drop, Some, Result, Ok, Err, refl}
use Rattle.std.proofs.Common.{sym, ap, ◌∙◌}
use Rattle.std.specs.Prelude.{if◌then◌else◌, nat_lt, nat_le}
use Rattle.std.specs.Int.{w32, from_be_bytes}
use Rattle.js_base.specs.declared.ids.HostId.{HostId}
use Rattle.js_base.specs.declared.limits.TheConstants.{HOSTS, FRAME_BYTES}
use Rattle.byte_format.specs.Reader.{handed_on, sequel, require, byte_at, bytes_at, number_at}
use Rattle.wire_msg.specs.declared.error.WireError.{WireError}
use Rattle.wire_msg.specs.declared.error.WireError.TheVariants as refusal
use Rattle.wire_msg.specs.declared.frame.Frame.{Frame}
use Rattle.wire_msg.specs.Reader.{WireReader, GivesWire, known, to_the_end, whole}
use Rattle.wire_msg.specs.Reading.{fields_at, sent_at, body_at, frame_at, reading_of}
use Rattle.wire_msg.specs.Faults.{layout_of, left_fault, fields_fault, body_fault, or_else, sized_fault, first_fault}
use Rattle.wire_msg.specs.Faults.{fault_in}
use Rattle.wire_msg.proofs.Layouts.{named_by, fields_are}

-- ---- a body

-- what is read behind the kind
abbrev kinded : HostId → ℕ → WireReader (HostId × Frame)
kinded from kind = sequel (fields_at kind) (named_by from)

sender_is : (test : Bool) (from : HostId) (kind : ℕ) (fields : List ℕ) →
    fault_in (to_the_end (handed_on (require test refusal.BadField fields) (λ _. kinded from kind)))
    ≡ (if test then fields_fault (layout_of kind) fields else Some refusal.BadField)
unfolding require sequel
sender_is true from kind fields = fields_are from kind fields
sender_is false from kind fields = refl

body_is : (body : List ℕ) → fault_in (whole sent_at body) ≡ body_fault body
unfolding whole sent_at sequel byte_at
body_is [] = refl
body_is (from ∷ []) = refl
body_is (from ∷ kind ∷ fields) = sender_is (nat_lt from HOSTS) (record { 0 = from }) kind fields

-- ---- a frame

abbrev opened : List ℕ → WireReader (HostId × Frame)
opened body = known (whole sent_at body)

left_is : (reading : Result (HostId × Frame) WireError) (rest : List ℕ) →
    fault_in (to_the_end (known reading rest)) ≡ or_else (fault_in reading) (left_fault rest)
unfolding known
left_is (Ok x) [] = refl
left_is (Ok x) (byte ∷ bytes) = refl
left_is (Err what) rest = refl

there_is : (test : Bool) (body rest : List ℕ) →
    fault_in (to_the_end (handed_on (if test then Err refusal.Short else Ok (body, rest)) opened))
    ≡ (if test then Some refusal.Short else or_else (body_fault body) (left_fault rest))
there_is true body rest = refl
there_is false body rest =
    left_is (whole sent_at body) rest ∙ ap (λ fault. or_else fault (left_fault rest)) (body_is body)

sized_is : (test : Bool) (len : ℕ) (rest : List ℕ) →
    fault_in (to_the_end (handed_on (handed_on (require test refusal.TooLong rest) (λ _. bytes_at refusal.Short len))
    opened)) ≡ (if test then (if nat_lt (length rest) len then Some refusal.Short
    else or_else (body_fault (take len rest)) (left_fault (drop len rest))) else Some refusal.TooLong)
unfolding require bytes_at
sized_is true len rest = there_is (nat_lt (length rest) len) (take len rest) (drop len rest)
sized_is false len rest = refl

-- what is read behind the length
abbrev body_behind : ℕ → WireReader (List ℕ)
body_behind len = sequel (require (nat_le len FRAME_BYTES) refusal.TooLong) (λ _. bytes_at refusal.Short len)

length_is : (test : Bool) (len : ℕ) (rest : List ℕ) →
    fault_in (to_the_end (handed_on (handed_on (if test then Err refusal.Short else Ok (len, rest)) body_behind)
    opened)) ≡ (if test then Some refusal.Short else sized_fault len rest)
unfolding sequel
length_is true len rest = refl
length_is false len rest = sized_is (nat_le len FRAME_BYTES) len rest

pub first_fault_is : (bytes : List ℕ) → fault_in (reading_of bytes) ≡ first_fault bytes
unfolding reading_of first_fault whole frame_at body_at sequel number_at
first_fault_is bytes = length_is (nat_lt (length bytes) 4) (from_be_bytes w32 (take 4 bytes)) (drop 4 bytes)

-- what a call answers that reads all of the bytes
answered : (answer reading : Result (HostId × Frame) WireError) → GivesWire (λ x. x) answer reading →
    fault_in answer ≡ fault_in reading
answered (Ok x) reading is = ap fault_in (sym is)
answered (Err what) reading is = ap fault_in (sym is)

pub cause_in : (bytes : List ℕ) (answer : Result (HostId × Frame) WireError) →
    GivesWire (λ x. x) answer (reading_of bytes) → fault_in answer ≡ first_fault bytes
cause_in bytes answer is = answered answer (reading_of bytes) is ∙ first_fault_is bytes
