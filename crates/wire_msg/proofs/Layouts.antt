-- What the fields of each kind are refused for is what their layout says.
use Rattle.std.proofs.Common.{◌≡◌, inl, inr, ℕ, ◌*◌, Bool, true, false, List, [], ◌∷◌, length, drop, Option, Some, None}
use Rattle.std.proofs.Common.{Result, Ok, refl, sym, ap, ap₂, ◌∙◌, arith}
use Rattle.std.specs.Prelude.{if◌then◌else◌, ◌==◌, nat_lt}
use Rattle.std.proofs.lemmas.Bool.{cases_lt, lt-ltb, le-ltb}
use Rattle.js_base.specs.declared.ids.HostId.{HostId}
use Rattle.js_base.specs.declared.limits.TheConstants.{HOSTS}
use Rattle.host_code.specs.declared.message.Message.{Message}
use Rattle.host_code.specs.declared.message.Message.TheVariants as message
use Rattle.host_code.specs.Riders.{Rider}
use Rattle.byte_format.specs.Reader.{handed_on, sequel, given, refused, require, items_at}
use Rattle.wire_msg.specs.declared.error.WireError.{WireError}
use Rattle.wire_msg.specs.declared.error.WireError.TheVariants as refusal
use Rattle.wire_msg.specs.declared.frame.Frame.{Frame}
use Rattle.wire_msg.specs.declared.frame.Frame.TheVariants as frame
use Rattle.wire_msg.specs.declared.riding.Riding.{Riding}
use Rattle.wire_msg.specs.Frames.{has_host, may_ride}
use Rattle.wire_msg.specs.Reader.{WireReader, to_the_end}
use Rattle.wire_msg.specs.Reading.{rider_at, rgoto_with_at, message_at, some_message_at, fields_at}
use Rattle.wire_msg.specs.Faults.{Layout, without_token, with_pairs, message_layout, layout_of, left_fault, PAIR_BYTES}
use Rattle.wire_msg.specs.Faults.{pairs_fault, fields_fault, fault_in}
use Rattle.wire_msg.proofs.Sizes.{Sized, Named, has_message_host, get_sized, set_sized, forward_sized, sync_sized}
use Rattle.wire_msg.proofs.Sizes.{rgoto_sized, lgoto_sized, value_sized, ack_sized, answer_sized, riding_sized}
use Rattle.wire_msg.proofs.Sizes.{riders_sized}

-- what is read behind the fields
abbrev pub named_by : HostId → Frame → WireReader (HostId × Frame)
named_by from sent = sequel (require (has_host sent) refusal.BadField) (λ _. given (from, sent))

-- why a body is refused of whose fields this was read
abbrev pub fault_behind : HostId → Result (Frame × List ℕ) WireError → Option WireError
fault_behind from reading = fault_in (to_the_end (handed_on reading (named_by from)))

ends : (from : HostId) (sent : Frame) (test : Bool) (left : List ℕ) →
    fault_in (to_the_end (handed_on (require test refusal.BadField left)
    (λ _. given {A = HostId × Frame} (from, sent)))) ≡ (if test then left_fault left else Some refusal.BadField)
unfolding require given
ends from sent true [] = refl
ends from sent true (byte ∷ bytes) = refl
ends from sent false left = refl

-- what was read is followed by this
ended : (from : HostId) (sent : Frame) (left : List ℕ) →
    fault_behind from (Ok (sent, left)) ≡ (if has_host sent then left_fault left else Some refusal.BadField)
unfolding sequel
ended from sent left = ends from sent (has_host sent) left

abbrev as_frame : Message → WireReader Frame
as_frame sent = given (frame.Message sent)

-- the same of the fields of a message
abbrev message_fault : HostId → Result (Message × List ℕ) WireError → Option WireError
message_fault from reading = fault_behind from (handed_on reading as_frame)

message_ended : (from : HostId) (sent : Message) (left : List ℕ) →
    message_fault from (Ok (sent, left))
    ≡ (if has_message_host sent then left_fault left else Some refusal.BadField)
unfolding given
message_ended from sent left = ended from (frame.Message sent) left

-- ---- kinds of messages

-- fields that this reader takes are refused as the layout says
record IsLaid (layout : Option Layout) (reader : WireReader Message) (fields : List ℕ) : Type 0 where
  is : (from : HostId) → message_fault from (reader fields) ≡ fields_fault layout fields

laid_if : {one other : Option Layout} {first second : WireReader Message} {fields : List ℕ} (test : Bool) →
    IsLaid one first fields → IsLaid other second fields →
    IsLaid (if test then one else other) (if test then first else second) fields
laid_if true yes' no' = yes'
laid_if false yes' no' = no'

no_kind : (fields : List ℕ) → IsLaid None (refused refusal.BadKind) fields
unfolding refused
no_kind fields = record { is = λ from. refl }

-- so many bytes, all that there are
laid_out : (sure : ℕ) (token : Option ℕ) {reader : WireReader Message} {fields : List ℕ} →
    Sized reader sure (Named has_message_host token) →
    IsLaid (Some (record { sure = sure; token = token; count = None })) reader fields
laid_out sure token {fields = fields} sized = record {
  is = λ from.
      elim (cases_lt (length fields) sure) [
        | inl few ↦ rw (lt-ltb (length fields) sure few) (ap (message_fault from) ((sized fields).short few))
        | inr many ↦
            let found = (sized fields).long many in
            rw (le-ltb (length fields) sure many, sym found.2)
            (ap (message_fault from) found.1 ∙ message_ended from found.0 (drop sure fields))
      ];
}

-- ---- what rides

abbrev with_riders : Riding → List Rider → Message
with_riders riding riders = message.RgotoWith riding.frame riding.entry riding.token riders

-- what is read behind the count
abbrev pairs_behind : Riding → WireReader Message
pairs_behind riding =
    sequel (items_at (λ _. rider_at) [] riding.count) (λ riders. given (with_riders riding riders))

pairs_are : (from : HostId) (riding : Riding) (rest : List ℕ) → nat_lt riding.token.host.0 HOSTS ≡ true →
    message_fault from (pairs_behind riding rest)
    ≡ (if nat_lt (length rest) (PAIR_BYTES * riding.count) then Some refusal.Short
    else left_fault (drop (PAIR_BYTES * riding.count) rest))
unfolding sequel given
pairs_are from riding rest named =
    let size = PAIR_BYTES * riding.count in
    let sized = riders_sized [] riding.count rest in
    let then_all : Result (List Rider × List ℕ) WireError → Option WireError = λ reading.
    message_fault from (handed_on reading (λ riders. given (with_riders riding riders))) in
    elim (cases_lt (length rest) size) [
      | inl few ↦ rw (lt-ltb (length rest) size few) (ap then_all (sized.short few))
      | inr many ↦
          let found = sized.long many in
          rw (le-ltb (length rest) size many)
          (ap then_all found.1 ∙ message_ended from (with_riders riding found.0) (drop size rest)
          ∙ ap (λ test. if test then left_fault (drop size rest) else Some refusal.BadField) named)
    ]

-- what is read behind the token, whose host and the count are tested
tested : (from : HostId) (riding : Riding) (rest : List ℕ) (host few : Bool) →
    nat_lt riding.token.host.0 HOSTS ≡ host →
    message_fault from (handed_on (require host refusal.BadField rest)
    (λ _. sequel (require few refusal.BadField) (λ _. pairs_behind riding)))
    ≡ (if host then (if few then (if nat_lt (length rest) (PAIR_BYTES * riding.count) then Some refusal.Short
    else left_fault (drop (PAIR_BYTES * riding.count) rest)) else Some refusal.BadField) else Some refusal.BadField)
unfolding sequel require
tested from riding rest true true named = pairs_are from riding rest named
tested from riding rest true false named = refl
tested from riding rest false few named = refl

rgoto_with_laid : (fields : List ℕ) → IsLaid (Some (with_pairs 58 16 57)) rgoto_with_at fields
unfolding rgoto_with_at sequel
rgoto_with_laid fields = record {
  is = λ from.
      let tail : Riding → WireReader Message = λ riding.
      sequel (require (nat_lt riding.token.host.0 HOSTS) refusal.BadField)
      (λ _. sequel (require (may_ride riding.count) refusal.BadField) (λ _. pairs_behind riding)) in
      elim (cases_lt (length fields) 58) [
        | inl few ↦
            rw (lt-ltb (length fields) 58 few)
            (ap (λ reading. message_fault from (handed_on reading tail)) ((riding_sized fields).short few))
        | inr many ↦
            let found = (riding_sized fields).long many in
            let riding = found.0 in
            rw (le-ltb (length fields) 58 many)
            (ap (λ reading. message_fault from (handed_on reading tail)) found.1
            ∙ tested from riding (drop 58 fields) (nat_lt riding.token.host.0 HOSTS) (may_ride riding.count) refl
            ∙ ap₂ (λ host count. if nat_lt host HOSTS then pairs_fault count (drop 58 fields)
            else Some refusal.BadField) found.2.0 found.2.1)
      ];
}

-- ---- all kinds

message_laid : (kind : ℕ) (fields : List ℕ) → IsLaid (message_layout kind) (message_at kind) fields
unfolding message_at
message_laid kind fields =
    laid_if (kind == 1) (laid_out 24 None get_sized)
    (laid_if (kind == 2) (laid_out 32 None set_sized)
    (laid_if (kind == 3) (laid_out 36 None forward_sized)
    (laid_if (kind == 4) (laid_out 69 (Some 28) sync_sized)
    (laid_if (kind == 5) (laid_out 57 (Some 16) rgoto_sized)
    (laid_if (kind == 6) (laid_out 41 (Some 0) lgoto_sized)
    (laid_if (kind == 7) (laid_out 20 None value_sized)
    (laid_if (kind == 8) (laid_out 12 None ack_sized)
    (laid_if (kind == 9) (laid_out 53 (Some 12) answer_sized)
    (laid_if (kind == 11) (rgoto_with_laid fields) (no_kind fields))))))))))

done_or_laid : (from : HostId) (test : Bool) (kind : ℕ) (fields : List ℕ) →
    fault_behind from ((if test then given frame.Done else some_message_at kind) fields)
    ≡ fields_fault (if test then Some (without_token 0) else message_layout kind) fields
unfolding given some_message_at sequel
done_or_laid from true kind fields =
    rw (le-ltb (length fields) 0 (omega arith)) (ended from frame.Done fields)
done_or_laid from false kind fields = (message_laid kind fields).is from

pub fields_are : (from : HostId) (kind : ℕ) (fields : List ℕ) →
    fault_behind from (fields_at kind fields) ≡ fields_fault (layout_of kind) fields
unfolding fields_at
fields_are from kind fields = done_or_laid from (kind == 10) kind fields
