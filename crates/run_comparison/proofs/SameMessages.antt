-- Whether two messages or two events are the same can be decided: a message is made again of its parts and its token.
use Rattle.std.proofs.Common.{◌≡◌, ◌∙◌, ℕ, zero, suc, ℤ, pos, negsuc, ◌==◌, List, [], ◌∷◌, drop, get_or, inl, inr, refl}
use Rattle.std.proofs.Common.{sym}
use Rattle.std.proofs.Common.{ap, Bool, false, ◌&&◌, int_eq, Option, Some, None}
use Rattle.std.specs.Prelude.{◌↔◌, IsTrue, if◌then◌else◌, unwrap_or}
use Rattle.std.specs.Bool.{Decides}
use Rattle.std.specs.Cmp.{unsigned_Decides}
use Rattle.std.proofs.lemmas.Bool.{cases_eq, and_parts, and_from}
use Rattle.std.proofs.lemmas.Bool.Decides.{Decides-int_eq}
use Rattle.js_base.proofs.Decisions.{Decided, as_well, both, same_text}
use Rattle.js_base.specs.declared.ids.FrameId.{FrameId}
use Rattle.js_base.specs.declared.ids.HostId.{HostId}
use Rattle.capability.specs.declared.token.Token.{Token}
use Rattle.event_text.specs.declared.event.Event.{Event}
use Rattle.event_text.specs.declared.event.Event.TheVariants.{Take, Turn, Act}
use Rattle.event_text.specs.declared.event.BadMessage.{BadMessage}
use Rattle.event_text.specs.declared.event.BadMessage.TheVariants as bad
use Rattle.event_text.specs.declared.event.BadToken.{BadToken}
use Rattle.event_text.specs.declared.event.BadToken.TheVariants.{Sent, Own}
use Rattle.entry_check.proofs.Decisions.{same_host}
use Rattle.host_code.specs.declared.message.Message.{Message}
use Rattle.host_code.specs.declared.message.Message.TheVariants as message
use Rattle.host_code.specs.Riders.{Rider}
use Rattle.net_world.specs.Told.{SentMessage}
use Rattle.run_comparison.specs.declared.message_parts.Parts.{Parts}
use Rattle.run_comparison.specs.MessageParts.{parts_of, parts_made, token_of, token_made, riders_in, riders_made}

-- what is written in numbers and made of them again is decided
by_numbers : {X : Type 0} (numbers : X → List ℕ) (made : List ℕ → X) → ((x : X) → made (numbers x) ≡ x) → (x y : X) →
    Decided (x ≡ y)
by_numbers numbers made again x y =
    as_well (numbers x ≡ numbers y) (x ≡ y) (λ same. sym (again x) ∙ ap made same ∙ again y) (ap numbers)
    (same_text (numbers x) (numbers y))

abbrev number_at : List ℕ → ℕ → ℕ
number_at numbers place = get_or numbers place 0

-- ---- parts

-- a number is written as its sign and its size
abbrev sign : ℤ → ℕ
sign (pos n) = 0
sign (negsuc n) = 1

abbrev size : ℤ → ℕ
size (pos n) = n
size (negsuc n) = n

abbrev signed : ℕ → ℕ → ℤ
signed zero n = pos n
signed (suc s) n = negsuc n

signed_again : (value : ℤ) → signed (sign value) (size value) ≡ value
signed_again (pos n) = refl
signed_again (negsuc n) = refl

abbrev frame_at : List ℕ → ℕ → FrameId
frame_at numbers place = record { site = record { 0 = number_at numbers place }; count = number_at numbers (suc place) }

abbrev host_at : List ℕ → ℕ → HostId
host_at numbers place = record { 0 = number_at numbers place }

abbrev token_numbers : Token → List ℕ
token_numbers token =
    token.host.0 ∷ token.frame.site.0 ∷ token.frame.count ∷ token.entry.0 ∷ token.serial ∷ token.tag

abbrev token_in : List ℕ → Token
token_in numbers =
    record {
      host = host_at numbers 0;
      frame = frame_at numbers 1;
      entry = record { 0 = number_at numbers 3 };
      serial = number_at numbers 4;
      tag = drop 5 numbers;
    }

-- the parts of a message, in numbers
abbrev parts_numbers : Parts → List ℕ
parts_numbers parts =
    parts.kind ∷ parts.request.at ∷ parts.request.count ∷ parts.frame.site.0 ∷ parts.frame.count ∷ parts.named
    ∷ sign parts.index ∷ size parts.index ∷ sign parts.value ∷ size parts.value ∷ []

abbrev parts_in : List ℕ → Parts
parts_in numbers =
    record {
      kind = number_at numbers 0;
      request = record { at = number_at numbers 1; count = number_at numbers 2 };
      frame = frame_at numbers 3;
      named = number_at numbers 5;
      index = signed (number_at numbers 6) (number_at numbers 7);
      value = signed (number_at numbers 8) (number_at numbers 9);
    }

parts_again : (parts : Parts) → parts_in (parts_numbers parts) ≡ parts
parts_again parts =
    ap (λ i. record parts { index = i; value = signed (sign parts.value) (size parts.value) })
    (signed_again parts.index)
    ∙ ap (λ v. record parts { value = v }) (signed_again parts.value)

same_parts : (one other : Parts) → Decided (one ≡ other)
same_parts = by_numbers parts_numbers parts_in parts_again

token_again : (token : Token) → token_in (token_numbers token) ≡ token
token_again token = refl

pub same_option : {X : Type 0} → ((x y : X) → Decided (x ≡ y)) → (one other : Option X) → Decided (one ≡ other)
same_option each None None = inl refl
same_option each None (Some y) = inr (λ is. cc)
same_option each (Some x) None = inr (λ is. cc)
same_option each (Some x) (Some y) =
    as_well (x ≡ y) (Some x ≡ Some y) (ap (λ it. Some it)) (λ is. let same : x ≡ y = cc in same) (each x y)

-- ---- what rides

abbrev riders_numbers : List Rider → List ℕ
riders_numbers [] = []
riders_numbers (rider ∷ riders) = rider.0.0 ∷ sign rider.1 ∷ size rider.1 ∷ riders_numbers riders

abbrev riders_from_numbers : List ℕ → List Rider
riders_from_numbers (variable ∷ below ∷ far ∷ numbers) =
    (record { 0 = variable }, signed below far) ∷ riders_from_numbers numbers
riders_from_numbers numbers = []

riders_again : (riders : List Rider) → riders_from_numbers (riders_numbers riders) ≡ riders
riders_again [] = refl
riders_again (rider ∷ riders) =
    ap (λ value. (rider.0, value) ∷ riders_from_numbers (riders_numbers riders)) (signed_again rider.1)
    ∙ ap (λ others. rider ∷ others) (riders_again riders)

same_riders : (one other : List Rider) → Decided (one ≡ other)
same_riders = by_numbers riders_numbers riders_from_numbers riders_again

-- `==` tells which values ride
pub rider_told : (one other : Rider) → Decides ((one.0.0 == other.0.0) && int_eq one.1 other.1) (one ≡ other)
rider_told one other =
    let variable = unsigned_Decides one.0.0 other.0.0 in
    let value = Decides-int_eq one.1 other.1 in (
      λ is. let parts = and_parts (one.0.0 == other.0.0) (int_eq one.1 other.1) is in
          let first : one.0.0 ≡ other.0.0 = variable.0 parts.0 in
          let second : one.1 ≡ other.1 = value.0 parts.1 in
          λ i. (record { 0 = first i }, second i),
      λ same. and_from (one.0.0 == other.0.0) (int_eq one.1 other.1)
          (variable.1 (ap (λ (it : Rider). it.0.0) same)) (value.1 (ap (λ (it : Rider). it.1) same)),
    )

-- ---- tests in two parts

-- the first parts are the same, and the second decide
pub tells_rest : {X Y Same : Type 0} (x other a also : X) (y another b too : Y) (rest : Bool) → x ≡ a → other ≡ also →
    y ≡ b → another ≡ too → x ≡ other → (IsTrue rest ↔ (y ≡ another)) → (((a ≡ also) × (b ≡ too)) ↔ Same) →
    IsTrue rest ↔ Same
tells_rest x other a also y another b too rest here there one two same exact way = (
  λ holds. way.0 (sym here ∙ same ∙ there, sym one ∙ exact.0 holds ∙ two),
  λ holds. exact.1 (one ∙ (way.1 holds).1 ∙ sym two),
)

-- the first parts are not the same
pub tells_none : {X Same Second : Type 0} (x other a also : X) → x ≡ a → other ≡ also → ¬ (x ≡ other) →
    (((a ≡ also) × Second) ↔ Same) → IsTrue false ↔ Same
tells_none x other a also here there apart way =
    (λ holds. absurd (cc), λ holds. absurd (apart (here ∙ (way.1 holds).0 ∙ sym there)))

-- ---- messages

-- a message of these parts and this token, with which these values ride
abbrev message_in : Parts → Option Token → List Rider → Message
message_in parts token riders =
    let it = unwrap_or token (token_in []) in
    if parts.kind == 1 then message.Get parts.request (record { 0 = parts.named }) parts.index
    else (if parts.kind == 2 then message.Set parts.request (record { 0 = parts.named }) parts.index parts.value
    else (if parts.kind == 3 then message.Forward parts.request parts.frame (record { 0 = parts.named }) parts.value
    else (if parts.kind == 4 then message.Sync parts.request parts.frame (record { 0 = parts.named }) it
    else (if parts.kind == 5 then message.Rgoto parts.frame (record { 0 = parts.named }) it
    else (if parts.kind == 6 then message.Lgoto it
    else (if parts.kind == 7 then message.Value parts.request parts.value
    else (if parts.kind == 8 then message.Ack parts.request
    else (if parts.kind == 9 then message.Token parts.request it
    else message.RgotoWith parts.frame (record { 0 = parts.named }) it riders))))))))

message_again : (it : Message) → message_in (parts_of it) (token_of it) (riders_in it) ≡ it
message_again (message.Get request field index) = refl
message_again (message.Set request field index value) = refl
message_again (message.Forward request frame variable value) = refl
message_again (message.Sync request frame entry token) = refl
message_again (message.Rgoto frame entry token) = refl
message_again (message.RgotoWith frame entry token riders) = refl
message_again (message.Lgoto token) = refl
message_again (message.Value request value) = refl
message_again (message.Ack request) = refl
message_again (message.Token request token) = refl

pub one_message : (one other : Message) →
    (((parts_of one ≡ parts_of other) × (token_of one ≡ token_of other)) × (riders_in one ≡ riders_in other))
    ↔ (one ≡ other)
one_message one other = (
  λ same. sym (message_again one) ∙ ap (λ parts. message_in parts (token_of one) (riders_in one)) same.0.0
      ∙ ap (λ token. message_in (parts_of other) token (riders_in one)) same.0.1
      ∙ ap (message_in (parts_of other) (token_of other)) same.1 ∙ message_again other,
  λ same. ((ap parts_of same, ap token_of same), ap riders_in same),
)

same_message : (one other : Message) → Decided (one ≡ other)
same_message one other =
    let way = one_message one other in
    as_well _ _ way.0 way.1
    (both _ _ (both _ _ (same_parts (parts_of one) (parts_of other))
    (same_option (by_numbers token_numbers token_in token_again) (token_of one) (token_of other)))
    (same_riders (riders_in one) (riders_in other)))

pub same_sent : (one other : SentMessage) → Decided (one ≡ other)
same_sent one other =
    as_well ((one.0 ≡ other.0) × ((one.1 ≡ other.1) × (one.2 ≡ other.2))) (one ≡ other)
    (λ same i. (same.0 i, same.1.0 i, same.1.1 i))
    (λ same. (
      ap (λ (it : SentMessage). it.0) same,
      (ap (λ (it : SentMessage). it.1) same, ap (λ (it : SentMessage). it.2) same),
    ))
    (both _ _ (same_host one.0 other.0) (both _ _ (same_host one.1 other.1) (same_message one.2 other.2)))

-- ---- messages of misbehaving hosts

abbrev bad_token_numbers : BadToken → List ℕ
bad_token_numbers (Sent number) = 0 ∷ number ∷ []
bad_token_numbers (Own token) = 1 ∷ token_numbers token

abbrev bad_token_in : List ℕ → BadToken
bad_token_in numbers =
    if number_at numbers 0 == 0 then Sent (number_at numbers 1) else Own (token_in (drop 1 numbers))

bad_token_again : (token : BadToken) → bad_token_in (bad_token_numbers token) ≡ token
bad_token_again (Sent number) = refl
bad_token_again (Own token) = refl

abbrev made_in : Parts → Option BadToken → List Rider → BadMessage
made_in parts token riders =
    let it = unwrap_or token (Sent 0) in
    if parts.kind == 1 then bad.Get parts.request (record { 0 = parts.named }) parts.index
    else (if parts.kind == 2 then bad.Set parts.request (record { 0 = parts.named }) parts.index parts.value
    else (if parts.kind == 3 then bad.Forward parts.request parts.frame (record { 0 = parts.named }) parts.value
    else (if parts.kind == 4 then bad.Sync parts.request parts.frame (record { 0 = parts.named }) it
    else (if parts.kind == 5 then bad.Rgoto parts.frame (record { 0 = parts.named }) it
    else (if parts.kind == 6 then bad.Lgoto it
    else (if parts.kind == 7 then bad.Value parts.request parts.value
    else (if parts.kind == 8 then bad.Ack parts.request
    else (if parts.kind == 9 then bad.Token parts.request it
    else bad.RgotoWith parts.frame (record { 0 = parts.named }) it riders))))))))

made_again : (it : BadMessage) → made_in (parts_made it) (token_made it) (riders_made it) ≡ it
made_again (bad.Get request field index) = refl
made_again (bad.Set request field index value) = refl
made_again (bad.Forward request frame variable value) = refl
made_again (bad.Sync request frame entry token) = refl
made_again (bad.Rgoto frame entry token) = refl
made_again (bad.RgotoWith frame entry token riders) = refl
made_again (bad.Lgoto token) = refl
made_again (bad.Value request value) = refl
made_again (bad.Ack request) = refl
made_again (bad.Token request token) = refl

pub one_made : (one other : BadMessage) →
    (((parts_made one ≡ parts_made other) × (token_made one ≡ token_made other)) × (riders_made one ≡ riders_made other))
    ↔ (one ≡ other)
one_made one other = (
  λ same. sym (made_again one) ∙ ap (λ parts. made_in parts (token_made one) (riders_made one)) same.0.0
      ∙ ap (λ token. made_in (parts_made other) token (riders_made one)) same.0.1
      ∙ ap (made_in (parts_made other) (token_made other)) same.1 ∙ made_again other,
  λ same. ((ap parts_made same, ap token_made same), ap riders_made same),
)

same_bad : (one other : BadMessage) → Decided (one ≡ other)
same_bad one other =
    let way = one_made one other in
    as_well _ _ way.0 way.1
    (both _ _ (both _ _ (same_parts (parts_made one) (parts_made other))
    (same_option (by_numbers bad_token_numbers bad_token_in bad_token_again) (token_made one) (token_made other)))
    (same_riders (riders_made one) (riders_made other)))

-- ---- events

abbrev from_of : Event → HostId
from_of (Take from to place) = from
from_of (Turn host) = host
from_of (Act from to made) = from

abbrev to_of : Event → HostId
to_of (Take from to place) = to
to_of (Turn host) = host
to_of (Act from to made) = to

abbrev place_of : Event → ℕ
place_of (Take from to place) = place
place_of _ = 0

abbrev made_of : Event → BadMessage
made_of (Act from to made) = made
made_of _ = bad.Ack (record { at = 0; count = 0 })

pub same_event : (one other : Event) → Decided (one ≡ other)
same_event (Take from to place) (Take by at other) =
    as_well _ _ (λ same. cc) (λ same. (ap from_of same, (ap to_of same, ap place_of same)))
    (both _ _ (same_host from by) (both _ _ (same_host to at) (cases_eq place other)))
same_event (Turn host) (Turn other) = as_well _ _ (ap Turn) (ap to_of) (same_host host other)
same_event (Act from to made) (Act by at other) =
    as_well _ _ (λ same. cc) (λ same. (ap from_of same, (ap to_of same, ap made_of same)))
    (both _ _ (same_host from by) (both _ _ (same_host to at) (same_bad made other)))
same_event (Take from to place) (Turn other) = inr (λ same. cc)
same_event (Take from to place) (Act by at made) = inr (λ same. cc)
same_event (Turn host) (Take by at other) = inr (λ same. cc)
same_event (Turn host) (Act by at made) = inr (λ same. cc)
same_event (Act from to made) (Take by at other) = inr (λ same. cc)
same_event (Act from to made) (Turn other) = inr (λ same. cc)
