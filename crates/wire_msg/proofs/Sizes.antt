-- How many bytes each reader takes, and that it refuses only fewer.
use Rattle.std.proofs.Common.{◌≡◌, inl, inr, ℕ, zero, suc, ◌+◌, ◌*◌, ◌<◌, ◌≤◌, Bool, true, List, [], ◌∷◌, ◌++◌, length}
use Rattle.std.proofs.Common.{take, drop, Option, Some, None, Ok, Err, refl, ap, subst, ◌∙◌, arith}
use Rattle.std.specs.Prelude.{⊤, nat_lt, slice_index}
use Rattle.std.specs.Int.{Width, w32, w64, byte_len, from_be_bytes}
use Rattle.std.proofs.lemmas.Bool.{cases_lt, lt-ltb, le-ltb}
use Rattle.std.proofs.lemmas.List.{length-drop, drop-drop, get_or-drop}
use Rattle.js_base.specs.declared.limits.TheConstants.{HOSTS}
use Rattle.capability.specs.declared.tags.TheConstants.{TAG_BYTES}
use Rattle.capability.specs.declared.token.Token.{Token}
use Rattle.host_code.specs.declared.message.Message.{Message}
use Rattle.host_code.specs.Riders.{Rider}
use Rattle.byte_format.specs.Reader.{handed_on, sequel, given, byte_at, bytes_at, number_at, integer_at, items_at}
use Rattle.wire_msg.specs.declared.error.WireError.TheVariants as refusal
use Rattle.wire_msg.specs.declared.riding.Riding.{Riding}
use Rattle.wire_msg.specs.declared.frame.Frame.TheVariants as frame
use Rattle.wire_msg.specs.Frames.{has_host}
use Rattle.wire_msg.specs.Reader.{WireReader}
use Rattle.wire_msg.specs.Reading.{field_at, variable_at, entry_at, request_at, frame_id_at, token_at, get_at, set_at}
use Rattle.wire_msg.specs.Reading.{forward_at, sync_at, rgoto_at, lgoto_at, value_at, ack_at, answer_at, riding_at}
use Rattle.wire_msg.specs.Reading.{rider_at}
use Rattle.wire_msg.specs.Faults.{PAIR_BYTES, has_host_at}

-- a reader takes so many of these bytes, of which what it reads is known, or finds too few
pub record Takes {A : Type 0} (reader : WireReader A) (count : ℕ) (P : A → List ℕ → Type 0) (bytes : List ℕ) : Type 0
  where
    pub short : length bytes < count → reader bytes ≡ Err refusal.Short
    pub long : count ≤ length bytes → (x : A) × (reader bytes ≡ Ok (x, drop count bytes)) × P x bytes

-- of any bytes
abbrev pub Sized : {A : Type 0} → WireReader A → ℕ → (A → List ℕ → Type 0) → Type 0
Sized reader count P = (bytes : List ℕ) → Takes reader count P bytes

abbrev pub Any : {A : Type 0} → A → List ℕ → Type 0
Any x bytes = ⊤

-- ---- readers in a row

pub sized_then : {A B : Type 0} {first : WireReader A} {next : A → WireReader B} {n m : ℕ} {P : A → List ℕ → Type 0}
    {Q : A → B → List ℕ → Type 0} (R : B → List ℕ → Type 0) → Sized first n P → ((x : A) → Sized (next x) m (Q x)) →
    ((x : A) (y : B) (bytes : List ℕ) → P x bytes → Q x y (drop n bytes) → R y bytes) →
    Sized (sequel first next) (n + m) R
unfolding sequel
sized_then {first = first} {next = next} {n = n} {m = m} R one others then_is bytes = record {
  short = λ lt.
      elim (cases_lt (length bytes) n) [
        | inl few ↦ ap (λ reading. handed_on reading next) ((one bytes).short few)
        | inr many ↦
            let found = (one bytes).long many in
            ap (λ reading. handed_on reading next) found.1
            ∙ (others found.0 (drop n bytes)).short (omega (arith, length-drop n bytes))
      ];
  long = λ le.
      let found = (one bytes).long (omega arith) in
      let more = (others found.0 (drop n bytes)).long (omega (arith, length-drop n bytes)) in (
        more.0,
        ap (λ reading. handed_on reading next) found.1 ∙ more.1 ∙ ap (λ rest. Ok (more.0, rest)) (drop-drop m n bytes),
        then_is found.0 more.0 bytes found.2 more.2,
      );
}

-- the last reader of a row
pub sized_last : {A B : Type 0} {first : WireReader A} (f : A → B) {n : ℕ} {P : A → List ℕ → Type 0}
    (R : B → List ℕ → Type 0) → Sized first n P → ((x : A) (bytes : List ℕ) → P x bytes → R (f x) bytes) →
    Sized (sequel first (λ x. given (f x))) n R
unfolding sequel given
sized_last f R one then_is bytes = record {
  short = λ lt. ap (λ reading. handed_on reading (λ x. given (f x))) ((one bytes).short lt);
  long = λ le.
      let found = (one bytes).long le in (
        f found.0,
        ap (λ reading. handed_on reading (λ x. given (f x))) found.1,
        then_is found.0 bytes found.2,
      );
}

any_then : {A B : Type 0} {first : WireReader A} {next : A → WireReader B} {n m : ℕ} → Sized first n Any →
    ((x : A) → Sized (next x) m Any) → Sized (sequel first next) (n + m) Any
any_then one others = sized_then Any one others (λ x y bytes p q. tt)

any_last : {A B : Type 0} {first : WireReader A} (f : A → B) {n : ℕ} → Sized first n Any →
    Sized (sequel first (λ x. given (f x))) n Any
any_last f one = sized_last f Any one (λ x bytes p. tt)

-- ---- numbers

byte_sized : Sized (byte_at refusal.Short) 1 (λ byte bytes. byte ≡ slice_index bytes 0)
unfolding byte_at
byte_sized [] = record { short = λ lt. refl; long = λ le. absurd (omega arith) }
byte_sized (byte ∷ bytes) = record { short = λ lt. absurd (omega arith); long = λ le. (byte, refl, refl) }

pub bytes_sized : (count : ℕ) → Sized (bytes_at refusal.Short count) count (λ xs bytes. xs ≡ take count bytes)
unfolding bytes_at
bytes_sized count bytes = record {
  short = λ lt. rw (lt-ltb (length bytes) count lt) refl;
  long = λ le. (take count bytes, rw (le-ltb (length bytes) count le) refl, refl);
}

number_sized : (width : Width) → Sized (number_at refusal.Short width) (byte_len width) Any
unfolding number_at
number_sized width bytes = record {
  short = λ lt. rw (lt-ltb (length bytes) (byte_len width) lt) refl;
  long = λ le. (
    from_be_bytes width (take (byte_len width) bytes),
    rw (le-ltb (length bytes) (byte_len width) le) refl,
    tt,
  );
}

four : Sized (number_at refusal.Short w32) 4 Any
four = number_sized w32

eight : Sized (number_at refusal.Short w64) 8 Any
eight = number_sized w64

integer_sized : Sized (integer_at refusal.Short) 8 Any
unfolding integer_at
integer_sized = any_last _ eight

-- ---- what messages name

field_sized : Sized field_at 4 Any
unfolding field_at
field_sized = any_last _ four

variable_sized : Sized variable_at 4 Any
unfolding variable_at
variable_sized = any_last _ four

entry_sized : Sized entry_at 4 Any
unfolding entry_at
entry_sized = any_last _ four

request_sized : Sized request_at 12 Any
unfolding request_at
request_sized = any_then four (λ at. any_last _ eight)

frame_id_sized : Sized frame_id_at 12 Any
unfolding frame_id_at
frame_id_sized = any_then four (λ site. any_last _ eight)

-- the host comes first
token_sized : Sized token_at 41 (λ token bytes. token.host.0 ≡ slice_index bytes 0)
unfolding token_at
token_sized =
    sized_then (λ token bytes. token.host.0 ≡ slice_index bytes 0) byte_sized (λ host.
    sized_then (IsOn host) frame_id_sized (λ id.
    sized_then (IsOn host) entry_sized (λ entry.
    sized_then (IsOn host) eight (λ serial.
    sized_last _ (IsOn host) (bytes_sized TAG_BYTES) (λ tag bytes p. refl))
    (λ x y bytes p q. q)) (λ x y bytes p q. q)) (λ x y bytes p q. q)) (λ host token bytes p q. q ∙ p)
  where
    IsOn : ℕ → Token → List ℕ → Type 0
    IsOn host token bytes = token.host.0 ≡ host

-- ---- messages

-- a frame names a host that there may be just where the byte at the place is one
abbrev pub Named : {A : Type 0} → (A → Bool) → Option ℕ → A → List ℕ → Type 0
Named has place x bytes = has x ≡ has_host_at place bytes

abbrev pub has_message_host : Message → Bool
has_message_host sent = has_host (frame.Message sent)

-- a place behind so many bytes
abbrev behind : ℕ → Option ℕ → Option ℕ
behind n None = None
behind n (Some place) = Some (n + place)

has_host_behind : (n : ℕ) (place : Option ℕ) (bytes : List ℕ) →
    has_host_at place (drop n bytes) ≡ has_host_at (behind n place) bytes
has_host_behind n None bytes = refl
has_host_behind n (Some place) bytes = ap (λ byte. nat_lt byte HOSTS) (get_or-drop n bytes place 0)

named_then : {A : Type 0} {first : WireReader A} {next : A → WireReader Message} {n m : ℕ} (place : Option ℕ) →
    Sized first n Any → ((x : A) → Sized (next x) m (Named has_message_host place)) →
    Sized (sequel first next) (n + m) (Named has_message_host (behind n place))
named_then {n = n} place one others =
    sized_then (Named has_message_host (behind n place)) one others
    (λ x y bytes p q. q ∙ has_host_behind n place bytes)

-- the last of a message without a token, and the token of a message
named_last : {A : Type 0} {first : WireReader A} (f : A → Message) {n : ℕ} → Sized first n Any →
    ((x : A) → has_message_host (f x) ≡ true) →
    Sized (sequel first (λ x. given (f x))) n (Named has_message_host None)
named_last f one is = sized_last f (Named has_message_host None) one (λ x bytes p. is x)

named_token : (f : Token → Message) → ((x : Token) → has_message_host (f x) ≡ nat_lt x.host.0 HOSTS) →
    Sized (sequel token_at (λ x. given (f x))) 41 (Named has_message_host (Some 0))
named_token f is =
    sized_last f (Named has_message_host (Some 0)) token_sized (λ x bytes p. is x ∙ ap (λ byte. nat_lt byte HOSTS) p)

pub get_sized : Sized get_at 24 (Named has_message_host None)
unfolding get_at
get_sized =
    named_then None request_sized (λ request. named_then None field_sized (λ field.
    named_last _ integer_sized (λ index. refl)))

pub set_sized : Sized set_at 32 (Named has_message_host None)
unfolding set_at
set_sized =
    named_then None request_sized (λ request. named_then None field_sized (λ field.
    named_then None integer_sized (λ index. named_last _ integer_sized (λ value. refl))))

pub forward_sized : Sized forward_at 36 (Named has_message_host None)
unfolding forward_at
forward_sized =
    named_then None request_sized (λ request. named_then None frame_id_sized (λ id.
    named_then None variable_sized (λ variable. named_last _ integer_sized (λ value. refl))))

pub sync_sized : Sized sync_at 69 (Named has_message_host (Some 28))
unfolding sync_at
sync_sized =
    named_then (Some 16) request_sized (λ request. named_then (Some 4) frame_id_sized (λ id.
    named_then (Some 0) entry_sized (λ entry. named_token _ (λ token. refl))))

pub rgoto_sized : Sized rgoto_at 57 (Named has_message_host (Some 16))
unfolding rgoto_at
rgoto_sized =
    named_then (Some 4) frame_id_sized (λ id. named_then (Some 0) entry_sized (λ entry.
    named_token _ (λ token. refl)))

pub lgoto_sized : Sized lgoto_at 41 (Named has_message_host (Some 0))
unfolding lgoto_at
lgoto_sized = named_token _ (λ token. refl)

pub value_sized : Sized value_at 20 (Named has_message_host None)
unfolding value_at
value_sized = named_then None request_sized (λ request. named_last _ integer_sized (λ value. refl))

pub ack_sized : Sized ack_at 12 (Named has_message_host None)
unfolding ack_at
ack_sized = named_last _ request_sized (λ request. refl)

pub answer_sized : Sized answer_at 53 (Named has_message_host (Some 12))
unfolding answer_at
answer_sized = named_then (Some 0) request_sized (λ request. named_token _ (λ token. refl))

-- ---- what rides

-- the host of the token and the count stand at these places
abbrev pub Counted : ℕ → ℕ → Riding → List ℕ → Type 0
Counted host count riding bytes =
    (riding.token.host.0 ≡ slice_index bytes host) × (riding.count ≡ slice_index bytes count)

pub riding_sized : Sized riding_at 58 (Counted 16 57)
unfolding riding_at
riding_sized =
    sized_then (Counted 16 57) frame_id_sized (λ id.
    sized_then (Counted 4 45) entry_sized (λ entry.
    sized_then (Counted 0 41) token_sized (λ token.
    sized_last _ (CountedWith token) byte_sized (λ count bytes p. (refl, p)))
    (λ token riding bytes p q. (q.0 ∙ p, q.1 ∙ get_or-drop 41 bytes 0 0)))
    (λ entry riding bytes p q. (q.0 ∙ get_or-drop 4 bytes 0 0, q.1 ∙ get_or-drop 4 bytes 41 0)))
    (λ id riding bytes p q. (q.0 ∙ get_or-drop 12 bytes 4 0, q.1 ∙ get_or-drop 12 bytes 45 0))
  where
    CountedWith : Token → Riding → List ℕ → Type 0
    CountedWith token riding bytes =
        (riding.token.host.0 ≡ token.host.0) × (riding.count ≡ slice_index bytes 0)

rider_sized : Sized rider_at 12 Any
unfolding rider_at
rider_sized = any_then variable_sized (λ variable. any_last _ integer_sized)

nothing_more : (before : List Rider) → Sized (given before) 0 Any
unfolding given
nothing_more before bytes = record { short = λ lt. absurd (omega arith); long = λ le. (before, refl, tt) }

pub riders_sized : (before : List Rider) (count : ℕ) →
    Sized (items_at (λ _. rider_at) before count) (PAIR_BYTES * count) Any
unfolding items_at
riders_sized before zero bytes = nothing_more before bytes
riders_sized before (suc count) bytes =
    let all : 12 + PAIR_BYTES * count ≡ PAIR_BYTES * suc count = omega arith in
    subst (λ n. Takes (items_at (λ _. rider_at) before (suc count)) n Any bytes) all
    (any_then rider_sized (λ next. riders_sized (before ++ next ∷ []) count) bytes)
