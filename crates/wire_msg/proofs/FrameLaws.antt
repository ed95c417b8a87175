-- Laws of frames: what is read is spelled so, and what is spelled so is read.
use Rattle.std.proofs.Common.{◌≡◌, ◌≢◌, ◌⊎◌, inl, inr, ℕ, ◌<◌, ◌≤◌, true, false, List, [], ◌∷◌, ◌++◌, length, Result}
use Rattle.std.proofs.Common.{Ok, Err, refl, sym, ap, subst, ◌∙◌, arith}
use Rattle.std.specs.Prelude.{◌==◌, nat_lt, drop, IfOk}
use Rattle.std.proofs.lemmas.Bool.{ltb-true, lt-ltb, leb-true, le-leb, eqb-true}
use Rattle.std.proofs.lemmas.List.{append-nil}
use Rattle.js_base.specs.declared.ids.HostId.{HostId}
use Rattle.js_base.specs.declared.limits.TheConstants.{HOSTS, FRAME_BYTES}
use Rattle.host_code.specs.declared.message.Message.{Message}
use Rattle.host_code.specs.declared.message.Message.TheVariants as message
use Rattle.host_code.specs.Code.{CodeShape}
use Rattle.host_code.specs.Messages.{MessageFits}
use Rattle.byte_format.specs.Numbers.{AreBytes, number_bytes, word_bytes}
use Rattle.byte_format.specs.Reader.{sequel, given, require}
use Rattle.byte_format.proofs.NumberLaws.{byte_reads, byte_again, bytes_reads, bytes_again, number_reads, number_again}
use Rattle.byte_format.proofs.Sequels.{Reads, Again, ok_is, reads_then, reads_given, reads_last, reads_weaker}
use Rattle.byte_format.proofs.Sequels.{reads_require, reads_if, again_then, again_given, again_last, again_require}
use Rattle.wire_msg.specs.declared.error.WireError.{WireError}
use Rattle.wire_msg.specs.declared.error.WireError.TheVariants as refusal
use Rattle.wire_msg.specs.declared.frame.Frame.{Frame}
use Rattle.wire_msg.specs.declared.frame.Frame.TheVariants as frame
use Rattle.wire_msg.specs.Frames.{has_host, IsMessage, IsFrame, IsSent}
use Rattle.wire_msg.specs.Spelling.{message_bytes, kinded_bytes, body_bytes, frame_bytes}
use Rattle.wire_msg.specs.Reader.{WireReader, GivesWire, known, whole}
use Rattle.wire_msg.specs.Reading.{message_at, some_message_at, fields_at, sent_at, body_at, frame_at, reading_of}
use Rattle.wire_msg.proofs.Sequels.{reads_known, whole_reads, again_known, whole_again}
use Rattle.wire_msg.proofs.RiderLaws.{spelled_length}
use Rattle.wire_msg.proofs.MessageLaws.{message_reads, message_again}

-- ---- what may be sent

host_there : (host : HostId) (hosts : ℕ) → hosts ≤ HOSTS → host.0 < hosts → nat_lt host.0 HOSTS ≡ true
host_there host hosts few lt = lt-ltb host.0 HOSTS (omega arith)

pub fitting : (code : CodeShape) (sent : Message) → length code.hosts ≤ HOSTS → MessageFits code sent →
    has_host (frame.Message sent) ≡ true
fitting code (message.Get request field index) few is = refl
fitting code (message.Set request field index value) few is = refl
fitting code (message.Forward request id variable value) few is = refl
fitting code (message.Sync request id entry token) few is = host_there token.host (length code.hosts) few is
fitting code (message.Rgoto id entry token) few is = host_there token.host (length code.hosts) few is
fitting code (message.RgotoWith id entry token riders) few is =
    host_there token.host (length code.hosts) few is.0
fitting code (message.Lgoto token) few is = host_there token.host (length code.hosts) few is
fitting code (message.Value request value) few is = refl
fitting code (message.Ack request) few is = refl
fitting code (message.Token request token) few is = host_there token.host (length code.hosts) few is

-- ---- what is read

-- the kind, and the fields, are those of a frame
abbrev IsOf : ℕ → Frame → List ℕ → Type 0
IsOf kind sent text = (kind ∷ text ≡ kinded_bytes sent) × IsFrame sent

-- what follows a kind is determined by what is read
behind_kind : {A : Type 0} {reader : WireReader A} (kind : ℕ) (s : A → List ℕ) (P : A → Type 0) →
    Reads reader (λ x text. (kind ∷ text ≡ s x) × P x) →
    Reads reader (λ x text. (text ≡ drop 1 (s x)) × ((kind ∷ drop 1 (s x) ≡ s x) × P x))
behind_kind kind s P one =
    reads_weaker one (λ x text is.
    (ap (drop 1) is.0, (ap (λ bytes. kind ∷ drop 1 bytes) (sym is.0) ∙ is.0, is.1)))

some_message_reads : (kind : ℕ) → Reads (some_message_at kind) (IsOf kind)
unfolding some_message_at
some_message_reads kind = reads_last _ (behind_kind kind message_bytes IsMessage (message_reads kind)) (λ sent is. is)

fields_reads : (kind : ℕ) → Reads (fields_at kind) (IsOf kind)
unfolding fields_at
fields_reads kind =
    reads_if (kind == 10) (λ is. reads_given frame.Done (ap (λ k. k ∷ []) (eqb-true kind 10 is), tt))
    (λ _. some_message_reads kind)

fields_are : (kind : ℕ) → Reads (fields_at kind)
    (λ sent text. (text ≡ drop 1 (kinded_bytes sent))
    × ((kind ∷ drop 1 (kinded_bytes sent) ≡ kinded_bytes sent) × IsFrame sent))
fields_are kind = behind_kind kind kinded_bytes IsFrame (fields_reads kind)

pub sent_reads : Reads sent_at (λ x text. (text ≡ body_bytes x.0 x.1) × IsSent x.0 x.1)
unfolding sent_at
sent_reads =
    reads_then (byte_reads _) (λ from _. reads_then (byte_reads _) (λ kind _.
    reads_require refusal.BadField (λ is_host. reads_then (fields_are kind) (λ sent is.
    reads_require refusal.BadField (λ is_named. reads_given _ (
      ap (λ bytes. from ∷ kind ∷ bytes) (append-nil (drop 1 (kinded_bytes sent))) ∙ ap (λ bytes. from ∷ bytes) is.0,
      ((ltb-true _ _ is_host, is_named), is.1),
    ))))))

pub body_reads : Reads body_at (λ body text. (text ≡ number_bytes (length body) ++ body)
    × (AreBytes body × (length body ≤ FRAME_BYTES)))
unfolding body_at
body_reads =
    reads_then (number_reads _) (λ len _. reads_require refusal.TooLong (λ is_short.
    reads_weaker (bytes_reads _ len) (λ body text is. (
      ap (λ bytes. number_bytes len ++ bytes) is.0 ∙ ap (λ n. number_bytes n ++ body) (sym is.1.0),
      (is.1.1, subst (λ n. n ≤ FRAME_BYTES) (sym is.1.0) (leb-true _ _ is_short)),
    ))))

pub frame_reads : Reads frame_at (λ x text. (text ≡ frame_bytes x.0 x.1) × IsSent x.0 x.1)
unfolding frame_at frame_bytes
frame_reads =
    reads_then body_reads (λ body is. reads_known (whole sent_at body) (λ x read.
    let said = whole_reads sent_reads body x is.0 read in
    let spelled = append-nil (number_bytes (length body) ++ body) in
    (spelled ∙ ap (λ bytes. number_bytes (length bytes) ++ bytes) said.0, said.1)))

-- ---- what is read again

abbrev HasKinded : Frame → Type 0
HasKinded sent = (kind : ℕ) × (text : List ℕ) × (kind ∷ text ≡ kinded_bytes sent) × Again (fields_at kind) sent text

some_again : (kind : ℕ) (sent : Message) (text : List ℕ) → (kind == 10) ≡ false → Again (message_at kind) sent text →
    Again (fields_at kind) (frame.Message sent) text
unfolding fields_at some_message_at
some_again kind sent text is one = rw is (again_last frame.Message one)

kinded_again : (sent : Frame) → IsFrame sent → has_host sent ≡ true → HasKinded sent
unfolding fields_at
kinded_again (frame.Message sent) is named =
    let found = message_again sent is named in
    (found.0, found.1, found.2, some_again found.0 sent found.1 found.3 found.4)
kinded_again frame.Done is named = (10, [], refl, again_given frame.Done)

-- what follows the kind
abbrev Behind : HostId → ℕ → WireReader (HostId × Frame)
Behind from kind =
    sequel (fields_at kind) (λ sent. sequel (require (has_host sent) refusal.BadField) (λ _. given (from, sent)))

behind_again : (from : HostId) (kind : ℕ) (sent : Frame) (text : List ℕ) → has_host sent ≡ true →
    Again (fields_at kind) sent text → Again (Behind from kind) (from, sent) text
behind_again from kind sent text is one =
    subst (λ bytes. Again (Behind from kind) (from, sent) bytes) (append-nil text)
    (again_then (λ (sent : Frame). sequel (require (has_host sent) refusal.BadField) (λ _. given (from, sent))) one
    (again_require refusal.BadField is (again_given (from, sent))))

sent_again : (from : HostId) (sent : Frame) → IsSent from sent → Again sent_at (from, sent) (body_bytes from sent)
unfolding sent_at
sent_again from sent is =
    let found = kinded_again sent is.1 is.0.1 in
    subst (λ bytes. Again sent_at (from, sent) (from.0 ∷ bytes)) found.2
    (again_then _ (byte_again _ from.0) (again_then _ (byte_again _ found.0)
    (again_require refusal.BadField (lt-ltb _ _ is.0.0)
    (behind_again from found.0 sent found.1 is.0.1 found.3))))

body_again : (body : List ℕ) → length body ≤ FRAME_BYTES → Again body_at body (number_bytes (length body) ++ body)
unfolding body_at
body_again body short =
    again_then _ (number_again _ (length body) (omega arith))
    (again_require refusal.TooLong (le-leb _ _ short) (bytes_again _ body (length body) refl))

-- ---- lengths

-- the longest body is that of an rgoto with which 8 values ride
message_short : (sent : Message) → IsMessage sent → length (message_bytes sent) ≤ 155
unfolding number_bytes word_bytes
message_short (message.Get request field index) is = omega arith
message_short (message.Set request field index value) is = omega arith
message_short (message.Forward request id variable value) is = omega arith
message_short (message.Sync request id entry token) is = omega (arith, is.1.1.1.1.1.1.1.0)
message_short (message.Rgoto id entry token) is = omega (arith, is.1.1.1.1.1.1.0)
message_short (message.RgotoWith id entry token riders) is =
    omega (arith, spelled_length id entry token riders is.1.1.0.1.1.1.1.0, is.1.1.1.0.1)
message_short (message.Lgoto token) is = omega (arith, is.1.1.1.1.0)
message_short (message.Value request value) is = omega arith
message_short (message.Ack request) is = omega arith
message_short (message.Token request token) is = omega (arith, is.1.1.1.1.1.0)

pub body_short : (from : HostId) (sent : Frame) → IsFrame sent → length (body_bytes from sent) ≤ FRAME_BYTES
body_short from (frame.Message sent) is = omega (arith, message_short sent is)
body_short from frame.Done is = omega arith

frame_again : (from : HostId) (sent : Frame) → IsSent from sent → Again frame_at (from, sent) (frame_bytes from sent)
unfolding frame_at frame_bytes
frame_again from sent is =
    subst (λ bytes. Again frame_at (from, sent) bytes)
    (append-nil (number_bytes (length (body_bytes from sent)) ++ body_bytes from sent))
    (again_then (λ body. known (whole sent_at body))
    (body_again (body_bytes from sent) (body_short from sent is.1))
    (again_known (whole_again (sent_again from sent is))))

-- ---- frames

pub frame_read : (bytes : List ℕ) (from : HostId) (sent : Frame) → AreBytes bytes → reading_of bytes ≡ Ok (from, sent) →
    IsSent from sent × (bytes ≡ frame_bytes from sent)
unfolding reading_of
frame_read bytes from sent fits is =
    let said = whole_reads frame_reads bytes (from, sent) fits is in
    (said.1, said.0)

pub read_again : (from : HostId) (sent : Frame) → IsSent from sent →
    reading_of (frame_bytes from sent) ≡ Ok (from, sent)
unfolding reading_of
read_again from sent is = whole_again (frame_again from sent is)

abbrev read_as : HostId → Frame → Result (HostId × Frame) WireError
read_as from sent = Ok (from, sent)

-- what a call answers that reads all of the bytes
abbrev pub Answer : Type 0
Answer = Result (HostId × Frame) WireError

pub found_in : (bytes : List ℕ) (answer : Answer) → AreBytes bytes → GivesWire (λ x. x) answer (reading_of bytes) →
    IfOk answer (λ x. IsSent x.0 x.1 × (bytes ≡ frame_bytes x.0 x.1))
found_in bytes (Ok x) fits is = frame_read bytes x.0 x.1 fits is
found_in bytes (Err what) fits is = tt

pub only_in : (bytes : List ℕ) (answer : Answer) → GivesWire (λ x. x) answer (reading_of bytes) → (from : HostId)
    (sent : Frame) → IsSent from sent → bytes ≡ frame_bytes from sent → answer ≡ Ok (from, sent)
only_in bytes (Ok x) is from sent sent_is spelled =
    sym is ∙ ap reading_of spelled ∙ read_again from sent sent_is
only_in bytes (Err what) is from sent sent_is spelled =
    sym is ∙ ap reading_of spelled ∙ read_again from sent sent_is

pub spelled_once : (from other : HostId) (first second : Frame) → IsSent from first → IsSent other second →
    frame_bytes from first ≡ frame_bytes other second → (from ≡ other) × (first ≡ second)
spelled_once from other first second one two same =
    let both = ok_is (from, first) (other, second)
    (sym (read_again from first one) ∙ ap reading_of same ∙ read_again other second two) in
    (ap (λ (x : HostId × Frame). x.0) both, ap (λ (x : HostId × Frame). x.1) both)

outcome : (reading : Result (HostId × Frame) WireError) →
    ((x : HostId × Frame) × (reading ≡ Ok x)) ⊎ ((what : WireError) × (reading ≡ Err what))
outcome (Ok x) = inl (x, refl)
outcome (Err what) = inr (what, refl)

refused_is : (bytes : List ℕ) (what : WireError) → reading_of bytes ≡ Err what → (from : HostId) (sent : Frame) →
    IsSent from sent → bytes ≢ frame_bytes from sent
refused_is bytes what is from sent sent_is spelled =
    let never : read_as from sent ≡ Err what = sym (read_again from sent sent_is) ∙ ap reading_of (sym spelled) ∙ is in
    absurd cc

pub frame_or_refusal : (bytes : List ℕ) → AreBytes bytes →
    ((from : HostId) × (sent : Frame) × IsSent from sent × (bytes ≡ frame_bytes from sent)
    × (reading_of bytes ≡ Ok (from, sent)))
    ⊎ ((what : WireError) × (reading_of bytes ≡ Err what)
    × ((from : HostId) (sent : Frame) → IsSent from sent → bytes ≢ frame_bytes from sent))
frame_or_refusal bytes fits =
    elim (outcome (reading_of bytes)) [
      | inl found ↦
          let said = frame_read bytes found.0.0 found.0.1 fits found.1 in
          inl (found.0.0, found.0.1, said.0, said.1, found.1)
      | inr found ↦ inr (found.0, found.1, refused_is bytes found.0 found.1)
    ]
