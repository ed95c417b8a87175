-- What is in flight and what misbehaving hosts were sent fits the code after a step.
use Rattle.std.proofs.Common.{◌≡◌, ◌≢◌, ℕ, zero, suc, ◌<◌, Bool, true, false, List, [], ◌∷◌, ◌++◌, length, refl}
use Rattle.std.proofs.Common.{ap, sym, subst, ◌∙◌, arith, Option, Some, None}
use Rattle.std.specs.Prelude.{slice_get, remove, All, IfSome, IsTrue, ◌==◌, ◌&&◌, if◌then◌else◌}
use Rattle.std.specs.Option.{option_map}
use Rattle.std.specs.List.{cons_option}
use Rattle.std.proofs.lemmas.Bool.Decides.{nat_tests}
use Rattle.std.proofs.lemmas.List.Elements.{All-push, All-get_or}
use Rattle.std.proofs.lemmas.Option.{slice_get_within, get_or_from_slice_get}
use Rattle.js_base.specs.declared.ids.HostId.{HostId}
use Rattle.capability.specs.declared.token.Token.{Token}
use Rattle.event_text.specs.declared.event.BadToken.{BadToken}
use Rattle.event_text.specs.declared.event.BadToken.TheVariants.{Sent, Own}
use Rattle.event_text.specs.declared.event.BadMessage.{BadMessage}
use Rattle.event_text.specs.declared.event.BadMessage.TheVariants as bad
use Rattle.host_code.specs.declared.message.Message.{Message}
use Rattle.host_code.specs.declared.message.Message.TheVariants as message
use Rattle.host_code.specs.declared.instruction.Instr.{Instr}
use Rattle.host_code.specs.Code.{CodeShape, instruction_at}
use Rattle.host_code.specs.Sound.{IsHost, IsOther, IsLabelNumber, IsSoundCode}
use Rattle.host_code.specs.Messages.{MessageFits}
use Rattle.host_core.specs.Host.{HostState, HostModel, Outcome, Letter}
use Rattle.host_core.specs.Fits.{SentFits, TokensFit, TokenFits}
use Rattle.net_world.specs.Flying.{Flight, Flying, with_flights}
use Rattle.net_world.specs.Told.{SentMessage, token_in, tokens_in, token_presented, message_made}
use Rattle.net_world.specs.World.{WorldShape, lacks, misbehaves, is_absent, given, without_flight, after_sending}
use Rattle.net_world.specs.World.{after_telling, after_posting, letter_of, tokens_sent}
use Rattle.net_world.specs.Fits.{FlightFits, SentMessageFits, MailFits, OwnToken, OwnTokenIn, WorldModel, WorldFits}
use Rattle.net_world.specs.Fits.{HostsFit, states_of, world_of}
use Rattle.net_world.specs.Secret.{AreReadable}
use Rattle.net_world.specs.Steps.{HasStepped}
use Rattle.net_world.proofs.Present.{same_id}
use Rattle.net_world.proofs.StepLaws.{absent_set}

all_remove : {X : Type 0} (P : X → Type 0) (xs : List X) (i : ℕ) → All P xs → All P (remove xs i)
all_remove P [] zero all k d lt = absurd (omega arith)
all_remove P [] (suc i) all k d lt = absurd (omega arith)
all_remove P (x ∷ xs) zero all k d lt = all (suc k) d (omega arith)
all_remove P (x ∷ xs) (suc i) all zero d lt = all zero d (omega arith)
all_remove P (x ∷ xs) (suc i) all (suc k) d lt =
    all_remove P xs i (λ j d lt. all (suc j) d (omega arith)) k d (omega arith)

all_at : {X : Type 0} (P : X → Type 0) (xs : List X) (i : ℕ) (x : X) → All P xs → slice_get xs i ≡ Some x → P x
all_at P xs i x all there =
    subst P (get_or_from_slice_get xs i x x there) (All-get_or P xs i x (slice_get_within xs i x there) all)

-- ---- what is in flight

fits_cell : (P : HostId → HostId → Flight → Type 0) (flying : Flying) (from to i j : HostId) (flights : List Flight)
    (same : Bool) → (i.0 == from.0 && j.0 == to.0) ≡ same → All (P i j) (flying i j) → All (P from to) flights →
    All (P i j) (if same then flights else flying i j)
fits_cell P flying from to i j flights true is old new =
    let first : from.0 ≡ i.0 = grind (arith, nat_tests) in
    let second : to.0 ≡ j.0 = grind (arith, nat_tests) in
    subst (λ k. All (P k j) flights) (same_id from i first) (subst (λ k. All (P from k) flights)
    (same_id to j second) new)
fits_cell P flying from to i j flights false is old new = old

fits_with : (P : HostId → HostId → Flight → Type 0) (flying : Flying) (from to : HostId) (flights : List Flight) →
    ((i j : HostId) → All (P i j) (flying i j)) → All (P from to) flights → (i j : HostId) →
    All (P i j) (with_flights flying from to flights i j)
fits_with P flying from to flights old new i j =
    fits_cell P flying from to i j flights (i.0 == from.0 && j.0 == to.0) refl (old i j) new

-- ---- the parts of a step

pub mail_stepped : (code : CodeShape) (kind : HostState → Outcome → Type 0) (before old new : WorldShape)
    (host : HostId) (sent : Option (HostId × Message)) → old ≡ before → HasStepped kind old host sent new →
    MailFits code before →
    MailFits code new
mail_stepped code kind before old new host sent same stepped fits =
    let moved = subst (MailFits code) (sym same) fits in
    subst (MailFits code) stepped.leaves (record { flying = moved.flying; sent = moved.sent })

pub mail_without : (code : CodeShape) (world : WorldShape) (from to : HostId) (place : ℕ) → MailFits code world →
    MailFits code (without_flight world from to place)
mail_without code world from to place fits = record {
  flying = fits_with (FlightFits code) world.flying from to (remove (world.flying from to) place) fits.flying
      (all_remove (FlightFits code from to) (world.flying from to) place (fits.flying from to));
  sent = fits.sent;
}

pub mail_telling : (code : CodeShape) (world : WorldShape) (from : HostId) (sent : Option (HostId × Message)) →
    MailFits code world → IsHost code from → SentFits code from sent → MailFits code (after_telling world from sent)
mail_telling code world from None fits is_host sent_fits = fits
mail_telling code world from (Some sent) fits is_host sent_fits = record {
  flying = fits.flying;
  sent = All-push (SentMessageFits code) world.sent (from, sent.0, sent.1) fits.sent
      (record { sender = is_host; target = sent_fits.0; message = sent_fits.1 });
}

mail_posting : (code : CodeShape) (world : WorldShape) (from : HostId) (letter : Letter) → MailFits code world →
    IsHost code from → IsOther code from letter.to → MessageFits code letter.message → IsLabelNumber code letter.label →
    MailFits code (after_posting world from letter)
mail_posting code world from letter fits is_host other message label = record {
  flying = fits_with (FlightFits code) world.flying from letter.to
      (world.flying from letter.to ++ record { message = letter.message; label = letter.label } ∷ []) fits.flying
      (All-push (FlightFits code from letter.to) (world.flying from letter.to)
      (record { message = letter.message; label = letter.label }) (fits.flying from letter.to)
      (record { sender = is_host; target = other; message = message; label = label }));
  sent = fits.sent;
}

mail_either : (code : CodeShape) (tells : Bool) (told posted : WorldShape) → MailFits code told →
    MailFits code posted → MailFits code (if tells then told else posted)
mail_either code true told posted told_fits posted_fits = told_fits
mail_either code false told posted told_fits posted_fits = posted_fits

pub mail_sending : (code : CodeShape) (world : WorldShape) (from : HostId) (label : Option ℕ)
    (sent : Option (HostId × Message)) → MailFits code world → IsHost code from → SentFits code from sent →
    IfSome label (IsLabelNumber code) → MailFits code (after_sending world from (letter_of label sent))
mail_sending code world from None sent fits is_host sent_fits label_fits = fits
mail_sending code world from (Some label) None fits is_host sent_fits label_fits = fits
mail_sending code world from (Some label) (Some sent) fits is_host sent_fits label_fits =
    mail_either code (misbehaves world sent.0) _ _
    (mail_telling code world from (Some (sent.0, sent.1)) fits is_host sent_fits)
    (mail_posting code world from (record { to = sent.0; message = sent.1; label = label }) fits is_host sent_fits.0
    sent_fits.1 label_fits)

-- where the same hosts misbehave, the same labels may be seen
pub readable_kept : (code : CodeShape) (before after : WorldShape) (readable : List Bool) →
    ((host : HostId) → misbehaves after host ≡ misbehaves before host) → AreReadable code before readable →
    AreReadable code after readable
readable_kept code before after readable same tells = record {
  each = λ label. (
    λ seen. let read = (tells.each label).0 seen in (read.0, (same read.0 ∙ read.1.0, read.1.1)),
    λ read. (tells.each label).1 (read.0, (sym (same read.0) ∙ read.1.0, read.1.1)),
  );
}

-- a step of a host that obeys leaves the same hosts misbehaving
bad_stepped : (kind : HostState → Outcome → Type 0) (before old new : WorldShape) (host : HostId)
    (sent : Option (HostId × Message)) → old ≡ before → HasStepped kind old host sent new → (other : HostId) →
    misbehaves new other ≡ misbehaves before other
bad_stepped kind before old new host sent same stepped other =
    ap (λ (w : WorldShape). misbehaves w other) (sym stepped.leaves)
    ∙ absent_set old.hosts host.0 other.0 stepped.before stepped.after stepped.obeys
    ∙ ap (λ (w : WorldShape). misbehaves w other) same

-- a world after a step
pub world_fits : (code : CodeShape) (kind : HostState → Outcome → Type 0) (before reserved moved after : WorldModel)
    (host : HostId) (sent : Option (HostId × Message)) → WorldFits code before → world_of reserved ≡ world_of before →
    HasStepped kind (world_of reserved) host sent (world_of moved) → HostsFit code moved.hosts →
    length moved.hosts ≡ length before.hosts → after.root ≡ before.root → after.hosts ≡ moved.hosts →
    MailFits code (world_of after) → after.readable ≡ before.readable → WorldFits code after
world_fits code kind before reserved moved after host sent fits room stepped hosts_fit count root same mail list =
    record {
      root = root ∙ fits.root;
      count = ap length same ∙ count ∙ fits.count;
      hosts = subst (HostsFit code) (sym same) hosts_fit;
      mail = mail;
      readable = readable_kept code (world_of before) (world_of after) after.readable
          (λ other. ap (λ (h : List (Option HostModel)). lacks (states_of h) other) same
          ∙ bad_stepped kind (world_of before) (world_of reserved) (world_of moved) host sent room stepped other)
          (subst (AreReadable code (world_of before)) (sym list) fits.readable);
    }

-- ---- what a message in flight is

pub flight_fits : (code : CodeShape) (world : WorldShape) (from to : HostId) (place : ℕ) (flight : Flight) →
    MailFits code world → slice_get (world.flying from to) place ≡ Some flight → FlightFits code from to flight
flight_fits code world from to place flight fits there =
    all_at (FlightFits code from to) (world.flying from to) place flight (fits.flying from to) there

pub tokens_fit : (code : CodeShape) (m : Message) → MessageFits code m → TokensFit code m
tokens_fit code (message.Get request field index) fits = tt
tokens_fit code (message.Set request field index value) fits = tt
tokens_fit code (message.Forward request frame variable value) fits = tt
tokens_fit code (message.Sync request frame entry token) fits = fits
tokens_fit code (message.Rgoto frame entry token) fits = fits
tokens_fit code (message.RgotoWith frame entry token riders) fits = fits.0
tokens_fit code (message.Lgoto token) fits = fits
tokens_fit code (message.Value request value) fits = tt
tokens_fit code (message.Ack request) fits = tt
tokens_fit code (message.Token request token) fits = fits

-- hosts are not their own senders
pub turned : (code : CodeShape) (from to : HostId) → IsHost code from → IsOther code from to → IsOther code to from
turned code from to is_host other = (is_host, λ same. other.1 (sym same))

-- ---- what a misbehaving host makes

pub is_bad_host : {X : Type 0} (hosts : List (Option X)) (i : ℕ) → IsTrue (is_absent (slice_get hosts i)) →
    i < length hosts
is_bad_host [] i absent = absurd (cc)
is_bad_host (host ∷ hosts) zero absent = omega arith
is_bad_host (host ∷ hosts) (suc i) absent = let lt = is_bad_host hosts i absent in omega arith

-- a misbehaving host is one of the code's
pub bad_within : (world : WorldShape) (host : HostId) (count : ℕ) → length world.hosts ≡ count →
    IsTrue (misbehaves world host) → host.0 < count
bad_within world host count same bad = let lt = is_bad_host world.hosts host.0 bad in omega arith

absent_present : {X : Type 0} (o : Option (Option X)) (x : X) → IsTrue (is_absent o) → given o ≡ Some x → ⊥
absent_present None x absent there = absurd (cc)
absent_present (Some None) x absent there = absurd (cc)
absent_present (Some (Some y)) x absent there = absurd (cc)

-- and is none that obeys
pub bad_differs : (world : WorldShape) (from to : HostId) (state : HostState) → IsTrue (misbehaves world from) →
    given (slice_get world.hosts to.0) ≡ Some state → from ≢ to
bad_differs world from to state bad obeys same =
    absent_present (slice_get world.hosts from.0) state bad
    (ap (λ (h : HostId). given (slice_get world.hosts h.0)) same ∙ obeys)

token_cons : (P : Token → Type 0) (o : Option Token) (rest : List Token) → IfSome o P → All P rest →
    All P (cons_option o rest)
token_cons P None rest first all k d lt = all k d lt
token_cons P (Some token) rest first all zero d lt = first
token_cons P (Some token) rest first all (suc k) d lt = all k d (omega arith)

token_fits : (code : CodeShape) (m : Message) → MessageFits code m → IfSome (token_in m) (TokenFits code)
token_fits code (message.Get request field index) fits = tt
token_fits code (message.Set request field index value) fits = tt
token_fits code (message.Forward request frame variable value) fits = tt
token_fits code (message.Sync request frame entry token) fits = fits
token_fits code (message.Rgoto frame entry token) fits = fits
token_fits code (message.RgotoWith frame entry token riders) fits = fits.0
token_fits code (message.Lgoto token) fits = fits
token_fits code (message.Value request value) fits = tt
token_fits code (message.Ack request) fits = tt
token_fits code (message.Token request token) fits = fits

sent_tokens_fit : (code : CodeShape) (sent : List SentMessage) → All (SentMessageFits code) sent →
    All (TokenFits code) (tokens_in sent)
sent_tokens_fit code [] all = λ k d lt. absurd (omega arith)
sent_tokens_fit code (first ∷ sent) all =
    token_cons (TokenFits code) (token_in first.2) (tokens_in sent)
    (token_fits code first.2 (all 0 first (omega arith)).message)
    (sent_tokens_fit code sent (λ k d lt. all (suc k) d (omega arith)))

some_fits : (code : CodeShape) (tokens : List Token) (number : ℕ) → All (TokenFits code) tokens →
    IfSome (slice_get tokens number) (TokenFits code)
some_fits code [] number all = tt
some_fits code (token ∷ tokens) zero all = all 0 token (omega arith)
some_fits code (token ∷ tokens) (suc number) all = some_fits code tokens number (λ k d lt. all (suc k) d (omega arith))

presented_fits : (code : CodeShape) (world : WorldShape) (token : BadToken) → length world.hosts ≡ length code.hosts →
    All (TokenFits code) (tokens_sent world) → OwnToken world token →
    IfSome (token_presented (tokens_sent world) token) (TokenFits code)
presented_fits code world (Sent number) count all own = some_fits code (tokens_sent world) number all
presented_fits code world (Own token) count all own = bad_within world token.host (length code.hosts) count own

with_presented : (code : CodeShape) (make : Token → Message) → ((t : Token) → TokenFits code t →
    TokensFit code (make t)) →
    (o : Option Token) (m : Message) → IfSome o (TokenFits code) → option_map make o ≡ Some m → TokensFit code m
with_presented code make fitting None m fits made = absurd (cc)
with_presented code make fitting (Some token) m fits made =
    let same : make token ≡ m = cc in
    subst (TokensFit code) same (fitting token fits)

without_token : (code : CodeShape) (made m : Message) → TokensFit code made → Some made ≡ Some m → TokensFit code m
without_token code made m fits same = let is : made ≡ m = cc in subst (TokensFit code) is fits

made_fits : (code : CodeShape) (world : WorldShape) (made : BadMessage) (m : Message) →
    length world.hosts ≡ length code.hosts → All (TokenFits code) (tokens_sent world) → OwnTokenIn world made →
    message_made (tokens_sent world) made ≡ Some m → TokensFit code m
made_fits code world (bad.Get request field index) m count all own is =
    without_token code (message.Get request field index) m tt is
made_fits code world (bad.Set request field index value) m count all own is =
    without_token code (message.Set request field index value) m tt is
made_fits code world (bad.Forward request frame variable value) m count all own is =
    without_token code (message.Forward request frame variable value) m tt is
made_fits code world (bad.Sync request frame entry token) m count all own is =
    with_presented code (λ t. message.Sync request frame entry t) (λ t fits. fits)
    (token_presented (tokens_sent world) token) m (presented_fits code world token count all own) is
made_fits code world (bad.Rgoto frame entry token) m count all own is =
    with_presented code (λ t. message.Rgoto frame entry t) (λ t fits. fits)
    (token_presented (tokens_sent world) token) m (presented_fits code world token count all own) is
made_fits code world (bad.RgotoWith frame entry token riders) m count all own is =
    with_presented code (λ t. message.RgotoWith frame entry t riders) (λ t fits. fits)
    (token_presented (tokens_sent world) token) m (presented_fits code world token count all own) is
made_fits code world (bad.Lgoto token) m count all own is =
    with_presented code (λ t. message.Lgoto t) (λ t fits. fits)
    (token_presented (tokens_sent world) token) m (presented_fits code world token count all own) is
made_fits code world (bad.Value request value) m count all own is =
    without_token code (message.Value request value) m tt is
made_fits code world (bad.Ack request) m count all own is = without_token code (message.Ack request) m tt is
made_fits code world (bad.Token request token) m count all own is =
    with_presented code (λ t. message.Token request t) (λ t fits. fits)
    (token_presented (tokens_sent world) token) m (presented_fits code world token count all own) is

-- the tokens of what a misbehaving host makes name hosts of the code
pub made_tokens_fit : (code : CodeShape) (world : WorldShape) (made : BadMessage) (m : Message) →
    length world.hosts ≡ length code.hosts → MailFits code world → OwnTokenIn world made →
    message_made (tokens_sent world) made ≡ Some m → TokensFit code m
made_tokens_fit code world made m count fits own is =
    made_fits code world made m count (sent_tokens_fit code world.sent fits.sent) own is

-- ---- labels

instruction_label : (code : CodeShape) (me : HostId) (at : ℕ) (o : Option Instr) → IsSoundCode code → IsHost code me →
    instruction_at code me at ≡ o → IfSome o (λ instruction. IsLabelNumber code instruction.label)
instruction_label code me at None sound is_host there = tt
instruction_label code me at (Some instruction) sound is_host there =
    ((sound.parts me is_host).instructions at instruction there).label

pub label_fits : (code : CodeShape) (me : HostId) (at : ℕ) (instruction : Instr) → IsSoundCode code → IsHost code me →
    instruction_at code me at ≡ Some instruction → IsLabelNumber code instruction.label
label_fits code me at instruction sound is_host there =
    instruction_label code me at (Some instruction) sound is_host there
