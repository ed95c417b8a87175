-- Tags for the names of tokens that a host took. A name has its fate: whether its tokens have the right tag.
use Rattle.std.proofs.Common.{◌≡◌, ◌≢◌, ◌∙◌, ◌⊎◌, ◌<◌, ℕ, zero, suc, Bool, true, false, refl, ap, sym}
use Rattle.std.proofs.Common.{List, [], ◌∷◌, ◌++◌, inl, inr, arith, take, w32}
use Rattle.std.specs.Prelude.{◌==◌, if◌then◌else◌, Option, Some, None, map, slice_index}
use Rattle.std.specs.Option.{option_map}
use Rattle.std.specs.Int.{to_be_bytes}
use Rattle.std.proofs.lemmas.List.{length-set}
use Rattle.sha2.specs.Sha256.{digest_bytes, final_hash, initial_hash_256, sha256}
use Rattle.byte_format.specs.Numbers.{AreBytes}
use Rattle.capability.specs.declared.tags.TheConstants.{TAG_BYTES}
use Rattle.capability.specs.declared.token.Token.{Token}
use Rattle.capability.specs.Tag.{tag_of, token_bytes}
use Rattle.ics_stack.specs.declared.stack.StackEntry.{StackEntry}
use Rattle.host_code.specs.declared.message.Message.{Message}
use Rattle.host_code.specs.declared.message.Message.TheVariants as message
use Rattle.host_code.specs.Code.{CodeShape}
use Rattle.host_code.specs.Messages.{MessageFits}
use Rattle.host_code.specs.Thread.{ThreadShape, WaitingShape}
use Rattle.host_core.specs.Host.{HostState}
use Rattle.host_core.specs.Told.{IsUnsure, other_tag, told_key, with_wrong_tags}
use Rattle.wire_msg.specs.Frames.{IsMessage, IsTag, IsToken}
use Rattle.journal_laws.proofs.CountedNames.{count, entries_hits, entry_hits, held_hits, hits, is_right, is_right_tag}
use Rattle.journal_laws.proofs.CountedNames.{name_of, right_is, running_hits, waiting_hits}
use Rattle.journal_laws.proofs.KeptStacks.{AreMade, IsMade}
use Rattle.journal_laws.proofs.OwnTags.{other_differs, right_tag, tag_long}
use Rattle.journal_laws.proofs.Retagged.{HasTags, cast, tagged, tagged_entry, tagged_message, tagged_thread}
use Rattle.journal_laws.proofs.Retagged.{tagged_waiting}
use Rattle.journal_laws.proofs.WithoutHalt.{is_lasting}

-- ---- tags by fates

-- the right tag of a token, or a wrong one
abbrev pub picked : Bool → Token → List ℕ
picked right token = if right then right_tag told_key token else other_tag (right_tag told_key token)

-- the tag of a token with this name, where the name 0 stands for the tag that is there
abbrev pub chosen_tag : (ℕ → Bool) → ℕ → Token → List ℕ
chosen_tag fate name token = if name == 0 then token.tag else picked (fate name) token

abbrev pub fate_tag : (ℕ → Bool) → Token → List ℕ
fate_tag fate token = if is_right token then token.tag else chosen_tag fate (name_of token) token

-- on the host that is played no token that it took is right
abbrev pub none : ℕ → Bool
none name = false

-- the tag by which a token has a name
abbrev pub named : ℕ → Token → List ℕ
named name token = suc (slice_index (right_tag told_key token) 0) ∷ name ∷ []

pub fate_has : (fate : ℕ → Bool) → HasTags (fate_tag fate) told_key told_key
fate_has fate host frame entry serial =
    let token : Token = record {
      host = host;
      frame = frame;
      entry = entry;
      serial = serial;
      tag = tag_of told_key host frame entry serial;
    } in
    ap (λ right. if right then token.tag else chosen_tag fate (name_of token) token) (right_is token refl)

pub named_is : (name : ℕ) (token : Token) → is_right (tagged (named name) token) ≡ false
named_is name token = by (is_right (tagged (named name) token)) refl
  where
    by : (right : Bool) → is_right (tagged (named name) token) ≡ right → right ≡ false
    by false is = refl
    by true is =
        let e : suc (slice_index (right_tag told_key token) 0) ≡ slice_index (right_tag told_key token) 0 =
        ap (λ tag. slice_index tag 0) (is_right_tag (tagged (named name) token) is) in
        absurd (omega (arith, e))

-- a token that has a name has the tag of its fate
pub fated : (fate : ℕ → Bool) (token : Token) → is_right token ≡ false → (name_of token == 0) ≡ false →
    tagged (fate_tag fate) token ≡ tagged (picked (fate (name_of token))) token
fated fate token wrong some =
    ap (λ right. record token { tag = if right then token.tag else chosen_tag fate (name_of token) token }) wrong
    ∙ ap (λ zero. record token { tag = if zero then token.tag else picked (fate (name_of token)) token }) some

pub unfated : (fate : ℕ → Bool) (token : Token) → is_right token ≡ false → (name_of token == 0) ≡ true →
    tagged (fate_tag fate) token ≡ token
unfated fate token wrong some =
    ap (λ right. record token { tag = if right then token.tag else chosen_tag fate (name_of token) token }) wrong
    ∙ ap (λ zero. record token { tag = if zero then token.tag else picked (fate (name_of token)) token }) some

pub right_stays : (fate : ℕ → Bool) (token : Token) → is_right token ≡ true → tagged (fate_tag fate) token ≡ token
right_stays fate token right =
    ap (λ right. record token { tag = if right then token.tag else chosen_tag fate (name_of token) token }) right

fated_named : (fate : ℕ → Bool) (name : ℕ) (token : Token) → (name == 0) ≡ false →
    tagged (fate_tag fate) (tagged (named name) token) ≡ tagged (picked (fate name)) token
fated_named fate name token some = fated fate (tagged (named name) token) (named_is name token) some

pub letter_fated : (fate : ℕ → Bool) (name : ℕ) (letter : Message) → (name == 0) ≡ false →
    tagged_message (fate_tag fate) (tagged_message (named name) letter) ≡ tagged_message (picked (fate name)) letter
letter_fated fate name (message.Get request field index) some = refl
letter_fated fate name (message.Set request field index value) some = refl
letter_fated fate name (message.Forward request frame variable value) some = refl
letter_fated fate name (message.Sync request frame entry token) some =
    ap (message.Sync request frame entry) (fated_named fate name token some)
letter_fated fate name (message.Rgoto frame entry token) some =
    ap (message.Rgoto frame entry) (fated_named fate name token some)
letter_fated fate name (message.RgotoWith frame entry token riders) some =
    ap (λ token. message.RgotoWith frame entry token riders) (fated_named fate name token some)
letter_fated fate name (message.Lgoto token) some = ap message.Lgoto (fated_named fate name token some)
letter_fated fate name (message.Value request value) some = refl
letter_fated fate name (message.Ack request) some = refl
letter_fated fate name (message.Token request token) some =
    ap (message.Token request) (fated_named fate name token some)

pub wrong_picked : (letter : Message) → tagged_message (picked false) letter ≡ with_wrong_tags letter
wrong_picked (message.Get request field index) = refl
wrong_picked (message.Set request field index value) = refl
wrong_picked (message.Forward request frame variable value) = refl
wrong_picked (message.Sync request frame entry token) = refl
wrong_picked (message.Rgoto frame entry token) = refl
wrong_picked (message.RgotoWith frame entry token riders) = refl
wrong_picked (message.Lgoto token) = refl
wrong_picked (message.Value request value) = refl
wrong_picked (message.Ack request) = refl
wrong_picked (message.Token request token) = refl

-- ---- such a message can be sent

bytes_joined : (front rest : List ℕ) → AreBytes front → AreBytes rest → AreBytes (front ++ rest)
bytes_joined [] rest one other i = other i
bytes_joined (byte ∷ front) rest one other zero = one 0
bytes_joined (byte ∷ front) rest one other (suc i) = bytes_joined front rest (λ j. one (suc j)) other i

bytes_taken : (count : ℕ) (bytes : List ℕ) → AreBytes bytes → AreBytes (take count bytes)
bytes_taken zero bytes are i = omega arith
bytes_taken (suc count) [] are i = omega arith
bytes_taken (suc count) (byte ∷ bytes) are zero = are 0
bytes_taken (suc count) (byte ∷ bytes) are (suc i) = bytes_taken count bytes (λ j. are (suc j)) i

number_bytes : (n : ℕ) → AreBytes (to_be_bytes w32 n)
number_bytes n zero = omega arith
number_bytes n (suc zero) = omega arith
number_bytes n (suc (suc zero)) = omega arith
number_bytes n (suc (suc (suc zero))) = omega arith
number_bytes n (suc (suc (suc (suc i)))) = omega arith

digest_are : (hash : List ℕ) (count : ℕ) → AreBytes (digest_bytes hash count)
unfolding digest_bytes
digest_are hash zero = λ i. omega arith
digest_are hash (suc count) =
    bytes_joined (digest_bytes hash count) (to_be_bytes w32 (slice_index hash count)) (digest_are hash count)
    (number_bytes (slice_index hash count))

right_bytes : (token : Token) → AreBytes (right_tag told_key token)
unfolding tag_of sha256
right_bytes token =
    let fed = told_key ++ token_bytes token.host token.frame token.entry token.serial in
    bytes_taken TAG_BYTES (digest_bytes (final_hash initial_hash_256 fed) 8)
    (digest_are (final_hash initial_hash_256 fed) 8)

small : (first : ℕ) → (if first == 0 then 1 else 0) < 256
small first = by (first == 0)
  where
    by : (none : Bool) → (if none then 1 else 0) < 256
    by true = omega arith
    by false = omega arith

other_bytes : (tag : List ℕ) → AreBytes tag → AreBytes (other_tag tag)
other_bytes [] are i = are i
other_bytes (byte ∷ tag) are zero = small byte
other_bytes (byte ∷ tag) are (suc i) = are (suc i)

pub picked_tag : (right : Bool) (token : Token) → IsTag (picked right token)
picked_tag true token = (tag_long told_key token, right_bytes token)
picked_tag false token =
    let tag = right_tag told_key token in
    let long = tag_long told_key token in
    (length-set tag 0 (if slice_index tag 0 == 0 then 1 else 0) ∙ long, other_bytes tag (right_bytes token))

token_picked : (right : Bool) (token : Token) → IsToken token → IsToken (tagged (picked right) token)
token_picked right token is = (is.0, (is.1.0, (is.1.1.0, (is.1.1.1.0, picked_tag right token))))

pub real_picked : (right : Bool) (letter : Message) → IsMessage letter →
    IsMessage (tagged_message (picked right) letter)
real_picked right (message.Get request field index) is = is
real_picked right (message.Set request field index value) is = is
real_picked right (message.Forward request frame variable value) is = is
real_picked right (message.Sync request frame entry token) is =
    (is.0, (is.1.0, (is.1.1.0, token_picked right token is.1.1.1)))
real_picked right (message.Rgoto frame entry token) is = (is.0, (is.1.0, token_picked right token is.1.1))
real_picked right (message.RgotoWith frame entry token riders) is =
    (is.0, (is.1.0, (token_picked right token is.1.1.0, is.1.1.1)))
real_picked right (message.Lgoto token) is = token_picked right token is
real_picked right (message.Value request value) is = is
real_picked right (message.Ack request) is = is
real_picked right (message.Token request token) is = (is.0, token_picked right token is.1)

pub fits_tagged : (code : CodeShape) (tags : Token → List ℕ) (letter : Message) → MessageFits code letter →
    MessageFits code (tagged_message tags letter)
fits_tagged code tags (message.Get request field index) fits = fits
fits_tagged code tags (message.Set request field index value) fits = fits
fits_tagged code tags (message.Forward request frame variable value) fits = fits
fits_tagged code tags (message.Sync request frame entry token) fits = fits
fits_tagged code tags (message.Rgoto frame entry token) fits = fits
fits_tagged code tags (message.RgotoWith frame entry token riders) fits = fits
fits_tagged code tags (message.Lgoto token) fits = fits
fits_tagged code tags (message.Value request value) fits = fits
fits_tagged code tags (message.Ack request) fits = fits
fits_tagged code tags (message.Token request token) fits = fits

-- ---- the top token

made_stays : (fate : ℕ → Bool) (top : Token) → IsMade told_key top → tagged (fate_tag fate) top ≡ top
made_stays fate top made = right_stays fate top (right_is top made)

-- a token that is the top one on the played host is that one
top_there : (top token : Token) → IsMade told_key top →
    tagged (fate_tag none) top ≡ tagged (fate_tag none) token → top ≡ token
top_there top token made same = by (is_right token) (name_of token == 0) refl refl
  where
    here : top ≡ tagged (fate_tag none) token
    here = sym (made_stays none top made) ∙ same

    by : (right zero : Bool) → is_right token ≡ right → (name_of token == 0) ≡ zero → top ≡ token
    by true nil is at = here ∙ right_stays none token is
    by false true is at = here ∙ unfated none token is at
    by false false is at =
        let wrong : top ≡ tagged (picked false) token = here ∙ fated none token is at in
        absurd (other_differs told_key token
        (sym (ap (λ (one : Token). one.tag) wrong) ∙ made ∙ ap (right_tag told_key) wrong))

pub top_real : (fate : ℕ → Bool) (top token : Token) → IsMade told_key top →
    tagged (fate_tag none) top ≡ tagged (fate_tag none) token →
    tagged (fate_tag fate) top ≡ tagged (fate_tag fate) token
top_real fate top token made same = ap (tagged (fate_tag fate)) (top_there top token made same)

-- one that is the top one on a real host is so on the played one, or may be
pub top_back : (fate : ℕ → Bool) (top token : Token) → IsMade told_key top →
    tagged (fate_tag fate) top ≡ tagged (fate_tag fate) token →
    (tagged (fate_tag none) top ≡ tagged (fate_tag none) token)
    ⊎ IsUnsure (Some (tagged (fate_tag none) top)) (tagged (fate_tag none) token)
top_back fate top token made same = by (is_right token) (name_of token == 0) refl refl
  where
    here : top ≡ tagged (fate_tag fate) token
    here = sym (made_stays fate top made) ∙ same

    by : (right zero : Bool) → is_right token ≡ right → (name_of token == 0) ≡ zero →
        (tagged (fate_tag none) top ≡ tagged (fate_tag none) token)
        ⊎ IsUnsure (Some (tagged (fate_tag none) top)) (tagged (fate_tag none) token)
    by true nil is at = inl (ap (tagged (fate_tag none)) (here ∙ right_stays fate token is))
    by false true is at = inl (ap (tagged (fate_tag none)) (here ∙ unfated fate token is at))
    by false false is at =
        inr (
          λ other. other_differs told_key token
              (let wrong : tagged (picked false) token ≡ top =
              sym (fated none token is at) ∙ other ∙ made_stays none top made in
              ap (λ (one : Token). one.tag) wrong ∙ made ∙ sym (ap (right_tag told_key) wrong)),
          ap (λ (one : Token). record one { tag = fate_tag none top }) same,
        )

-- a token that may be the top one has a name
pub unsure_named : (top token : Token) → IsMade told_key top →
    IsUnsure (Some (tagged (fate_tag none) top)) (tagged (fate_tag none) token) → is_right token ≡ false
unsure_named top token made unsure = by (is_right token) refl
  where
    by : (right : Bool) → is_right token ≡ right → right ≡ false
    by false is = refl
    by true is =
        let first = made_stays none top made in
        let second = right_stays none token is in
        let numbers : right_tag told_key top ≡ right_tag told_key token = ap (right_tag told_key) unsure.1 in
        let tags : top.tag ≡ token.tag = made ∙ numbers ∙ sym (is_right_tag token is) in
        let same : top ≡ token =
        ap (λ tag. record top { tag = tag }) tags
        ∙ ap (λ (one : Token). record one { tag = token.tag }) unsure.1 in
        absurd (unsure.0 (second ∙ sym same ∙ sym first))

-- where such a token has its fate, it is the top one just where it is right
pub fate_right : (fate : ℕ → Bool) (top token : Token) → IsMade told_key top →
    IsUnsure (Some (tagged (fate_tag none) top)) (tagged (fate_tag none) token) → is_right token ≡ false →
    (name_of token == 0) ≡ false → fate (name_of token) ≡ true →
    tagged (fate_tag fate) top ≡ tagged (fate_tag fate) token
fate_right fate top token made unsure wrong some right =
    let numbers : right_tag told_key top ≡ right_tag told_key token = ap (right_tag told_key) unsure.1 in
    made_stays fate top made
    ∙ ap (λ tag. record top { tag = tag }) (made ∙ numbers)
    ∙ ap (λ (one : Token). record one { tag = right_tag told_key token }) unsure.1
    ∙ ap (λ right. tagged (picked right) token) (sym right)
    ∙ sym (fated fate token wrong some)

pub fate_wrong : (fate : ℕ → Bool) (top token : Token) → IsMade told_key top → is_right token ≡ false →
    (name_of token == 0) ≡ false → fate (name_of token) ≡ false →
    tagged (fate_tag fate) top ≢ tagged (fate_tag fate) token
fate_wrong fate top token made wrong some right same =
    let here : top ≡ tagged (picked false) token =
    sym (made_stays fate top made) ∙ same ∙ fated fate token wrong some
    ∙ ap (λ right. tagged (picked right) token) right in
    other_differs told_key token (sym (ap (λ (one : Token). one.tag) here) ∙ made ∙ ap (right_tag told_key) here)

-- ---- another fate of a name that does not stand on the host

-- the fates but for one
abbrev pub with_fate : (ℕ → Bool) → ℕ → Bool → ℕ → Bool
with_fate fate name right other = if other == name then right else fate other

module _ (fate : ℕ → Bool) (name : ℕ) (right : Bool) where
  abbrev next : ℕ → Bool
  next = with_fate fate name right

  token_same : (token : Token) → hits name token ≡ 0 → tagged (fate_tag next) token ≡ tagged (fate_tag fate) token
  token_same token none_there = by (is_right token) (name_of token == name) refl refl
    where
      by : (own same : Bool) → is_right token ≡ own → (name_of token == name) ≡ same →
          tagged (fate_tag next) token ≡ tagged (fate_tag fate) token
      by true same is at = right_stays next token is ∙ sym (right_stays fate token is)
      by false true is at =
          let one : hits name token ≡ 1 = rw is (rw at refl) in
          absurd (omega (arith, one, none_there))
      by false false is at =
          ap (λ own. record token { tag = if own then token.tag else chosen_tag next (name_of token) token }) is
          ∙ ap (λ same. let found : Bool = if same then right else fate (name_of token) in
          record token { tag = if name_of token == 0 then token.tag else picked found token }) at
          ∙ sym (ap (λ own. record token {
            tag = if own then token.tag else chosen_tag fate (name_of token) token;
          }) is)

  held_same : (held : Option Token) → held_hits name held ≡ 0 →
      option_map (tagged (fate_tag next)) held ≡ option_map (tagged (fate_tag fate)) held
  held_same None zero_there = refl
  held_same (Some token) zero_there = ap Some (token_same token zero_there)

  running_same : (running : Option ThreadShape) → running_hits name running ≡ 0 →
      option_map (tagged_thread (fate_tag next)) running ≡ option_map (tagged_thread (fate_tag fate)) running
  running_same None zero_there = refl
  running_same (Some thread) zero_there =
      ap (λ held. Some (record thread { held = held })) (held_same thread.held zero_there)

  waiting_same : (waiting : List WaitingShape) → waiting_hits name waiting ≡ 0 →
      map (tagged_waiting (fate_tag next)) waiting ≡ map (tagged_waiting (fate_tag fate)) waiting
  waiting_same [] zero_there = refl
  waiting_same (first ∷ waiting) zero_there =
      let one = held_same first.thread.held (omega (arith, zero_there)) in
      let rest = waiting_same waiting (omega (arith, zero_there)) in
      ap (λ held. record first { thread = record first.thread { held = held } }
      ∷ map (tagged_waiting (fate_tag next)) waiting) one
      ∙ ap (λ others. tagged_waiting (fate_tag fate) first ∷ others) rest

  -- neither has its token the name, as the host made it
  entry_same : (entry : StackEntry) → IsMade told_key entry.token → (name == 0) ≡ false →
      entry_hits name entry ≡ 0 → tagged_entry (fate_tag next) entry ≡ tagged_entry (fate_tag fate) entry
  entry_same entry made some zero_there =
      let kept : hits name entry.kept ≡ 0 = by (is_lasting entry) refl in
      let token = made_stays next entry.token made ∙ sym (made_stays fate entry.token made) in
      ap (λ one. record entry { token = one; kept = tagged (fate_tag next) entry.kept }) token
      ∙ ap (λ one. record entry { token = tagged (fate_tag fate) entry.token; kept = one })
      (token_same entry.kept kept)
    where
      by : (lasts : Bool) → is_lasting entry ≡ lasts →
          hits name entry.kept ≡ 0
      by true is =
          let here : entry_hits name entry ≡ hits name entry.kept = rw is refl in sym here ∙ zero_there
      by false is =
          let here : entry_hits name entry ≡ hits name entry.kept = rw is (rw some refl) in sym here ∙ zero_there

  entries_same : (entries : List StackEntry) → AreMade told_key entries → (name == 0) ≡ false →
      entries_hits name entries ≡ 0 →
      map (tagged_entry (fate_tag next)) entries ≡ map (tagged_entry (fate_tag fate)) entries
  entries_same [] made some zero_there = refl
  entries_same (top ∷ below) made some zero_there =
      let one = entry_same top made.0 some (omega (arith, zero_there)) in
      let rest = entries_same below made.1 some (omega (arith, zero_there)) in
      ap (λ first. first ∷ map (tagged_entry (fate_tag next)) below) one
      ∙ ap (λ others. tagged_entry (fate_tag fate) top ∷ others) rest

  pub cast_same : (ignored : ℕ) (halted : Bool) (host : HostState) → AreMade told_key host.entries →
      (name == 0) ≡ false → count name host ≡ 0 →
      cast (fate_tag next) told_key ignored halted host ≡ cast (fate_tag fate) told_key ignored halted host
  cast_same ignored halted host made some zero_there =
      let runs = running_same host.running (omega (arith, zero_there)) in
      let waits = waiting_same host.waiting (omega (arith, zero_there)) in
      let lies = entries_same host.entries made some (omega (arith, zero_there)) in
      ap (λ running. record (cast (fate_tag next) told_key ignored halted host) { running = running }) runs
      ∙ ap (λ waiting. record (cast (fate_tag next) told_key ignored halted host) {
        running = option_map (tagged_thread (fate_tag fate)) host.running;
        waiting = waiting;
      }) waits
      ∙ ap (λ entries. record (cast (fate_tag fate) told_key ignored halted host) { entries = entries }) lies
