-- Tags by which one host stands for two: a host with any key, and one that is played from its journal. Their own tokens
-- are those that it made with the key of played hosts. Any other token has a mark: a tag of which the first byte is not
-- that of the tag it would make.
use Rattle.std.proofs.Common.{◌≡◌, ◌≢◌, ◌∙◌, ℕ, Bool, true, false, refl, ap, sym, List, [], ◌∷◌, ◌++◌, arith}
use Rattle.std.proofs.Common.{zero, suc, length, w32}
use Rattle.std.specs.Prelude.{◌==◌, ◌*◌, if◌then◌else◌, slice_index}
use Rattle.std.specs.Int.{to_be_bytes}
use Rattle.std.proofs.lemmas.Bool.Decides.{nat_tests}
use Rattle.std.proofs.lemmas.List.{get_or-set_same, length-append, length-take-le}
use Rattle.sha2.specs.Sha256.{digest_bytes, final_hash, initial_hash_256, sha256}
use Rattle.capability.specs.declared.tags.TheConstants.{TAG_BYTES}
use Rattle.capability.specs.declared.token.Token.{Token}
use Rattle.capability.specs.Tag.{tag_of, token_bytes}
use Rattle.host_code.specs.declared.message.Message.{Message}
use Rattle.host_code.specs.declared.message.Message.TheVariants as message
use Rattle.host_core.specs.Told.{other_tag, told_key, with_wrong_tag, with_wrong_tags}
use Rattle.journal_laws.specs.Bare.{bare_message}
use Rattle.journal_laws.proofs.KeptStacks.{IsMade}
use Rattle.journal_laws.proofs.Retagged.{HasTags, tagged, tagged_message}

-- ---- tags that a key makes

-- the tag that a key makes for the numbers of the token
abbrev pub right_tag : List ℕ → Token → List ℕ
right_tag key token = tag_of key token.host token.frame token.entry token.serial

digest_long : (hash : List ℕ) (count : ℕ) → length (digest_bytes hash count) ≡ count * 4
unfolding digest_bytes
digest_long hash zero = refl
digest_long hash (suc count) =
    let long = length-append (digest_bytes hash count) (to_be_bytes w32 (slice_index hash count)) in
    let front = digest_long hash count in
    omega (arith, long, front)

pub tag_long : (key : List ℕ) (token : Token) → length (right_tag key token) ≡ TAG_BYTES
unfolding tag_of sha256
tag_long key token =
    let fed = key ++ token_bytes token.host token.frame token.entry token.serial in
    let long = digest_long (final_hash initial_hash_256 fed) 8 in
    length-take-le TAG_BYTES (digest_bytes (final_hash initial_hash_256 fed) 8) (omega (arith, long))

abbrev flipped : ℕ → ℕ
flipped first = if first == 0 then 1 else 0

flips : (first : ℕ) → flipped first ≢ first
flips first same = by (first == 0) refl
  where
    by : (none : Bool) → (first == 0) ≡ none → ⊥
    by true is = let e : 1 ≡ first = rw is at same in grind (arith, nat_tests)
    by false is = let e : 0 ≡ first = rw is at same in grind (arith, nat_tests)

-- another tag than the one that is made
pub other_differs : (key : List ℕ) (token : Token) → other_tag (right_tag key token) ≢ right_tag key token
other_differs key token same =
    let long = tag_long key token in
    let tag = right_tag key token in
    flips (slice_index tag 0)
    (sym (get_or-set_same tag 0 (flipped (slice_index tag 0)) 0 (omega (arith, long)))
    ∙ ap (λ tag. slice_index tag 0) same)

-- ---- own tokens and marked ones

-- whether the token is one that the host made with the key of played hosts
abbrev pub is_made : Token → Bool
is_made token = slice_index token.tag 0 == slice_index (right_tag told_key token) 0

-- the mark of a token of others, which keeps its tag
abbrev pub marked : Token → List ℕ
marked token = suc (slice_index (right_tag told_key token) 0) ∷ token.tag

abbrev unmarked : List ℕ → List ℕ
unmarked [] = []
unmarked (byte ∷ tag) = tag

-- the tag on a host that is played, and on one with a key
abbrev pub told_tag : Token → List ℕ
told_tag token = if is_made token then token.tag else other_tag (right_tag told_key token)

abbrev pub real_tag : List ℕ → Token → List ℕ
real_tag key token = if is_made token then right_tag key token else unmarked token.tag

pub same_number : (n : ℕ) → (n == n) ≡ true
same_number n = grind (arith, nat_tests)

next_number : (n : ℕ) → (suc n == n) ≡ false
next_number n = by (suc n == n) refl
  where
    by : (same : Bool) → (suc n == n) ≡ same → same ≡ false
    by false is = refl
    by true is = absurd (let e : suc n ≡ n = grind (arith, nat_tests) in omega (arith, e))

pub made_is : (token : Token) → IsMade told_key token → is_made token ≡ true
made_is token made =
    ap (λ tag. slice_index tag 0 == slice_index (right_tag told_key token) 0) made
    ∙ same_number (slice_index (right_tag told_key token) 0)

pub marked_is : (token : Token) → is_made (tagged marked token) ≡ false
marked_is token = next_number (slice_index (right_tag told_key token) 0)

pub told_has : HasTags told_tag told_key told_key
told_has host frame entry serial =
    let tag = tag_of told_key host frame entry serial in
    ap (λ made. if made then tag else other_tag tag) (same_number (slice_index tag 0))

pub real_has : (key : List ℕ) → HasTags (real_tag key) told_key key
real_has key host frame entry serial =
    let tag = tag_of told_key host frame entry serial in
    ap (λ made. if made then tag_of key host frame entry serial else unmarked tag) (same_number (slice_index tag 0))

-- a marked token has a wrong tag on the host that is played, and its own on the other
told_marked : (token : Token) → tagged told_tag (tagged marked token) ≡ with_wrong_tag token
told_marked token =
    ap (λ made. record token {
      tag = if made then marked token else other_tag (right_tag told_key token);
    }) (marked_is token)

pub real_marked : (key : List ℕ) (token : Token) → tagged (real_tag key) (tagged marked token) ≡ token
real_marked key token =
    ap (λ made. record token {
      tag = if made then right_tag key token else token.tag;
    }) (marked_is token)

told_letter : (letter : Message) → tagged_message told_tag (tagged_message marked letter) ≡ with_wrong_tags letter
told_letter (message.Get request field index) = refl
told_letter (message.Set request field index value) = refl
told_letter (message.Forward request frame variable value) = refl
told_letter (message.Sync request frame entry token) = ap (message.Sync request frame entry) (told_marked token)
told_letter (message.Rgoto frame entry token) = ap (message.Rgoto frame entry) (told_marked token)
told_letter (message.RgotoWith frame entry token riders) =
    ap (λ token. message.RgotoWith frame entry token riders) (told_marked token)
told_letter (message.Lgoto token) = ap message.Lgoto (told_marked token)
told_letter (message.Value request value) = refl
told_letter (message.Ack request) = refl
told_letter (message.Token request token) = ap (message.Token request) (told_marked token)

wrong_bare : (letter : Message) → with_wrong_tags (bare_message letter) ≡ with_wrong_tags letter
wrong_bare (message.Get request field index) = refl
wrong_bare (message.Set request field index value) = refl
wrong_bare (message.Forward request frame variable value) = refl
wrong_bare (message.Sync request frame entry token) = refl
wrong_bare (message.Rgoto frame entry token) = refl
wrong_bare (message.RgotoWith frame entry token riders) = refl
wrong_bare (message.Lgoto token) = refl
wrong_bare (message.Value request value) = refl
wrong_bare (message.Ack request) = refl
wrong_bare (message.Token request token) = refl

pub marked_told : (letter other : Message) → bare_message letter ≡ bare_message other →
    tagged_message told_tag (tagged_message marked other) ≡ with_wrong_tags letter
marked_told letter other alike =
    told_letter other ∙ sym (wrong_bare other) ∙ ap with_wrong_tags (sym alike) ∙ wrong_bare letter

pub marked_real : (key : List ℕ) (letter : Message) →
    tagged_message (real_tag key) (tagged_message marked letter) ≡ letter
marked_real key (message.Get request field index) = refl
marked_real key (message.Set request field index value) = refl
marked_real key (message.Forward request frame variable value) = refl
marked_real key (message.Sync request frame entry token) = ap (message.Sync request frame entry) (real_marked key token)
marked_real key (message.Rgoto frame entry token) = ap (message.Rgoto frame entry) (real_marked key token)
marked_real key (message.RgotoWith frame entry token riders) =
    ap (λ token. message.RgotoWith frame entry token riders) (real_marked key token)
marked_real key (message.Lgoto token) = ap message.Lgoto (real_marked key token)
marked_real key (message.Value request value) = refl
marked_real key (message.Ack request) = refl
marked_real key (message.Token request token) = ap (message.Token request) (real_marked key token)

-- ---- a token that is the same on the played host

-- as one that the host made is that one
pub same_told : (top token : Token) → IsMade told_key top → tagged told_tag top ≡ tagged told_tag token → top ≡ token
same_told top token made same = by (is_made token) refl
  where
    own : top.tag ≡ told_tag token
    own = sym (ap (λ is. if is then top.tag else other_tag (right_tag told_key top)) (made_is top made))
        ∙ ap (λ (one : Token). one.tag) same

    numbers : right_tag told_key top ≡ right_tag told_key token
    numbers = ap (right_tag told_key) same

    chosen : Bool → List ℕ
    chosen is = if is then token.tag else other_tag (right_tag told_key token)

    by : (is : Bool) → is_made token ≡ is → top ≡ token
    by true is =
        let tags : top.tag ≡ token.tag = own ∙ ap chosen is in
        ap (λ tag. record top { tag = tag }) tags ∙ ap (λ (one : Token). record one { tag = token.tag }) same
    by false is =
        absurd (other_differs told_key token
        (sym (own ∙ ap chosen is) ∙ made ∙ numbers))
