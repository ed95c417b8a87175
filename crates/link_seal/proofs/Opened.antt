-- What an opener opens was sealed for its link, and what was sealed for it is opened.
use Rattle.std.proofs.Common.{◌≡◌, ◌≢◌, ℕ, ◌+◌, ◌-◌, ◌<◌, ◌≤◌, Bool, true, false, List, [], ◌∷◌, ◌++◌, length, take}
use Rattle.std.proofs.Common.{drop, inl, inr, Ok, Err, refl, sym, ap, ap₂, ◌∙◌, arith}
use Rattle.std.specs.Prelude.{◌&&◌, not, if◌then◌else◌, nat_lt, Result}
use Rattle.std.specs.Int.{from_be_bytes, w64}
use Rattle.std.specs.Str.{bytes_eq}
use Rattle.std.proofs.lemmas.Slice.Eq.{bytes_eq-Decides}
use Rattle.std.proofs.lemmas.Bool.{cases_Bool, ltb-true, lt-ltb, leb-true, le-leb}
use Rattle.std.proofs.lemmas.List.{append-nil, take-append-drop}
use Rattle.std.proofs.lemmas.Nat.{from_be_bytes-to_be_bytes_8}
use Rattle.sha2.proofs.Facts256.{length-sha256}
use Rattle.js_base.specs.declared.ids.HostId.{HostId}
use Rattle.byte_format.specs.Numbers.{AreBytes, number_bytes, word_bytes}
use Rattle.byte_format.proofs.NumberLaws.{bytes_reads, bytes_again, number_reads, number_again}
use Rattle.byte_format.proofs.Sequels.{Reads, Again, reads_then, reads_last, reads_require}
use Rattle.byte_format.proofs.Sequels.{again_then, again_last, again_require}
use Rattle.link_seal.specs.declared.errors.OpenError.{OpenError}
use Rattle.link_seal.specs.declared.errors.OpenError.TheVariants as refusal
use Rattle.link_seal.specs.declared.sizes.TheConstants.{HEAD_BYTES, TAG_BYTES, LEAST_BODY_BYTES, MOST_BODY_BYTES}
use Rattle.link_seal.specs.declared.sizes.TheConstants.{MOST_FRAMES, MOST_FRAME_BYTES}
use Rattle.link_seal.specs.Hmac.{hmac_of}
use Rattle.link_seal.specs.Links.{LinkShape, text_of, with_tag, sealed, next_sealed, CanSeal}
use Rattle.link_seal.specs.Opening.{parts_at, frame_in, frame_alone, opens}

pub length-hmac : (key text : List ℕ) → length (hmac_of key text) ≡ TAG_BYTES
unfolding hmac_of
length-hmac key text = length-sha256 _

-- ---- the parts of a sealed frame

-- a length, a text and a tag
abbrev spelled : List ℕ × List ℕ → List ℕ
spelled parts = number_bytes (length parts.0 + TAG_BYTES) ++ (parts.0 ++ parts.1)

abbrev AreParts : List ℕ × List ℕ → Type 0
AreParts parts =
    (LEAST_BODY_BYTES ≤ length parts.0 + TAG_BYTES) × ((length parts.0 + TAG_BYTES ≤ MOST_BODY_BYTES)
    × (length parts.1 ≡ TAG_BYTES))

parts_reads : Reads parts_at (λ parts text. (text ≡ spelled parts) × AreParts parts)
unfolding parts_at
parts_reads =
    reads_then (number_reads _) (λ len _. reads_require refusal.TooLong (λ small. reads_require refusal.Short (λ some.
    reads_then (bytes_reads _ (len - TAG_BYTES)) (λ text is. reads_last (λ tag. (text, tag)) (bytes_reads _ TAG_BYTES)
    (λ tag also.
    let at_least : LEAST_BODY_BYTES ≤ len = leb-true _ _ some in
    let at_most : len ≤ MOST_BODY_BYTES = leb-true _ _ small in
    let long : len ≡ length text + TAG_BYTES = omega (arith, at_least, is.0) in (
      ap (λ n. number_bytes n ++ (text ++ tag)) long,
      (omega (arith, long, at_least), (omega (arith, long, at_most), also.0)),
    ))))))

parts_again : (parts : List ℕ × List ℕ) → AreParts parts → Again parts_at parts (spelled parts)
unfolding parts_at
parts_again (text, tag) are =
    let long : length text ≡ length text + TAG_BYTES - TAG_BYTES = omega arith in
    again_then _ (number_again _ (length text + TAG_BYTES) (omega (arith, are.1.0)))
    (again_require refusal.TooLong (le-leb _ _ are.1.0) (again_require refusal.Short (le-leb _ _ are.0)
    (again_then _ (bytes_again _ text _ long) (again_last (λ tag. (text, tag)) (bytes_again _ tag TAG_BYTES are.1.1)))))

-- ---- the frame in a text

abbrev giving : List ℕ → Result (List ℕ) OpenError
giving frame = Ok frame

granted : (test : Bool) (why : OpenError) (otherwise : Result (List ℕ) OpenError) (frame : List ℕ) →
    (if not test then Err why else otherwise) ≡ giving frame → (test ≡ true) × (otherwise ≡ giving frame)
granted true why otherwise frame is = (refl, is)
granted false why otherwise frame is = absurd cc

both_true : (one other : Bool) → (one && other) ≡ true → (one ≡ true) × (other ≡ true)
both_true true other is = (refl, is)
both_true false other is = absurd cc

giving_is : (one other : List ℕ) → giving one ≡ giving other → one ≡ other
giving_is one other is = cc

drop_twice : (bytes : List ℕ) → drop 8 (drop 2 bytes) ≡ drop HEAD_BYTES bytes
drop_twice [] = refl
drop_twice (one ∷ []) = refl
drop_twice (one ∷ other ∷ bytes) = refl

-- a text whose frame is taken is that of the next frame, and the tag is that of the text
text_is : (link : LinkShape) (text tag frame : List ℕ) → frame_in link text tag ≡ Ok frame →
    (link.next < MOST_FRAMES)
    × ((text ≡ text_of link.from link.to link.next frame) × (tag ≡ hmac_of link.key text))
text_is link text tag frame is =
    let hosts = link.from.0 ∷ link.to.0 ∷ [] in
    let number = take 8 (drop 2 text) in
    let tagged = granted (bytes_eq (hmac_of link.key text) tag) refusal.BadTag _ frame is in
    let linked = granted (bytes_eq (take 2 text) hosts) refusal.WrongLink _ frame tagged.1 in
    let is_next = bytes_eq number (word_bytes link.next) in
    let numbered = granted (is_next && nat_lt link.next MOST_FRAMES) _ _ frame linked.1 in
    let tests = both_true is_next _ numbered.0 in
    let hosts_are : take 2 text ≡ hosts = (bytes_eq-Decides (take 2 text) hosts).0 linked.0 in
    let number_is : number ≡ word_bytes link.next = (bytes_eq-Decides number (word_bytes link.next)).0 tests.0 in
    let frame_is : drop 8 (drop 2 text) ≡ frame = drop_twice text ∙ giving_is _ _ numbered.1 in (
      ltb-true _ _ tests.1,
      (
        sym (take-append-drop 2 text) ∙ ap₂ (λ (a b : List ℕ). a ++ b) hosts_are
            (sym (take-append-drop 8 (drop 2 text)) ∙ ap₂ (λ (a b : List ℕ). a ++ b) number_is frame_is),
        sym ((bytes_eq-Decides (hmac_of link.key text) tag).0 tagged.0),
      ),
    )

pub same_bytes : (bytes : List ℕ) → bytes_eq bytes bytes ≡ true
same_bytes bytes = (bytes_eq-Decides bytes bytes).1 refl

-- of a text with its tag and the hosts of the link the number alone is tested
by_number : (link : LinkShape) (number : ℕ) (frame : List ℕ) →
    let text = text_of link.from link.to number frame in
    frame_in link text (hmac_of link.key text)
    ≡ (if not (bytes_eq (word_bytes number) (word_bytes link.next) && nat_lt link.next MOST_FRAMES)
    then Err (refusal.WrongNumber link.next)
    else Ok frame)
unfolding word_bytes
by_number link number frame =
    let text = text_of link.from link.to number frame in
    rw (same_bytes (hmac_of link.key text), same_bytes (link.from.0 ∷ link.to.0 ∷ [])) refl

frame_again : (link : LinkShape) (frame : List ℕ) → link.next < MOST_FRAMES →
    let text = text_of link.from link.to link.next frame in
    frame_in link text (hmac_of link.key text) ≡ Ok frame
frame_again link frame below =
    let under : nat_lt link.next MOST_FRAMES ≡ true = lt-ltb _ _ below in
    by_number link link.next frame ∙ rw (same_bytes (word_bytes link.next), under) refl

other_refused : (link : LinkShape) (number : ℕ) (frame : List ℕ) → number < MOST_FRAMES → number ≢ link.next →
    let text = text_of link.from link.to number frame in
    frame_in link text (hmac_of link.key text) ≡ Err (refusal.WrongNumber link.next)
unfolding word_bytes
other_refused link number frame below other =
    let test = bytes_eq (word_bytes number) (word_bytes link.next) && nat_lt link.next MOST_FRAMES in
    by_number link number frame ∙ elim (cases_Bool test) [
      | inl passes ↦ absurd (other (
          let tests = both_true _ _ passes in
          sym (from_be_bytes-to_be_bytes_8 number (omega (arith, below)))
          ∙ ap (from_be_bytes w64) ((bytes_eq-Decides (word_bytes number) (word_bytes link.next)).0 tests.0)
          ∙ from_be_bytes-to_be_bytes_8 link.next (omega (arith, ltb-true _ _ tests.1))))
      | inr fails ↦ rw fails refl
    ]

length-text : (from to : HostId) (number : ℕ) (frame : List ℕ) →
    length (text_of from to number frame) ≡ length frame + HEAD_BYTES
unfolding word_bytes
length-text from to number frame = omega arith

-- ---- both

alone_is : (link : LinkShape) (reading : Result ((List ℕ × List ℕ) × List ℕ) OpenError) (frame : List ℕ) →
    frame_alone link reading ≡ Ok frame →
    (parts : List ℕ × List ℕ) × (reading ≡ Ok (parts, [])) × (frame_in link parts.0 parts.1 ≡ Ok frame)
alone_is link (Ok (parts, [])) frame is = (parts, refl, is)
alone_is link (Ok (parts, byte ∷ behind)) frame is = absurd cc
alone_is link (Err why) frame is = absurd cc

pub opened : (link : LinkShape) (bytes frame : List ℕ) → AreBytes bytes → opens link bytes ≡ Ok frame →
    CanSeal link.next frame × (bytes ≡ next_sealed link frame)
unfolding opens
opened link bytes frame fits is =
    let found = alone_is link (parts_at bytes) frame is in
    let text = found.0.0 in
    let tag = found.0.1 in
    let read = parts_reads.taken bytes found.0 [] fits found.1 in
    let said = text_is link text tag frame found.2 in
    let text_of_frame = text_of link.from link.to link.next frame in
    let tag_is : tag ≡ hmac_of link.key text_of_frame = said.1.1 ∙ ap (hmac_of link.key) said.1.0 in
    let long : length text ≡ length frame + HEAD_BYTES =
    ap length said.1.0 ∙ length-text link.from link.to link.next frame in (
      (said.0, omega (arith, long, read.is.1.1.0)),
      read.parts ∙ append-nil read.text ∙ read.is.0
          ∙ ap₂ (λ (a b : List ℕ). number_bytes (length a + TAG_BYTES) ++ (a ++ b)) said.1.0 tag_is,
    )

-- bytes that are a text and its tag are opened to what is in the text
tagged_opens : (link : LinkShape) (text : List ℕ) → HEAD_BYTES ≤ length text →
    length text ≤ HEAD_BYTES + MOST_FRAME_BYTES →
    opens link (with_tag link.key text) ≡ frame_in link text (hmac_of link.key text)
unfolding opens
tagged_opens link text some few =
    let tag = hmac_of link.key text in
    let are : AreParts (text, tag) = (omega (arith, some), (omega (arith, few), length-hmac link.key text)) in
    ap (λ bytes. frame_alone link (parts_at bytes)) (sym (append-nil (with_tag link.key text)))
    ∙ ap (frame_alone link) ((parts_again (text, tag) are).again [])

sealed_opens : (link : LinkShape) (number : ℕ) (frame : List ℕ) → length frame ≤ MOST_FRAME_BYTES →
    let text = text_of link.from link.to number frame in
    opens link (sealed link.key link.from link.to number frame) ≡ frame_in link text (hmac_of link.key text)
sealed_opens link number frame few =
    let long = length-text link.from link.to number frame in
    tagged_opens link (text_of link.from link.to number frame) (omega (arith, long)) (omega (arith, long, few))

pub again : (link : LinkShape) (frame : List ℕ) → CanSeal link.next frame →
    opens link (next_sealed link frame) ≡ Ok frame
again link frame can = sealed_opens link link.next frame can.1 ∙ frame_again link frame can.0

pub out_of_turn : (link : LinkShape) (number : ℕ) (frame : List ℕ) → CanSeal number frame → number ≢ link.next →
    opens link (sealed link.key link.from link.to number frame) ≡ Err (refusal.WrongNumber link.next)
out_of_turn link number frame can other =
    sealed_opens link number frame can.1 ∙ other_refused link number frame can.0 other
