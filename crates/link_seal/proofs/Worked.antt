-- Small cases of what is opened and accepted.
use Rattle.std.proofs.Common.{◌≡◌, ◌≢◌, ℕ, ◌+◌, false, List, [], ◌∷◌, take, drop, Ok, Err, refl, sym, ap, ◌∙◌, arith}
use Rattle.std.specs.Prelude.{◌&&◌, not, if◌then◌else◌, nat_lt}
use Rattle.std.specs.Str.{bytes_eq}
use Rattle.std.proofs.lemmas.Bool.{false_from_ne_true}
use Rattle.std.proofs.lemmas.Slice.Eq.{bytes_eq-Decides}
use Rattle.byte_format.specs.Numbers.{word_bytes}
use Rattle.link_seal.specs.declared.errors.OpenError.TheVariants as refusal
use Rattle.link_seal.specs.declared.sizes.TheConstants.{HEAD_BYTES, MOST_FRAMES}
use Rattle.link_seal.specs.Accepting.{accepted, with_answer}
use Rattle.link_seal.specs.Hmac.{hmac_of}
use Rattle.link_seal.specs.Links.{LinkShape, after_one, next_sealed, CanSeal}
use Rattle.link_seal.specs.Opening.{frame_in, opens}
use Rattle.link_seal.proofs.Opened.{same_bytes, again, out_of_turn}

pub bad_tag : (link : LinkShape) (text tag : List ℕ) → tag ≢ hmac_of link.key text →
    frame_in link text tag ≡ Err refusal.BadTag
bad_tag link text tag other =
    let fails : bytes_eq (hmac_of link.key text) tag ≡ false =
    false_from_ne_true _ (λ same. other (sym ((bytes_eq-Decides (hmac_of link.key text) tag).0 same))) in
    rw fails refl

-- a text with its own tag is taken by what is in it
pub with_its_tag : (link : LinkShape) (text : List ℕ) →
    frame_in link text (hmac_of link.key text)
    ≡ (if not (bytes_eq (take 2 text) (link.from.0 ∷ link.to.0 ∷ [])) then Err refusal.WrongLink
    else (if not (bytes_eq (take 8 (drop 2 text)) (word_bytes link.next) && nat_lt link.next MOST_FRAMES)
    then Err (refusal.WrongNumber link.next)
    else Ok (drop HEAD_BYTES text)))
with_its_tag link text = rw (same_bytes (hmac_of link.key text)) refl

pub taken_twice : (link : LinkShape) (first second : List ℕ) → CanSeal link.next first →
    CanSeal (link.next + 1) second →
    let one = next_sealed link first in
    let other = next_sealed (after_one link) second in
    accepted link (one ∷ one ∷ other ∷ [])
    ≡ record { string = one; frame = first } ∷ record { string = other; frame = second } ∷ []
taken_twice link first second can also =
    let one = next_sealed link first in
    let next = after_one link in
    let other = next_sealed next second in
    let taken : opens link one ≡ Ok first = again link first can in
    let refused : opens next one ≡ Err (refusal.WrongNumber (link.next + 1)) =
    out_of_turn next link.next first can (λ same. absurd (omega (arith, same))) in
    let behind : opens next other ≡ Ok second = again next second also in
    ap (λ answer. with_answer one answer (accepted next (one ∷ other ∷ [])) (accepted link (one ∷ other ∷ []))) taken
    ∙ ap (λ rest. record { string = one; frame = first } ∷ rest)
    (ap (λ answer. with_answer one answer (accepted (after_one next) (other ∷ [])) (accepted next (other ∷ []))) refused
    ∙ ap (λ answer. with_answer other answer [] []) behind)
