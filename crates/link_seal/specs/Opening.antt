-- What an opener answers: the frame in a sealed one, or the first fault, in the order of refusals.
use Rattle.std.specs.Prelude.{◌≡◌, ℕ, ◌-◌, ◌&&◌, not, if◌then◌else◌, nat_le, nat_lt, List, [], ◌∷◌, take, drop}
use Rattle.std.specs.Prelude.{Result, Ok, Err, MatchResult}
use Rattle.std.specs.Int.{w32}
use Rattle.std.specs.Str.{bytes_eq}
use Rattle.byte_format.specs.Numbers.{word_bytes}
use Rattle.byte_format.specs.Reader.{Reader, ◌>>=◌, given, require, bytes_at, number_at}
use Rattle.link_seal.specs.declared.errors.OpenError.{OpenError}
use Rattle.link_seal.specs.declared.errors.OpenError.TheVariants as refusal
use Rattle.link_seal.specs.declared.sizes.TheConstants.{HEAD_BYTES, TAG_BYTES, LEAST_BODY_BYTES, MOST_BODY_BYTES}
use Rattle.link_seal.specs.declared.sizes.TheConstants.{MOST_FRAMES}
use Rattle.link_seal.specs.Hmac.{hmac_of}
use Rattle.link_seal.specs.Links.{LinkShape}

-- the text of a sealed frame, and its tag
unfoldable pub parts_at : Reader OpenError (List ℕ × List ℕ)
parts_at = do
  len ← number_at refusal.Short w32
  _ ← require (nat_le len MOST_BODY_BYTES) refusal.TooLong
  _ ← require (nat_le LEAST_BODY_BYTES len) refusal.Short
  text ← bytes_at refusal.Short (len - TAG_BYTES)
  tag ← bytes_at refusal.Short TAG_BYTES
  given (text, tag)

-- the frame in a text, where the tag is that of the text, and the text that of the next frame of the link
abbrev pub frame_in : LinkShape → (text tag : List ℕ) → Result (List ℕ) OpenError
frame_in link text tag =
    if not (bytes_eq (hmac_of link.key text) tag) then Err refusal.BadTag
    else (if not (bytes_eq (take 2 text) (link.from.0 ∷ link.to.0 ∷ [])) then Err refusal.WrongLink
    else (if not (bytes_eq (take 8 (drop 2 text)) (word_bytes link.next) && nat_lt link.next MOST_FRAMES)
    then Err (refusal.WrongNumber link.next)
    else Ok (drop HEAD_BYTES text)))

-- nothing stands behind the parts
abbrev pub frame_alone : LinkShape → Result ((List ℕ × List ℕ) × List ℕ) OpenError → Result (List ℕ) OpenError
frame_alone link (Ok (parts, [])) = frame_in link parts.0 parts.1
frame_alone link (Ok (parts, byte ∷ behind)) = Err refusal.Trailing
frame_alone link (Err why) = Err why

-- what an opener answers to bytes, where it stands at the next frame of the link
unfoldable pub opens : LinkShape → List ℕ → Result (List ℕ) OpenError
opens link bytes = frame_alone link (parts_at bytes)

-- what the call returned, as contracts see it, is what there is to read
abbrev pub OpensAs : {X Y : Type 0} → (X → Y) → Result X OpenError → Result Y OpenError → Type 0
OpensAs view result reading = MatchResult result (λ x. reading ≡ Ok (view x)) (λ what. reading ≡ Err what)
