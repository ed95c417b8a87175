-- What an opener accepts in order is a beginning of what was sealed, or some string that it accepts is forged.
use Rattle.std.proofs.Common.{◌≡◌, ◌⊎◌, inl, inr, ℕ, ◌+◌, ◌<◌, ◌≤◌, List, [], ◌∷◌, length, take, drop, Some, None}
use Rattle.std.proofs.Common.{Ok, Err, All, refl, sym, ap, ◌∙◌, arith}
use Rattle.std.specs.Prelude.{Option, Result, slice_get}
use Rattle.std.proofs.lemmas.List.{drop_more, length-append, take_at}
use Rattle.std.proofs.lemmas.List.Elements.{All-tail}
use Rattle.std.proofs.lemmas.Nat.{from_be_bytes-to_be_bytes_8}
use Rattle.std.proofs.lemmas.Option.{get_or_from_slice_get, slice_get_within}
use Rattle.std.specs.Int.{from_be_bytes, w64}
use Rattle.js_base.specs.declared.ids.HostId.{HostId}
use Rattle.js_base.proofs.Decisions.{Decided, same_text}
use Rattle.js_base.proofs.Lists.{Contains-at_head, Contains-tail}
use Rattle.byte_format.specs.Numbers.{AreBytes, number_bytes, word_bytes}
use Rattle.link_seal.specs.declared.errors.OpenError.{OpenError}
use Rattle.link_seal.specs.declared.sizes.TheConstants.{MOST_FRAMES}
use Rattle.link_seal.specs.Hmac.{hmac_of}
use Rattle.link_seal.specs.Links.{LinkShape, new_link, after_one, text_of, sealed}
use Rattle.link_seal.specs.Opening.{opens}
use Rattle.link_seal.specs.Accepting.{Accepted, accepted, frames_of, with_answer, AreFirstFrames, IsForged, SomeForged}
use Rattle.link_seal.proofs.Opened.{length-hmac, opened}

-- ---- sealed frames are told apart

number_in : List ℕ → ℕ
number_in string = from_be_bytes w64 (take 8 (drop 6 string))

module _ (key : List ℕ) (from to : HostId) where
  number_sealed : (number : ℕ) (frame : List ℕ) → number < MOST_FRAMES →
      number_in (sealed key from to number frame) ≡ number
  unfolding number_in number_bytes word_bytes
  number_sealed number frame below = from_be_bytes-to_be_bytes_8 number (omega (arith, below))

  pub length-sealed : (number : ℕ) (frame : List ℕ) → length (sealed key from to number frame) ≡ length frame + 46
  unfolding number_bytes word_bytes
  length-sealed number frame =
      let tag = hmac_of key (text_of from to number frame) in
      omega (arith, length-hmac key (text_of from to number frame), length-append frame tag)

  frame_sealed : (number : ℕ) (frame : List ℕ) → take (length frame) (drop 14 (sealed key from to number frame)) ≡ frame
  unfolding number_bytes word_bytes
  frame_sealed number frame = take_at frame (hmac_of key (text_of from to number frame)) (length frame) refl

  pub sealed_once : (m n : ℕ) (f g : List ℕ) → m < MOST_FRAMES → n < MOST_FRAMES →
      sealed key from to m f ≡ sealed key from to n g → (m ≡ n) × (f ≡ g)
  sealed_once m n f g below under same =
      let long : length f ≡ length g = omega (arith, ap length same, length-sealed m f, length-sealed n g) in (
        sym (number_sealed m f below) ∙ ap number_in same ∙ number_sealed n g under,
        sym (frame_sealed m f) ∙ ap (λ (string : List ℕ). take (length f) (drop 14 string)) same
            ∙ ap (λ (k : ℕ). take k (drop 14 (sealed key from to n g))) long ∙ frame_sealed n g,
      )

-- ---- one more string

is_sealed : (one : Option (List ℕ)) (frame : List ℕ) → Decided (one ≡ Some frame)
is_sealed None frame = inr (λ is. absurd cc)
is_sealed (Some one) frame = elim (same_text one frame) [
  | inl same ↦ inl (ap Some same)
  | inr other ↦ inr (λ is. other cc)
]

module _ (frames : List (List ℕ)) (few : length frames ≤ MOST_FRAMES) where
  -- what was accepted from the next frame of the link on
  abbrev Outcome : LinkShape → List Accepted → Type 0
  Outcome link taken =
      AreFirstFrames (frames_of taken) (drop link.next frames) ⊎ SomeForged link frames taken

  -- a string that was opened is forged, where another frame was sealed with its number, or none
  other_frame : (link : LinkShape) (string frame : List ℕ) → AreBytes string → opens link string ≡ Ok frame →
      ¬ (slice_get frames link.next ≡ Some frame) → IsForged link frames string
  other_frame link string frame fits is differs =
      let said = opened link string frame fits is in
      record {
        number = link.next;
        frame = frame;
        can = said.0;
        is_tagged = said.1;
        is_other = λ place one at same.
            let below : place < MOST_FRAMES = omega (arith, slice_get_within frames place one at, few) in
            let alike = sealed_once link.key link.from link.to place link.next one frame below said.0.0
            (sym same ∙ said.1) in
            differs (ap (slice_get frames) (sym alike.0) ∙ at ∙ ap Some alike.1);
      }

  first_frame : (link : LinkShape) (string frame : List ℕ) (behind : List Accepted) →
      slice_get frames link.next ≡ Some frame → Outcome (after_one link) behind →
      Outcome link (record { string = string; frame = frame } ∷ behind)
  first_frame link string frame behind at (inl rest) =
      let left : drop link.next frames ≡ frame ∷ drop (link.next + 1) frames =
      drop_more frames link.next [] (slice_get_within frames link.next frame at)
      ∙ ap (λ (one : List ℕ). one ∷ drop (link.next + 1) frames)
      (get_or_from_slice_get frames link.next frame [] at) in
      inl (rest.0, ap (λ (all : List (List ℕ)). frame ∷ all) rest.1 ∙ sym left)
  first_frame link string frame behind at (inr forged) =
      inr (forged.0, Contains-tail _ behind forged.0 forged.1, same_forged forged.2)
    where
      -- how far a link has come says nothing of what is forged
      same_forged : {string : List ℕ} → IsForged (after_one link) frames string → IsForged link frames string
      same_forged is = record {
        number = is.number;
        frame = is.frame;
        can = is.can;
        is_tagged = is.is_tagged;
        is_other = is.is_other;
      }

  one_more : (link : LinkShape) (string : List ℕ) (answer : Result (List ℕ) OpenError)
      (behind otherwise : List Accepted) → AreBytes string → opens link string ≡ answer →
      Outcome (after_one link) behind → Outcome link otherwise →
      Outcome link (with_answer string answer behind otherwise)
  one_more link string (Err why) behind otherwise fits is more same = same
  one_more link string (Ok frame) behind otherwise fits is more same =
      elim (is_sealed (slice_get frames link.next) frame) [
        | inl at ↦ first_frame link string frame behind at more
        | inr differs ↦ inr (_, Contains-at_head _ _ behind refl, other_frame link string frame fits is differs)
      ]

  from_here : (link : LinkShape) (strings : List (List ℕ)) → All AreBytes strings → Outcome link (accepted link strings)
  from_here link [] fits = inl (drop link.next frames, refl)
  from_here link (string ∷ strings) fits =
      let behind = All-tail AreBytes string strings fits in
      one_more link string (opens link string) (accepted (after_one link) strings) (accepted link strings)
      (fits 0 string (omega arith)) refl (from_here (after_one link) strings behind) (from_here link strings behind)

pub prefix : (key : List ℕ) (from to : HostId) (frames strings : List (List ℕ)) → length frames ≤ MOST_FRAMES →
    All AreBytes strings →
    let link = new_link key from to in
    let taken = accepted link strings in
    AreFirstFrames (frames_of taken) frames ⊎ SomeForged link frames taken
prefix key from to frames strings few fits = from_here frames few (new_link key from to) strings fits
