-- A message that is printed is read as that message, but for the tag of its token. So steps with the same line are
-- alike.
use Rattle.std.proofs.Common.{◌≡◌, ◌∙◌, ℕ, true, List, [], ◌∷◌, ◌++◌, length, refl, ap, sym}
use Rattle.std.proofs.Common.{Option, Some, None, codes, append_assoc, arith}
use Rattle.std.specs.Prelude.{nat_le}
use Rattle.std.specs.Fmt.{signed_decimal}
use Rattle.std.specs.List.{AllByRecursion}
use Rattle.std.proofs.lemmas.Bool.Decides.{nat_tests}
use Rattle.js_base.specs.declared.ids.HostId.{HostId}
use Rattle.js_base.specs.declared.ids.RequestId.{RequestId}
use Rattle.capability.specs.declared.token.Token.{Token}
use Rattle.host_code.specs.declared.message.Message.{Message}
use Rattle.host_code.specs.declared.message.Message.TheVariants as message
use Rattle.host_code.specs.declared.riders.TheConstants.{MOST_RIDERS}
use Rattle.host_code.specs.Code.{CodeShape}
use Rattle.host_code.specs.Messages.{MessageFits, AreOfCode}
use Rattle.host_code.specs.MessageText.{host_text, field_text, variable_text, request_text, frame_text, entry_text}
use Rattle.host_code.specs.MessageText.{token_text, message_text, riders_text}
use Rattle.host_code.specs.Riders.{Rider, riders_from, AreFew}
use Rattle.host_code.specs.Sound.{IsSoundCode, IsHost}
use Rattle.event_text.specs.declared.event.BadMessage.{BadMessage}
use Rattle.event_text.specs.declared.event.BadMessage.TheVariants as bad
use Rattle.event_text.specs.declared.event.BadToken.{BadToken}
use Rattle.event_text.specs.declared.event.BadToken.TheVariants.{Sent, Own}
use Rattle.event_text.specs.Acts.{printed_message, riders_in}
use Rattle.event_text.specs.Lines.{words}
use Rattle.event_text.specs.Parts.{host_named}
use Rattle.event_text.specs.Words.{Word}
use Rattle.event_text.proofs.NumbersAgain.{signed_again}
use Rattle.event_text.proofs.PrintedWords.{set_word}
use Rattle.event_text.proofs.SaidAgain.{spaced_two, spaced_three, spaced_four}
use Rattle.event_text.proofs.SaidRiders.{spaced, joined_spaced}
use Rattle.event_text.proofs.SaidWords.{IsWord, joined, joined_words}
use Rattle.wire_msg.specs.Frames.{IsMessage, IsWireRequest, IsRider}
use Rattle.journal_laws.specs.Bare.{bare_message, bare_token}
use Rattle.journal_laws.specs.Plays.{HaveOwnNames}
use Rattle.journal_laws.proofs.PartsAgain.{part_word, signed_part, request_part, frame_part, entry_part}
use Rattle.journal_laws.proofs.PartsAgain.{field_part, variable_part, token_word}
use Rattle.journal_laws.proofs.PartsAgain.{request_again, frame_again, entry_again, field_again, variable_again}
use Rattle.journal_laws.proofs.PartsAgain.{host_again, token_again}

-- ---- messages as they are read

abbrev pub as_read : Message → BadMessage
as_read (message.Get request field index) = bad.Get request field index
as_read (message.Set request field index value) = bad.Set request field index value
as_read (message.Forward request frame variable value) = bad.Forward request frame variable value
as_read (message.Sync request frame entry token) = bad.Sync request frame entry (Own (bare_token token))
as_read (message.Rgoto frame entry token) = bad.Rgoto frame entry (Own (bare_token token))
as_read (message.RgotoWith frame entry token riders) = bad.RgotoWith frame entry (Own (bare_token token)) riders
as_read (message.Lgoto token) = bad.Lgoto (Own (bare_token token))
as_read (message.Value request value) = bad.Value request value
as_read (message.Ack request) = bad.Ack request
as_read (message.Token request token) = bad.Token request (Own (bare_token token))

-- the token that was read, and any other where a number was
abbrev token_of : Token → BadToken → Token
token_of none (Own token) = token
token_of none (Sent number) = none

abbrev message_read : Token → BadMessage → Message
message_read none (bad.Get request field index) = message.Get request field index
message_read none (bad.Set request field index value) = message.Set request field index value
message_read none (bad.Forward request frame variable value) = message.Forward request frame variable value
message_read none (bad.Sync request frame entry token) = message.Sync request frame entry (token_of none token)
message_read none (bad.Rgoto frame entry token) = message.Rgoto frame entry (token_of none token)
message_read none (bad.RgotoWith frame entry token riders) =
    message.RgotoWith frame entry (token_of none token) riders
message_read none (bad.Lgoto token) = message.Lgoto (token_of none token)
message_read none (bad.Value request value) = message.Value request value
message_read none (bad.Ack request) = message.Ack request
message_read none (bad.Token request token) = message.Token request (token_of none token)

read_back : (none : Token) (letter : Message) → message_read none (as_read letter) ≡ bare_message letter
read_back none (message.Get request field index) = refl
read_back none (message.Set request field index value) = refl
read_back none (message.Forward request frame variable value) = refl
read_back none (message.Sync request frame entry token) = refl
read_back none (message.Rgoto frame entry token) = refl
read_back none (message.RgotoWith frame entry token riders) = refl
read_back none (message.Lgoto token) = refl
read_back none (message.Value request value) = refl
read_back none (message.Ack request) = refl
read_back none (message.Token request token) = refl

some_token : Token
some_token = record {
  host = record { 0 = 0 };
  frame = record { site = record { 0 = 0 }; count = 0 };
  entry = record { 0 = 0 };
  serial = 0;
  tag = [];
}

pub same_read : (one other : Message) → Some (as_read one) ≡ Some (as_read other) →
    bare_message one ≡ bare_message other
same_read one other same =
    sym (read_back some_token one) ∙ ap (made_of (as_read one)) same ∙ read_back some_token other
  where
    made_of : BadMessage → Option BadMessage → Message
    made_of none None = message_read some_token none
    made_of none (Some made) = message_read some_token made

module _ (code : CodeShape) (sound : IsSoundCode code) (own : HaveOwnNames code) where
  request_word : (request : RequestId) → IsWireRequest request →
      IsWord (request_text request)
  request_word request is = part_word (request_text request) (request_part request is)

  -- ---- what rides

  abbrev rider_words : List Rider → List Word
  rider_words [] = []
  rider_words (rider ∷ riders) = variable_text code rider.0 ∷ signed_decimal rider.1 ∷ rider_words riders

  riders_spaced : (riders : List Rider) → riders_text code riders ≡ spaced (rider_words riders)
  riders_spaced [] = refl
  riders_spaced (rider ∷ riders) =
      let name = variable_text code rider.0 in
      let value = signed_decimal rider.1 in
      ap (λ (rest : List ℕ). codes " " ++ name ++ codes " " ++ value ++ rest) (riders_spaced riders)
      ∙ append_assoc (codes " " ++ name ++ codes " ") value (spaced (rider_words riders))
      ∙ append_assoc (codes " " ++ name) (codes " ") (value ++ spaced (rider_words riders))

  riders_are : (riders : List Rider) → AreOfCode code riders → AllByRecursion IsRider riders →
      AllByRecursion IsWord (rider_words riders)
  riders_are [] there real = tt
  riders_are (rider ∷ riders) there real = (
    part_word (variable_text code rider.0) (variable_part code sound own rider.0 there.0),
    (part_word (signed_decimal rider.1) (signed_part rider.1 real.0.1), riders_are riders there.1 real.1),
  )

  riders_again : (riders : List Rider) → AreOfCode code riders → AllByRecursion IsRider riders →
      riders_in code (rider_words riders) ≡ Some riders
  riders_again [] there real = refl
  riders_again (rider ∷ riders) there real =
      rw (variable_again code sound own rider.0 there.0)
      (rw (signed_again rider.1 real.0.1) (rw (riders_again riders there.1 real.1) refl))

  few_again : (riders : List Rider) → AreFew riders → riders_from riders ≡ Some riders
  few_again riders few =
      let least : nat_le 1 (length riders) ≡ true = grind (arith, nat_tests, few.0) in
      let most : nat_le (length riders) MOST_RIDERS ≡ true = grind (arith, nat_tests, few.1) in
      rw (least, most) refl

  -- ---- messages

  abbrev Again : Message → Type 0
  Again letter = printed_message code (words (message_text code letter)) ≡ Some (as_read letter)

  pub message_again : (letter : Message) → MessageFits code letter → IsMessage letter → Again letter
  message_again (message.Get request field index) fits real =
      let r = request_text request in
      let f = field_text code field in
      let i = signed_decimal index in
      let kind : IsWord (codes "get") = part_word (codes "get") (record { some = omega arith; solid = refl }) in
      ap (printed_message code)
      (ap words (ap (λ (rest : List ℕ). codes "get " ++ rest) (spaced_three r f i))
      ∙ joined_words (codes "get" ∷ r ∷ f ∷ i ∷ []) (
        kind,
        (
          request_word request real.0,
          (part_word f (field_part code sound own field fits), (part_word i (signed_part index real.1.1), tt)),
        ),
      ))
      ∙ rw (request_again request real.0) (rw (field_again code sound own field fits)
      (rw (signed_again index real.1.1) refl))
  message_again (message.Set request field index value) fits real =
      let r = request_text request in
      let f = field_text code field in
      let i = signed_decimal index in
      let v = signed_decimal value in
      ap (printed_message code)
      (ap words (ap (λ (rest : List ℕ). codes "set " ++ rest) (spaced_four r f i v))
      ∙ joined_words (codes "set" ∷ r ∷ f ∷ i ∷ v ∷ []) (
        set_word,
        (
          request_word request real.0,
          (
            part_word f (field_part code sound own field fits),
            (
              part_word i (signed_part index real.1.1.0),
              (part_word v (signed_part value real.1.1.1), tt),
            ),
          ),
        ),
      ))
      ∙ rw (request_again request real.0) (rw (field_again code sound own field fits)
      (rw (signed_again index real.1.1.0) (rw (signed_again value real.1.1.1) refl)))
  message_again (message.Forward request frame variable value) fits real =
      let r = request_text request in
      let f = frame_text frame in
      let x = variable_text code variable in
      let v = signed_decimal value in
      let kind : IsWord (codes "forward") =
      part_word (codes "forward") (record { some = omega arith; solid = refl }) in
      ap (printed_message code)
      (ap words (ap (λ (rest : List ℕ). codes "forward " ++ rest) (spaced_four r f x v))
      ∙ joined_words (codes "forward" ∷ r ∷ f ∷ x ∷ v ∷ []) (
        kind,
        (
          request_word request real.0,
          (
            part_word f (frame_part frame real.1.0),
            (
              part_word x (variable_part code sound own variable fits),
              (part_word v (signed_part value real.1.1.1), tt),
            ),
          ),
        ),
      ))
      ∙ rw (request_again request real.0) (rw (frame_again frame real.1.0)
      (rw (variable_again code sound own variable fits) (rw (signed_again value real.1.1.1) refl)))
  message_again (message.Sync request frame entry token) fits real =
      let r = request_text request in
      let f = frame_text frame in
      let e = entry_text entry in
      let t = token_text code token in
      let kind : IsWord (codes "sync") = part_word (codes "sync") (record { some = omega arith; solid = refl }) in
      ap (printed_message code)
      (ap words (ap (λ (rest : List ℕ). codes "sync " ++ rest) (spaced_four r f e t))
      ∙ joined_words (codes "sync" ∷ r ∷ f ∷ e ∷ t ∷ []) (
        kind,
        (
          request_word request real.0,
          (
            part_word f (frame_part frame real.1.0),
            (
              part_word e (entry_part entry real.1.1.0),
              (token_word code sound own token fits real.1.1.1, tt),
            ),
          ),
        ),
      ))
      ∙ rw (request_again request real.0) (rw (frame_again frame real.1.0)
      (rw (entry_again entry real.1.1.0) (rw (token_again code sound own token fits real.1.1.1) refl)))
  message_again (message.Rgoto frame entry token) fits real =
      let f = frame_text frame in
      let e = entry_text entry in
      let t = token_text code token in
      let kind : IsWord (codes "rgoto") = part_word (codes "rgoto") (record { some = omega arith; solid = refl }) in
      ap (printed_message code)
      (ap words (ap (λ (rest : List ℕ). codes "rgoto " ++ rest) (spaced_three f e t))
      ∙ joined_words (codes "rgoto" ∷ f ∷ e ∷ t ∷ []) (
        kind,
        (
          part_word f (frame_part frame real.0),
          (part_word e (entry_part entry real.1.0), (token_word code sound own token fits real.1.1, tt)),
        ),
      ))
      ∙ rw (frame_again frame real.0) (rw (entry_again entry real.1.0)
      (rw (token_again code sound own token fits real.1.1) refl))
  message_again (message.RgotoWith frame entry token riders) fits real =
      let f = frame_text frame in
      let e = entry_text entry in
      let t = token_text code token in
      let said = rider_words riders in
      let kind : IsWord (codes "rgoto") = part_word (codes "rgoto") (record { some = omega arith; solid = refl }) in
      let mark : IsWord (codes "with") = part_word (codes "with") (record { some = omega arith; solid = refl }) in
      let all : List Word = codes "rgoto" ∷ f ∷ e ∷ t ∷ codes "with" ∷ said in
      let whole : message_text code (message.RgotoWith frame entry token riders) ≡ joined 32 all =
      ap (λ (rest : List ℕ). codes "rgoto " ++ f ++ codes " " ++ e ++ codes " " ++ t ++ codes " with" ++ rest)
      (riders_spaced riders)
      ∙ simp append_assoc refl
      ∙ sym (joined_spaced (codes "rgoto") (f ∷ e ∷ t ∷ codes "with" ∷ said)) in
      ap (printed_message code)
      (ap words whole ∙ joined_words all (
        kind,
        (
          part_word f (frame_part frame real.0),
          (
            part_word e (entry_part entry real.1.0),
            (
              token_word code sound own token fits.0 real.1.1.0,
              (mark, riders_are riders fits.1 real.1.1.1.1),
            ),
          ),
        ),
      ))
      ∙ rw (frame_again frame real.0) (rw (entry_again entry real.1.0)
      (rw (token_again code sound own token fits.0 real.1.1.0) (rw (riders_again riders fits.1 real.1.1.1.1)
      (rw (few_again riders real.1.1.1.0) refl))))
  message_again (message.Lgoto token) fits real =
      let t = token_text code token in
      let kind : IsWord (codes "lgoto") = part_word (codes "lgoto") (record { some = omega arith; solid = refl }) in
      ap (printed_message code)
      (joined_words (codes "lgoto" ∷ t ∷ []) (kind, (token_word code sound own token fits real, tt)))
      ∙ rw (token_again code sound own token fits real) refl
  message_again (message.Value request value) fits real =
      let r = request_text request in
      let v = signed_decimal value in
      let kind : IsWord (codes "value") = part_word (codes "value") (record { some = omega arith; solid = refl }) in
      ap (printed_message code)
      (ap words (ap (λ (rest : List ℕ). codes "value " ++ rest) (spaced_two r v))
      ∙ joined_words (codes "value" ∷ r ∷ v ∷ []) (
        kind,
        (
          request_word request real.0,
          (part_word v (signed_part value real.1), tt),
        ),
      ))
      ∙ rw (request_again request real.0) (rw (signed_again value real.1) refl)
  message_again (message.Ack request) fits real =
      let r = request_text request in
      let kind : IsWord (codes "ack") = part_word (codes "ack") (record { some = omega arith; solid = refl }) in
      ap (printed_message code)
      (joined_words (codes "ack" ∷ r ∷ []) (kind, (request_word request real, tt)))
      ∙ rw (request_again request real) refl
  message_again (message.Token request token) fits real =
      let r = request_text request in
      let t = token_text code token in
      let kind : IsWord (codes "token") = part_word (codes "token") (record { some = omega arith; solid = refl }) in
      ap (printed_message code)
      (ap words (ap (λ (rest : List ℕ). codes "token " ++ rest) (spaced_two r t))
      ∙ joined_words (codes "token" ∷ r ∷ t ∷ []) (
        kind,
        (
          request_word request real.0,
          (token_word code sound own token fits real.1, tt),
        ),
      ))
      ∙ rw (request_again request real.0) (rw (token_again code sound own token fits real.1) refl)

  -- ---- the same words

  -- messages that are printed alike are the same but for tags
  pub same_words : (one other : Message) → MessageFits code one → IsMessage one → MessageFits code other →
      IsMessage other → words (message_text code one) ≡ words (message_text code other) →
      bare_message one ≡ bare_message other
  same_words one other fits real fit also same =
      same_read one other
      (sym (message_again one fits real) ∙ ap (printed_message code) same ∙ message_again other fit also)

  pub same_host : (one other : HostId) → IsHost code one → IsHost code other →
      host_text code one ≡ host_text code other → one ≡ other
  same_host one other there also same =
      let found : Some one ≡ Some other =
      sym (host_again code sound own one there)
      ∙ ap (host_named code.hosts) same ∙ host_again code sound own other also in
      cc
