-- The line of a take is read as its message, but for the tag of its token. So a host which may not take what was read
-- makes no step of the line.
use Rattle.std.proofs.Common.{◌≡◌, ◌≢◌, ◌∙◌, ℕ, refl, ap, sym, subst, List, ◌∷◌, Option, Some, None, codes}
use Rattle.std.specs.Option.{option_and_then}
use Rattle.js_base.specs.declared.ids.HostId.{HostId}
use Rattle.host_code.specs.declared.message.Message.{Message}
use Rattle.host_code.specs.declared.message.Message.TheVariants as message
use Rattle.host_code.specs.Code.{CodeShape}
use Rattle.host_code.specs.Messages.{MessageFits}
use Rattle.host_code.specs.MessageText.{host_text, message_text}
use Rattle.host_code.specs.Sound.{IsSoundCode, IsHost}
use Rattle.host_core.specs.Host.{HostState}
use Rattle.event_text.specs.declared.event.BadMessage.{BadMessage}
use Rattle.event_text.specs.Acts.{printed_message}
use Rattle.event_text.specs.JournalText.{take_words, turn_words}
use Rattle.event_text.specs.Lines.{words}
use Rattle.event_text.specs.Parts.{host_named}
use Rattle.event_text.specs.Words.{Word, of_two}
use Rattle.wire_msg.specs.Frames.{IsMessage}
use Rattle.journal_laws.specs.Bare.{bare_message}
use Rattle.journal_laws.specs.Plays.{HaveOwnNames}
use Rattle.journal_laws.specs.Steps.{takes, turns}
use Rattle.journal_laws.proofs.BareTakings.{printed_bare}
use Rattle.journal_laws.proofs.PartsAgain.{host_again}
use Rattle.journal_laws.proofs.SaidMessages.{as_read, message_again}
use Rattle.journal_player.specs.Letters.{letter_of, taken_of}
use Rattle.journal_player.specs.Playing.{CanTake, LacksStep}

letter_back : (letter : Message) → letter_of (as_read letter) ≡ Some (bare_message letter)
letter_back (message.Get request field index) = refl
letter_back (message.Set request field index value) = refl
letter_back (message.Forward request frame variable value) = refl
letter_back (message.Sync request frame entry token) = refl
letter_back (message.Rgoto frame entry token) = refl
letter_back (message.RgotoWith frame entry token riders) = refl
letter_back (message.Lgoto token) = refl
letter_back (message.Value request value) = refl
letter_back (message.Ack request) = refl
letter_back (message.Token request token) = refl

fits_bare : (code : CodeShape) (letter : Message) → MessageFits code letter → MessageFits code (bare_message letter)
fits_bare code (message.Get request field index) fits = fits
fits_bare code (message.Set request field index value) fits = fits
fits_bare code (message.Forward request frame variable value) fits = fits
fits_bare code (message.Sync request frame entry token) fits = fits
fits_bare code (message.Rgoto frame entry token) fits = fits
fits_bare code (message.RgotoWith frame entry token riders) fits = fits
fits_bare code (message.Lgoto token) fits = fits
fits_bare code (message.Value request value) fits = fits
fits_bare code (message.Ack request) fits = fits
fits_bare code (message.Token request token) fits = fits

taken_again : (code : CodeShape) (from : HostId) (letter : Message) → IsSoundCode code → HaveOwnNames code →
    IsHost code from → MessageFits code letter → IsMessage letter →
    taken_of code (take_words code from letter) ≡ Some (from, bare_message letter)
taken_again code from letter sound own there fits real =
    let couple : HostId → Message → HostId × Message = λ one other. (one, other) in
    let pair : Option HostId → Option BadMessage → Option (HostId × Message) =
    λ host said. of_two couple host (option_and_then letter_of said) in
    let first : taken_of code (take_words code from letter)
    ≡ pair (host_named code.hosts (host_text code from)) (printed_message code (words (message_text code letter)))
    = refl in
    first ∙ ap (λ host. pair host (printed_message code (words (message_text code letter))))
    (host_again code sound own from there)
    ∙ ap (λ said. pair (Some from) said) (message_again code sound own letter fits real)
    ∙ ap (λ (said : Option Message). of_two couple (Some from) said) (letter_back letter)

pub untaken : (code : CodeShape) (host : HostState) (line : List Word) → IsSoundCode code → line ≢ turn_words →
    taken_of code line ≡ None → LacksStep code host line
untaken code host line sound turn none own turns may is = turn is
untaken code host line sound turn none own (takes from letter) may is =
    let clash : ◌≡◌ {A = Option (HostId × Message)} None (Some (from, bare_message letter)) =
    sym none ∙ ap (taken_of code) is ∙ taken_again code from letter sound own may.other.0 may.fits may.real in
    cc

first_of_two : {X Y : Type 0} (one other : X) (two second : Y) →
    ◌≡◌ {A = Option (X × Y)} (Some (one, two)) (Some (other, second)) → one ≡ other
first_of_two {X = X} {Y = Y} one other two second same = ap (read one) same
  where
    read : X → Option (X × Y) → X
    read none None = none
    read none (Some pair) = pair.0

second_of_two : {X Y : Type 0} (one other : X) (two second : Y) →
    ◌≡◌ {A = Option (X × Y)} (Some (one, two)) (Some (other, second)) → two ≡ second
second_of_two {X = X} {Y = Y} one other two second same = ap (read two) same
  where
    read : Y → Option (X × Y) → Y
    read none None = none
    read none (Some pair) = pair.1

pub barred : (code : CodeShape) (host : HostState) (line : List Word) (from : HostId) (letter : Message) →
    IsSoundCode code → line ≢ turn_words → taken_of code line ≡ Some (from, letter) → ¬ CanTake code host from letter →
    LacksStep code host line
barred code host line from letter sound turn read cannot own turns may is = turn is
barred code host line from letter sound turn read cannot own (takes other second) may is =
    let same : ◌≡◌ {A = Option (HostId × Message)} (Some (other, bare_message second)) (Some (from, letter)) =
    sym (taken_again code other second sound own may.other.0 may.fits may.real) ∙ sym (ap (taken_of code) is)
    ∙ read in
    let can : CanTake code host other (bare_message second) = record {
      rest = may.rest;
      other = may.other;
      fits = fits_bare code second may.fits;
    } in
    cannot (subst (λ one. CanTake code host one letter) (first_of_two _ _ _ _ same)
    (subst (λ one. CanTake code host other one) (second_of_two _ _ _ _ same) can))

pub unlike : (code : CodeShape) (host : HostState) (line : List Word) (from : HostId) (letter : Message) →
    IsSoundCode code → line ≢ turn_words → taken_of code line ≡ Some (from, letter) →
    line ≢ take_words code from letter → LacksStep code host line
unlike code host line from letter sound turn read cannot own turns may is = turn is
unlike code host line from letter sound turn read cannot own (takes other second) may is =
    let same : ◌≡◌ {A = Option (HostId × Message)} (Some (other, bare_message second)) (Some (from, letter)) =
    sym (taken_again code other second sound own may.other.0 may.fits may.real) ∙ sym (ap (taken_of code) is)
    ∙ read in
    cannot (is ∙ ap (λ (text : List ℕ). codes "take" ∷ host_text code other ∷ words text)
    (sym (printed_bare code second))
    ∙ ap (λ one. take_words code one (bare_message second)) (first_of_two _ _ _ _ same)
    ∙ ap (take_words code from) (second_of_two _ _ _ _ same))
