-- The words of the lines of journals.
use Rattle.std.proofs.Common.{◌≡◌, ◌∙◌, ◌<◌, ◌≤◌, ℕ, List, ◌∷◌, ◌++◌, length, refl, ap, sym, subst, inl, inr, arith}
use Rattle.std.proofs.Common.{codes, append_assoc}
use Rattle.std.proofs.lemmas.Option.{slice_get_cases}
use Rattle.js_base.specs.Name.{IsName}
use Rattle.js_base.specs.declared.ids.HostId.{HostId}
use Rattle.host_code.specs.declared.code.TheConstants.{MOST_ITEMS}
use Rattle.host_code.specs.declared.message.Message.{Message}
use Rattle.host_code.specs.Code.{CodeShape, CodeHostShape}
use Rattle.host_code.specs.MessageText.{host_text, message_text, name_of_host}
use Rattle.host_code.specs.Sound.{IsSoundCode}
use Rattle.event_text.specs.JournalText.{take_text, take_words, send_text, send_words}
use Rattle.event_text.specs.Lines.{words}
use Rattle.event_text.specs.Words.{Word}
use Rattle.event_text.proofs.PrintedBytes.{at_place}
use Rattle.event_text.proofs.PrintedWords.{name_word, take_word, send_word}
use Rattle.event_text.proofs.SaidWords.{IsWord, word_then}

-- two words in front of a line
two_then : (kind name : Word) (line : List ℕ) → IsWord kind → IsWord name →
    words (kind ++ codes " " ++ name ++ codes " " ++ line) ≡ kind ∷ name ∷ words line
two_then kind name line is named =
    ap words (append_assoc (kind ++ codes " " ++ name) (codes " ") line
    ∙ append_assoc (kind ++ codes " ") name (32 ∷ line) ∙ append_assoc kind (codes " ") (name ++ 32 ∷ line))
    ∙ word_then kind (name ++ 32 ∷ line) is
    ∙ ap (λ (ws : List Word). kind ∷ ws) (word_then name line named)

host_word : (code : CodeShape) (host : HostId) → IsSoundCode code → host.0 < length code.hosts →
    IsWord (host_text code host)
host_word code host sound within = elim (slice_get_cases code.hosts host.0).1 [
  | inl (one, there, is, same) ↦
      let P : CodeHostShape → Type 0 = λ one. IsName one.name × (length one.name ≤ MOST_ITEMS) in
      subst IsWord (ap name_of_host (sym is))
      (name_word one.name (at_place P code.hosts host.0 one sound.host_names is).0)
  | inr (past, none) ↦ absurd (omega (arith, past, within))
]

pub take_line_words : (code : CodeShape) (from : HostId) (message : Message) → IsSoundCode code →
    from.0 < length code.hosts → words (take_text code from message) ≡ take_words code from message
take_line_words code from message sound within =
    two_then (codes "take") (host_text code from) (message_text code message) take_word
    (host_word code from sound within)

pub send_line_words : (code : CodeShape) (to : HostId) (message : Message) → IsSoundCode code →
    to.0 < length code.hosts → words (send_text code to message) ≡ send_words code to message
send_line_words code to message sound within =
    two_then (codes "send") (host_text code to) (message_text code message) send_word
    (host_word code to sound within)
