-- The lines of journals, without what ends them.
--
-- A journal has a line for each step of a host, behind it that of what the step sent, and one for what the host was
-- told or dropped besides.
use Rattle.std.specs.Prelude.{◌≡◌, List, [], ◌∷◌, ◌++◌, Option, Some, None, ℕ, codes}
use Rattle.js_base.specs.declared.ids.HostId.{HostId}
use Rattle.host_code.specs.declared.message.Message.{Message}
use Rattle.host_code.specs.Code.{CodeShape}
use Rattle.host_code.specs.MessageText.{host_text, message_text}
use Rattle.event_text.specs.Lines.{words}
use Rattle.event_text.specs.Words.{Word}

-- ---- texts

-- the host ran an instruction
abbrev pub turn_text : List ℕ
turn_text = codes "turn"

-- it took a message from a host
abbrev pub take_text : CodeShape → HostId → Message → List ℕ
take_text code from message = codes "take " ++ host_text code from ++ codes " " ++ message_text code message

-- it sent a message to a host, by what it did in the line before
abbrev pub send_text : CodeShape → HostId → Message → List ℕ
send_text code to message = codes "send " ++ host_text code to ++ codes " " ++ message_text code message

-- a host said that it is done
abbrev pub done_text : CodeShape → HostId → List ℕ
done_text code from = codes "done " ++ host_text code from

-- ---- their words

abbrev pub turn_words : List Word
turn_words = codes "turn" ∷ []

abbrev pub take_words : CodeShape → HostId → Message → List Word
take_words code from message = codes "take" ∷ host_text code from ∷ words (message_text code message)

abbrev pub send_words : CodeShape → HostId → Message → List Word
send_words code to message = codes "send" ∷ host_text code to ∷ words (message_text code message)

-- the line of what is sent, where something is
abbrev pub sent_words : CodeShape → Option (HostId × Message) → List (List Word)
sent_words code None = []
sent_words code (Some sent) = send_words code sent.0 sent.1 ∷ []

abbrev pub IsSendLine : List Word → Type 0
IsSendLine [] = ⊥
IsSendLine (verb ∷ words) = verb ≡ codes "send"
