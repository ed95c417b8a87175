-- The lines of a journal. Each ends with a line feed.
use Rattle.std.specs.Prelude.{ℕ, List, [], ◌∷◌, ◌++◌, codes}
use Rattle.js_base.specs.declared.ids.HostId.{HostId}
use Rattle.js_base.specs.declared.text.TheConstants.{LINE_FEED}
use Rattle.host_code.specs.declared.message.Message.{Message}
use Rattle.host_code.specs.Code.{CodeShape}
use Rattle.event_text.specs.JournalText.{turn_text, take_text, send_text, done_text}
use Rattle.wire_msg.specs.declared.error.WireError.TheVariants.{Short, BadKind, BadField, TooLong, Trailing}
use Rattle.node_seals.specs.declared.arrivals.DropReason.{DropReason}
use Rattle.node_seals.specs.declared.arrivals.DropReason.TheVariants.{Frame, Seal}

abbrev pub line : List ℕ → List ℕ
line text = text ++ LINE_FEED ∷ []

-- the host ran an instruction
abbrev pub turn_line : List ℕ
turn_line = line turn_text

-- the host took a message
abbrev pub take_line : CodeShape → HostId → Message → List ℕ
take_line code from message = line (take_text code from message)

-- the host sent a message, by what it did in the line before
abbrev pub send_line : CodeShape → HostId → Message → List ℕ
send_line code to message = line (send_text code to message)

-- a host said that it is done
abbrev pub done_line : CodeShape → HostId → List ℕ
done_line code from = line (done_text code from)

abbrev pub reason : DropReason → List ℕ
reason (Frame Short) = codes "short"
reason (Frame BadKind) = codes "kind"
reason (Frame BadField) = codes "field"
reason (Frame TooLong) = codes "long"
reason (Frame Trailing) = codes "trailing"
reason Seal = codes "seal"

-- what arrived was dropped
abbrev pub drop_line : DropReason → List ℕ
drop_line why = line (codes "bad " ++ reason why)
