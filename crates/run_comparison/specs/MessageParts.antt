-- Messages taken apart, to be compared part by part.
use Rattle.std.specs.Prelude.{ℕ, ℤ, pos, List, [], Option, Some, None}
use Rattle.js_base.specs.declared.ids.FrameId.{FrameId}
use Rattle.js_base.specs.declared.ids.RequestId.{RequestId}
use Rattle.capability.specs.declared.token.Token.{Token}
use Rattle.event_text.specs.declared.event.BadMessage.{BadMessage}
use Rattle.event_text.specs.declared.event.BadMessage.TheVariants as bad
use Rattle.event_text.specs.declared.event.BadToken.{BadToken}
use Rattle.host_code.specs.declared.message.Message.{Message}
use Rattle.host_code.specs.declared.message.Message.TheVariants as message
use Rattle.host_code.specs.Riders.{Rider}
use Rattle.run_comparison.specs.declared.message_parts.Parts.{Parts}

-- what stands where a message has no such part
abbrev pub no_request : RequestId
no_request = record { at = 0; count = 0 }

abbrev pub no_frame : FrameId
no_frame = record { site = record { 0 = 0 }; count = 0 }

abbrev pub parts_with : (kind : ℕ) (request : RequestId) (frame : FrameId) (named : ℕ) (index value : ℤ) → Parts
parts_with kind request frame named index value =
    record { kind = kind; request = request; frame = frame; named = named; index = index; value = value }

-- the parts of a message, but for its token and what rides
abbrev pub parts_of : Message → Parts
parts_of (message.Get request field index) = parts_with 1 request no_frame field.0 index (pos 0)
parts_of (message.Set request field index value) = parts_with 2 request no_frame field.0 index value
parts_of (message.Forward request frame variable value) = parts_with 3 request frame variable.0 (pos 0) value
parts_of (message.Sync request frame entry token) = parts_with 4 request frame entry.0 (pos 0) (pos 0)
parts_of (message.Rgoto frame entry token) = parts_with 5 no_request frame entry.0 (pos 0) (pos 0)
parts_of (message.RgotoWith frame entry token riders) = parts_with 10 no_request frame entry.0 (pos 0) (pos 0)
parts_of (message.Lgoto token) = parts_with 6 no_request no_frame 0 (pos 0) (pos 0)
parts_of (message.Value request value) = parts_with 7 request no_frame 0 (pos 0) value
parts_of (message.Ack request) = parts_with 8 request no_frame 0 (pos 0) (pos 0)
parts_of (message.Token request token) = parts_with 9 request no_frame 0 (pos 0) (pos 0)

-- the same of a message as a misbehaving host makes it
abbrev pub parts_made : BadMessage → Parts
parts_made (bad.Get request field index) = parts_with 1 request no_frame field.0 index (pos 0)
parts_made (bad.Set request field index value) = parts_with 2 request no_frame field.0 index value
parts_made (bad.Forward request frame variable value) = parts_with 3 request frame variable.0 (pos 0) value
parts_made (bad.Sync request frame entry token) = parts_with 4 request frame entry.0 (pos 0) (pos 0)
parts_made (bad.Rgoto frame entry token) = parts_with 5 no_request frame entry.0 (pos 0) (pos 0)
parts_made (bad.RgotoWith frame entry token riders) = parts_with 10 no_request frame entry.0 (pos 0) (pos 0)
parts_made (bad.Lgoto token) = parts_with 6 no_request no_frame 0 (pos 0) (pos 0)
parts_made (bad.Value request value) = parts_with 7 request no_frame 0 (pos 0) value
parts_made (bad.Ack request) = parts_with 8 request no_frame 0 (pos 0) (pos 0)
parts_made (bad.Token request token) = parts_with 9 request no_frame 0 (pos 0) (pos 0)

-- its token, where it has one
abbrev pub token_of : Message → Option Token
token_of (message.Sync request frame entry token) = Some token
token_of (message.Rgoto frame entry token) = Some token
token_of (message.RgotoWith frame entry token riders) = Some token
token_of (message.Lgoto token) = Some token
token_of (message.Token request token) = Some token
token_of _ = None

abbrev pub token_made : BadMessage → Option BadToken
token_made (bad.Sync request frame entry token) = Some token
token_made (bad.Rgoto frame entry token) = Some token
token_made (bad.RgotoWith frame entry token riders) = Some token
token_made (bad.Lgoto token) = Some token
token_made (bad.Token request token) = Some token
token_made _ = None

-- what rides with it
abbrev pub riders_in : Message → List Rider
riders_in (message.RgotoWith frame entry token riders) = riders
riders_in _ = []

abbrev pub riders_made : BadMessage → List Rider
riders_made (bad.RgotoWith frame entry token riders) = riders
riders_made _ = []
