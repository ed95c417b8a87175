-- What the arrow of a message is drawn with.
use Rattle.host_code.specs.declared.message.Message.{Message}
use Rattle.host_code.specs.declared.message.Message.TheVariants as message
use Rattle.run_chart.specs.declared.sheet.Stroke.{Stroke}
use Rattle.run_chart.specs.declared.sheet.Stroke.TheVariants as stroke

-- An answer has the stroke of what it answers: the value of a field that of what asks for it, and the token of an entry
-- that of what pushes it. What is set or forwarded is confirmed.
abbrev pub message_stroke : Message → Stroke
message_stroke (message.Get request field index) = stroke.Get
message_stroke (message.Set request field index value) = stroke.Set
message_stroke (message.Forward request frame variable value) = stroke.Forward
message_stroke (message.Sync request frame entry token) = stroke.Sync
message_stroke (message.Rgoto frame entry token) = stroke.Go
message_stroke (message.RgotoWith frame entry token riders) = stroke.Go
message_stroke (message.Lgoto token) = stroke.Back
message_stroke (message.Value request value) = stroke.Get
message_stroke (message.Ack request) = stroke.Ack
message_stroke (message.Token request token) = stroke.Sync
