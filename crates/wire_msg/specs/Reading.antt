-- Which frame bytes spell, or what is wrong with them. Each item is read in the order of the bytes. The sender is
-- tested once the kind is there, the host of a token once all fields are, and what is left is refused last. Where
-- values ride, the host of the token and then their count are tested before they are read.
use Rattle.std.specs.Prelude.{ℕ, ◌==◌, if◌then◌else◌, List, [], nat_lt, nat_le, Result}
use Rattle.std.specs.Int.{w32, w64}
use Rattle.js_base.specs.declared.ids.HostId.{HostId}
use Rattle.js_base.specs.declared.ids.FieldId.{FieldId}
use Rattle.js_base.specs.declared.ids.VarId.{VarId}
use Rattle.js_base.specs.declared.ids.EntryId.{EntryId}
use Rattle.js_base.specs.declared.ids.FrameId.{FrameId}
use Rattle.js_base.specs.declared.ids.RequestId.{RequestId}
use Rattle.js_base.specs.declared.limits.TheConstants.{HOSTS, FRAME_BYTES}
use Rattle.capability.specs.declared.tags.TheConstants.{TAG_BYTES}
use Rattle.capability.specs.declared.token.Token.{Token}
use Rattle.host_code.specs.declared.message.Message.{Message}
use Rattle.host_code.specs.declared.message.Message.TheVariants as message
use Rattle.host_code.specs.Riders.{Rider}
use Rattle.byte_format.specs.Reader.{◌>>=◌, given, refused, require, items_at}
use Rattle.wire_msg.specs.declared.error.WireError.{WireError}
use Rattle.wire_msg.specs.declared.error.WireError.TheVariants as refusal
use Rattle.wire_msg.specs.declared.frame.Frame.{Frame}
use Rattle.wire_msg.specs.declared.frame.Frame.TheVariants as frame
use Rattle.wire_msg.specs.declared.riding.Riding.{Riding}
use Rattle.wire_msg.specs.Frames.{has_host, may_ride}
use Rattle.wire_msg.specs.Reader.{WireReader, known, byte_at, bytes_at, number_at, integer_at, whole}

-- ---- what messages name

unfoldable pub field_at : WireReader FieldId
field_at = do
  field ← number_at w32
  given (record { 0 = field })

unfoldable pub variable_at : WireReader VarId
variable_at = do
  variable ← number_at w32
  given (record { 0 = variable })

unfoldable pub entry_at : WireReader EntryId
entry_at = do
  entry ← number_at w32
  given (record { 0 = entry })

unfoldable pub request_at : WireReader RequestId
request_at = do
  at ← number_at w32
  count ← number_at w64
  given (record { at = at; count = count })

unfoldable pub frame_id_at : WireReader FrameId
frame_id_at = do
  site ← number_at w32
  count ← number_at w64
  given (record { site = record { 0 = site }; count = count })

unfoldable pub token_at : WireReader Token
token_at = do
  host ← byte_at
  id ← frame_id_at
  entry ← entry_at
  serial ← number_at w64
  tag ← bytes_at TAG_BYTES
  given (record { host = record { 0 = host }; frame = id; entry = entry; serial = serial; tag = tag })

-- ---- messages

unfoldable pub get_at : WireReader Message
get_at = do
  request ← request_at
  field ← field_at
  index ← integer_at
  given (message.Get request field index)

unfoldable pub set_at : WireReader Message
set_at = do
  request ← request_at
  field ← field_at
  index ← integer_at
  value ← integer_at
  given (message.Set request field index value)

unfoldable pub forward_at : WireReader Message
forward_at = do
  request ← request_at
  id ← frame_id_at
  variable ← variable_at
  value ← integer_at
  given (message.Forward request id variable value)

unfoldable pub sync_at : WireReader Message
sync_at = do
  request ← request_at
  id ← frame_id_at
  entry ← entry_at
  token ← token_at
  given (message.Sync request id entry token)

unfoldable pub rgoto_at : WireReader Message
rgoto_at = do
  id ← frame_id_at
  entry ← entry_at
  token ← token_at
  given (message.Rgoto id entry token)

unfoldable pub lgoto_at : WireReader Message
lgoto_at = do
  token ← token_at
  given (message.Lgoto token)

unfoldable pub value_at : WireReader Message
value_at = do
  request ← request_at
  value ← integer_at
  given (message.Value request value)

unfoldable pub ack_at : WireReader Message
ack_at = do
  request ← request_at
  given (message.Ack request)

unfoldable pub answer_at : WireReader Message
answer_at = do
  request ← request_at
  token ← token_at
  given (message.Token request token)

-- an rgoto, and how many values are said to ride with it
unfoldable pub riding_at : WireReader Riding
riding_at = do
  id ← frame_id_at
  entry ← entry_at
  token ← token_at
  count ← byte_at
  given (record { frame = id; entry = entry; token = token; count = count })

-- a variable, and the value that rides for it
unfoldable pub rider_at : WireReader Rider
rider_at = do
  variable ← variable_at
  value ← integer_at
  given (variable, value)

unfoldable pub rgoto_with_at : WireReader Message
rgoto_with_at = do
  riding ← riding_at
  _ ← require (nat_lt riding.token.host.0 HOSTS) refusal.BadField
  _ ← require (may_ride riding.count) refusal.BadField
  riders ← items_at (λ _. rider_at) [] riding.count
  given (message.RgotoWith riding.frame riding.entry riding.token riders)

-- the fields of a message, by its kind
unfoldable pub message_at : ℕ → WireReader Message
message_at kind =
    if kind == 1 then get_at
    else (if kind == 2 then set_at
    else (if kind == 3 then forward_at
    else (if kind == 4 then sync_at
    else (if kind == 5 then rgoto_at
    else (if kind == 6 then lgoto_at
    else (if kind == 7 then value_at
    else (if kind == 8 then ack_at
    else (if kind == 9 then answer_at
    else (if kind == 11 then rgoto_with_at
    else refused refusal.BadKind)))))))))

-- ---- frames

unfoldable pub some_message_at : ℕ → WireReader Frame
some_message_at kind = do
  sent ← message_at kind
  given (frame.Message sent)

-- the fields of a frame, by its kind
unfoldable pub fields_at : ℕ → WireReader Frame
fields_at kind = if kind == 10 then given frame.Done else some_message_at kind

-- who sent a body, and what it says
unfoldable pub sent_at : WireReader (HostId × Frame)
sent_at = do
  from ← byte_at
  kind ← byte_at
  _ ← require (nat_lt from HOSTS) refusal.BadField
  sent ← fields_at kind
  _ ← require (has_host sent) refusal.BadField
  given (record { 0 = from }, sent)

-- the body, behind its length
unfoldable pub body_at : WireReader (List ℕ)
body_at = do
  len ← number_at w32
  _ ← require (nat_le len FRAME_BYTES) refusal.TooLong
  bytes_at len

-- the body is read to its end
unfoldable pub frame_at : WireReader (HostId × Frame)
frame_at = do
  body ← body_at
  known (whole sent_at body)

-- who sent a frame of these bytes, and what it says, or what is wrong with them
unfoldable pub reading_of : List ℕ → Result (HostId × Frame) WireError
reading_of bytes = whole frame_at bytes
