-- How reports, journals and scripts print a message.
--
-- A token is printed without its tag, and an event with it. `#N` in a script stands for the token with its tag, as it
-- was sent. So an act can only present what was sent, and no script can make up the token of an obeying host.
use Rattle.std.specs.Prelude.{ℕ, ℤ, List, [], ◌++◌, flat_map, Option, Some, None, slice_get, codes}
use Rattle.std.specs.Fmt.{decimal, signed_decimal}
use Rattle.js_base.specs.declared.ids.HostId.{HostId}
use Rattle.js_base.specs.declared.ids.FieldId.{FieldId}
use Rattle.js_base.specs.declared.ids.VarId.{VarId}
use Rattle.js_base.specs.declared.ids.EntryId.{EntryId}
use Rattle.js_base.specs.declared.ids.FrameId.{FrameId}
use Rattle.js_base.specs.declared.ids.RequestId.{RequestId}
use Rattle.capability.specs.declared.token.Token.{Token}
use Rattle.host_code.specs.declared.message.Message.{Message}
use Rattle.host_code.specs.declared.message.Message.TheVariants as message
use Rattle.host_code.specs.Riders.{Rider}
use Rattle.host_code.specs.Code.{CodeShape, CodeHostShape, CodeFieldShape, CodeVariableShape, field_at, variable_at}

-- ---- names, nothing where there is no such thing

abbrev pub name_of_host : Option CodeHostShape → List ℕ
name_of_host None = []
name_of_host (Some host) = host.name

abbrev pub host_text : CodeShape → HostId → List ℕ
host_text code host = name_of_host (slice_get code.hosts host.0)

abbrev pub name_of_field : Option CodeFieldShape → List ℕ
name_of_field None = []
name_of_field (Some field) = field.name

abbrev pub field_text : CodeShape → FieldId → List ℕ
field_text code field = name_of_field (field_at code field)

abbrev pub name_of_variable : Option CodeVariableShape → List ℕ
name_of_variable None = []
name_of_variable (Some variable) = variable.name

abbrev pub variable_text : CodeShape → VarId → List ℕ
variable_text code variable = name_of_variable (variable_at code variable)

-- ---- the parts of a message

-- the number of the instruction that asked, and how many requests it made before
abbrev pub request_text : RequestId → List ℕ
request_text request = decimal request.at ++ codes "." ++ decimal request.count

-- the call site, and the count of the frame
abbrev pub frame_text : FrameId → List ℕ
frame_text frame = decimal frame.site.0 ++ codes "." ++ decimal frame.count

abbrev pub entry_text : EntryId → List ℕ
entry_text entry = codes "e" ++ decimal entry.0

-- `HOST:FRAME:ENTRY:SERIAL`; the tag is not shown
abbrev pub token_text : CodeShape → Token → List ℕ
token_text code token =
    host_text code token.host ++ codes ":" ++ frame_text token.frame ++ codes ":" ++ entry_text token.entry
    ++ codes ":" ++ decimal token.serial

-- ---- messages, with the texts of names and tokens

abbrev pub get_text : RequestId → List ℕ → ℤ → List ℕ
get_text request field index =
    codes "get " ++ request_text request ++ codes " " ++ field ++ codes " " ++ signed_decimal index

abbrev pub set_text : RequestId → List ℕ → ℤ → ℤ → List ℕ
set_text request field index value =
    codes "set " ++ request_text request ++ codes " " ++ field ++ codes " " ++ signed_decimal index
    ++ codes " " ++ signed_decimal value

abbrev pub forward_text : RequestId → FrameId → List ℕ → ℤ → List ℕ
forward_text request frame variable value =
    codes "forward " ++ request_text request ++ codes " " ++ frame_text frame ++ codes " " ++ variable
    ++ codes " " ++ signed_decimal value

abbrev pub sync_text : RequestId → FrameId → EntryId → List ℕ → List ℕ
sync_text request frame entry token =
    codes "sync " ++ request_text request ++ codes " " ++ frame_text frame ++ codes " " ++ entry_text entry
    ++ codes " " ++ token

abbrev pub rgoto_text : FrameId → EntryId → List ℕ → List ℕ
rgoto_text frame entry token =
    codes "rgoto " ++ frame_text frame ++ codes " " ++ entry_text entry ++ codes " " ++ token

-- a variable and its value, with a blank before each
abbrev pub rider_text : CodeShape → Rider → List ℕ
rider_text code rider = codes " " ++ variable_text code rider.0 ++ codes " " ++ signed_decimal rider.1

abbrev pub riders_text : CodeShape → List Rider → List ℕ
riders_text code riders = flat_map (rider_text code) riders

-- an rgoto with which values ride that are printed so
abbrev pub rgoto_with_text : FrameId → EntryId → List ℕ → List ℕ → List ℕ
rgoto_with_text frame entry token riders = rgoto_text frame entry token ++ codes " with" ++ riders

abbrev pub lgoto_text : List ℕ → List ℕ
lgoto_text token = codes "lgoto " ++ token

abbrev pub value_text : RequestId → ℤ → List ℕ
value_text request value = codes "value " ++ request_text request ++ codes " " ++ signed_decimal value

abbrev pub ack_text : RequestId → List ℕ
ack_text request = codes "ack " ++ request_text request

-- the answer to a sync
abbrev pub answer_text : RequestId → List ℕ → List ℕ
answer_text request token = codes "token " ++ request_text request ++ codes " " ++ token

-- ---- the text of a message

abbrev pub message_text : CodeShape → Message → List ℕ
message_text code (message.Get request field index) = get_text request (field_text code field) index
message_text code (message.Set request field index value) = set_text request (field_text code field) index value
message_text code (message.Forward request frame variable value) =
    forward_text request frame (variable_text code variable) value
message_text code (message.Sync request frame entry token) = sync_text request frame entry (token_text code token)
message_text code (message.Rgoto frame entry token) = rgoto_text frame entry (token_text code token)
message_text code (message.RgotoWith frame entry token riders) =
    rgoto_with_text frame entry (token_text code token) (riders_text code riders)
message_text code (message.Lgoto token) = lgoto_text (token_text code token)
message_text code (message.Value request value) = value_text request value
message_text code (message.Ack request) = ack_text request
message_text code (message.Token request token) = answer_text request (token_text code token)
