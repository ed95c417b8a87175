-- The bytes of a frame: one spelling for each.
use Rattle.std.specs.Prelude.{ℕ, List, [], ◌∷◌, ◌++◌, length}
use Rattle.std.specs.List.{flat_map}
use Rattle.js_base.specs.declared.ids.HostId.{HostId}
use Rattle.js_base.specs.declared.ids.FrameId.{FrameId}
use Rattle.js_base.specs.declared.ids.RequestId.{RequestId}
use Rattle.capability.specs.declared.token.Token.{Token}
use Rattle.host_code.specs.declared.message.Message.{Message}
use Rattle.host_code.specs.declared.message.Message.TheVariants as message
use Rattle.host_code.specs.Riders.{Rider}
use Rattle.byte_format.specs.Numbers.{number_bytes, word_bytes, integer_bytes}
use Rattle.wire_msg.specs.declared.frame.Frame.{Frame}
use Rattle.wire_msg.specs.declared.frame.Frame.TheVariants as frame

-- ---- what messages name

abbrev pub request_bytes : RequestId → List ℕ
request_bytes request = number_bytes request.at ++ word_bytes request.count

abbrev pub frame_id_bytes : FrameId → List ℕ
frame_id_bytes id = number_bytes id.site.0 ++ word_bytes id.count

abbrev pub token_bytes : Token → List ℕ
token_bytes token =
    token.host.0
    ∷ (frame_id_bytes token.frame ++ (number_bytes token.entry.0 ++ (word_bytes token.serial ++ token.tag)))

-- a variable, and the value that rides for it
abbrev pub rider_bytes : Rider → List ℕ
rider_bytes rider = number_bytes rider.0.0 ++ integer_bytes rider.1

-- ---- frames

-- the kind of a message, and its fields in order
abbrev pub message_bytes : Message → List ℕ
message_bytes (message.Get request field index) =
    1 ∷ (request_bytes request ++ (number_bytes field.0 ++ integer_bytes index))
message_bytes (message.Set request field index value) =
    2 ∷ (request_bytes request ++ (number_bytes field.0 ++ (integer_bytes index ++ integer_bytes value)))
message_bytes (message.Forward request id variable value) =
    3 ∷ (request_bytes request ++ (frame_id_bytes id ++ (number_bytes variable.0 ++ integer_bytes value)))
message_bytes (message.Sync request id entry token) =
    4 ∷ (request_bytes request ++ (frame_id_bytes id ++ (number_bytes entry.0 ++ token_bytes token)))
message_bytes (message.Rgoto id entry token) = 5 ∷ (frame_id_bytes id ++ (number_bytes entry.0 ++ token_bytes token))
message_bytes (message.Lgoto token) = 6 ∷ token_bytes token
message_bytes (message.Value request value) = 7 ∷ (request_bytes request ++ integer_bytes value)
message_bytes (message.Ack request) = 8 ∷ request_bytes request
message_bytes (message.Token request token) = 9 ∷ (request_bytes request ++ token_bytes token)
message_bytes (message.RgotoWith id entry token riders) =
    11
    ∷ (frame_id_bytes id
    ++ (number_bytes entry.0 ++ (token_bytes token ++ (length riders ∷ flat_map rider_bytes riders))))

-- the kind and the fields
abbrev pub kinded_bytes : Frame → List ℕ
kinded_bytes (frame.Message sent) = message_bytes sent
kinded_bytes frame.Done = 10 ∷ []

-- the sender, the kind and the fields
abbrev pub body_bytes : HostId → Frame → List ℕ
body_bytes from sent = from.0 ∷ kinded_bytes sent

-- the length of the body, and the body
unfoldable pub frame_bytes : HostId → Frame → List ℕ
frame_bytes from sent = number_bytes (length (body_bytes from sent)) ++ body_bytes from sent
