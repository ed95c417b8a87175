-- Parts of small frames.
use Rattle.std.specs.Prelude.{ℕ, pos, List, [], ◌∷◌, ◌++◌, replicate}
use Rattle.js_base.specs.declared.ids.HostId.{HostId}
use Rattle.js_base.specs.declared.ids.FrameId.{FrameId}
use Rattle.js_base.specs.declared.ids.RequestId.{RequestId}
use Rattle.capability.specs.declared.tags.TheConstants.{TAG_BYTES}
use Rattle.capability.specs.declared.token.Token.{Token}
use Rattle.host_code.specs.declared.message.Message.{Message}
use Rattle.host_code.specs.declared.message.Message.TheVariants as message

abbrev pub first_host : HostId
first_host = record { 0 = 0 }

abbrev pub last_host : HostId
last_host = record { 0 = 15 }

abbrev pub small_request : RequestId
small_request = record { at = 258; count = 772 }

abbrev pub first_frame : FrameId
first_frame = record { site = record { 0 = 0 }; count = 0 }

abbrev pub blank_token : Token
blank_token = record {
  host = first_host;
  frame = first_frame;
  entry = record { 0 = 0 };
  serial = 0;
  tag = replicate TAG_BYTES 0;
}

-- entry 2 in the first frame, with 7 for variable 0
abbrev pub riding_seven : Message
riding_seven = message.RgotoWith first_frame (record { 0 = 2 }) blank_token ((record { 0 = 0 }, pos 7) ∷ [])

-- its fields up to the count, with the number of its token's host and how many values ride
abbrev pub riding_fields : ℕ → ℕ → List ℕ
riding_fields host count =
    replicate 12 0 ++ (0 ∷ 0 ∷ 0 ∷ 2 ∷ host ∷ replicate 40 0 ++ count ∷ [])
