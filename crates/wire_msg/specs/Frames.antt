-- Which frames there are.
use Rattle.std.specs.Prelude.{◌≡◌, ℕ, ◌<◌, ◌^◌, Bool, true, ◌&&◌, List, length, nat_lt, nat_le, FitsSigned, ⊤, Option}
use Rattle.std.specs.Prelude.{Some, None}
use Rattle.std.specs.List.{AllByRecursion}
use Rattle.std.specs.Option.{option_map_or}
use Rattle.std.specs.Int.{w64}
use Rattle.js_base.specs.declared.ids.HostId.{HostId}
use Rattle.js_base.specs.declared.ids.FrameId.{FrameId}
use Rattle.js_base.specs.declared.ids.RequestId.{RequestId}
use Rattle.js_base.specs.declared.limits.TheConstants.{HOSTS}
use Rattle.capability.specs.declared.tags.TheConstants.{TAG_BYTES}
use Rattle.capability.specs.declared.token.Token.{Token}
use Rattle.host_code.specs.declared.message.Message.{Message}
use Rattle.host_code.specs.declared.message.Message.TheVariants as message
use Rattle.host_code.specs.declared.riders.TheConstants.{MOST_RIDERS}
use Rattle.host_code.specs.Riders.{Rider, AreFew}
use Rattle.byte_format.specs.Numbers.{AreBytes}
use Rattle.wire_msg.specs.declared.frame.Frame.{Frame}
use Rattle.wire_msg.specs.declared.frame.Frame.TheVariants as frame

-- ---- the hosts that a frame names

-- the token in a message, if it has one
abbrev pub token_in : Message → Option Token
token_in (message.Sync request id entry token) = Some token
token_in (message.Rgoto id entry token) = Some token
token_in (message.RgotoWith id entry token riders) = Some token
token_in (message.Lgoto token) = Some token
token_in (message.Token request token) = Some token
token_in _ = None

-- the host of a token in a frame is one of those that there may be
abbrev pub has_host : Frame → Bool
has_host (frame.Message sent) = option_map_or (λ token. nat_lt token.host.0 HOSTS) (token_in sent) true
has_host frame.Done = true

-- so many values may ride with a message
abbrev pub may_ride : ℕ → Bool
may_ride count = nat_le 1 count && nat_le count MOST_RIDERS

-- ---- what the types of a frame keep

abbrev pub IsWireRequest : RequestId → Type 0
IsWireRequest request = (request.at < 2 ^ 32) × (request.count < 2 ^ 64)

abbrev pub IsFrameId : FrameId → Type 0
IsFrameId id = (id.site.0 < 2 ^ 32) × (id.count < 2 ^ 64)

abbrev pub IsTag : List ℕ → Type 0
IsTag tag = (length tag ≡ TAG_BYTES) × AreBytes tag

abbrev pub IsToken : Token → Type 0
IsToken token =
    (token.host.0 < 256)
    × (IsFrameId token.frame × ((token.entry.0 < 2 ^ 32) × ((token.serial < 2 ^ 64) × IsTag token.tag)))

abbrev pub IsRider : Rider → Type 0
IsRider rider = (rider.0.0 < 2 ^ 32) × FitsSigned w64 rider.1

abbrev pub AreRiders : List Rider → Type 0
AreRiders riders = AreFew riders × AllByRecursion IsRider riders

abbrev pub IsMessage : Message → Type 0
IsMessage (message.Get request field index) = IsWireRequest request × ((field.0 < 2 ^ 32) × FitsSigned w64 index)
IsMessage (message.Set request field index value) =
    IsWireRequest request × ((field.0 < 2 ^ 32) × (FitsSigned w64 index × FitsSigned w64 value))
IsMessage (message.Forward request id variable value) =
    IsWireRequest request × (IsFrameId id × ((variable.0 < 2 ^ 32) × FitsSigned w64 value))
IsMessage (message.Sync request id entry token) =
    IsWireRequest request × (IsFrameId id × ((entry.0 < 2 ^ 32) × IsToken token))
IsMessage (message.Rgoto id entry token) = IsFrameId id × ((entry.0 < 2 ^ 32) × IsToken token)
IsMessage (message.RgotoWith id entry token riders) =
    IsFrameId id × ((entry.0 < 2 ^ 32) × (IsToken token × AreRiders riders))
IsMessage (message.Lgoto token) = IsToken token
IsMessage (message.Value request value) = IsWireRequest request × FitsSigned w64 value
IsMessage (message.Ack request) = IsWireRequest request
IsMessage (message.Token request token) = IsWireRequest request × IsToken token

-- each number fits its type, and 1 to 8 values ride where some do, as in every frame in memory
abbrev pub IsFrame : Frame → Type 0
IsFrame (frame.Message sent) = IsMessage sent
IsFrame frame.Done = ⊤

-- ---- frames that are sent

-- the sender, and the host of a token, are hosts that there may be
abbrev pub NamesHosts : HostId → Frame → Type 0
NamesHosts from sent = (from.0 < HOSTS) × (has_host sent ≡ true)

abbrev pub IsSent : HostId → Frame → Type 0
IsSent from sent = NamesHosts from sent × IsFrame sent
