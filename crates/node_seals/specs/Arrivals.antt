-- What a frame comes to that arrives at a node. It is for the node where another host of the code sent it and all that
-- it names is in the code; what is not is dropped. Where frames are sealed, it also has to be the next one of the link
-- from the host that it names as its sender.
use Rattle.std.specs.Prelude.{◌≡◌, ◌≢◌, ◌⊎◌, ⊤, ℕ, List, Result, Ok, Err}
use Rattle.js_base.specs.declared.ids.HostId.{HostId}
use Rattle.host_code.specs.Code.{CodeShape}
use Rattle.host_code.specs.Messages.{MessageFits}
use Rattle.host_code.specs.Sound.{IsOther}
use Rattle.wire_msg.specs.declared.error.WireError.{WireError}
use Rattle.wire_msg.specs.declared.error.WireError.TheVariants.{BadField}
use Rattle.wire_msg.specs.declared.frame.Frame.{Frame}
use Rattle.wire_msg.specs.declared.frame.Frame.TheVariants as frame
use Rattle.wire_msg.specs.Reading.{reading_of}
use Rattle.node_seals.specs.declared.arrivals.Arrival.{Arrival}
use Rattle.node_seals.specs.declared.arrivals.Arrival.TheVariants.{Dropped, Taken, Done}
use Rattle.node_seals.specs.declared.arrivals.DropReason.TheVariants as dropped
use Rattle.node_seals.specs.Seals.{Opened, SealsShape, as_they_are, refused, unsealed, opened_of}

-- another host of the code sent the frame, and it names only what is in the code
abbrev pub IsForNode : CodeShape → HostId → HostId → Frame → Type 0
IsForNode code me from (frame.Message sent) = IsOther code me from × MessageFits code sent
IsForNode code me from frame.Done = IsOther code me from

abbrev pub arrival_of : HostId → Frame → Arrival
arrival_of from (frame.Message sent) = Taken from sent
arrival_of from frame.Done = Done from

-- bytes that are no frame are dropped for their first fault, and a frame that is not for the node as one of bad fields
abbrev pub ArrivesAs : CodeShape → HostId → Result (HostId × Frame) WireError → Arrival → Type 0
ArrivesAs code me (Err why) arrival = arrival ≡ Dropped (dropped.Frame why)
ArrivesAs code me (Ok read) arrival =
    (IsForNode code me read.0 read.1 × (arrival ≡ arrival_of read.0 read.1))
    ⊎ ((¬ IsForNode code me read.0 read.1) × (arrival ≡ Dropped (dropped.Frame BadField)))

-- Of a frame that was sealed on the link from a host: one that names another sender is dropped for its seal. The faults
-- of its bytes come before.
abbrev pub ArrivesFrom : CodeShape → HostId → HostId → Result (HostId × Frame) WireError → Arrival → Type 0
ArrivesFrom code me from (Err why) arrival = ArrivesAs code me (Err why) arrival
ArrivesFrom code me from (Ok read) arrival =
    ((read.0 ≡ from) × ArrivesAs code me (Ok read) arrival)
    ⊎ ((read.0 ≢ from) × (arrival ≡ Dropped dropped.Seal))

abbrev pub ArrivesOpened : CodeShape → HostId → List ℕ → Opened → Arrival → Type 0
ArrivesOpened code me bytes as_they_are arrival = ArrivesAs code me (reading_of bytes) arrival
ArrivesOpened code me bytes refused arrival = arrival ≡ Dropped dropped.Seal
ArrivesOpened code me bytes (unsealed from frame) arrival = ArrivesFrom code me from (reading_of frame) arrival

-- what these bytes come to under the node's seals
abbrev pub Arrives : CodeShape → HostId → SealsShape → List ℕ → Arrival → Type 0
Arrives code me seals bytes arrival = ArrivesOpened code me bytes (opened_of seals bytes) arrival

-- what arrives is from another host of the code, and names only what is in it
abbrev pub ArrivalFits : CodeShape → HostId → Arrival → Type 0
ArrivalFits code me (Dropped why) = ⊤
ArrivalFits code me (Taken from message) = IsOther code me from × MessageFits code message
ArrivalFits code me (Done from) = IsOther code me from
