-- The units of a node's work. A unit is one instruction where a thread runs, and one frame taken otherwise.
use Rattle.std.specs.Prelude.{◌≡◌, ◌≢◌, ℕ, ◌==◌, if◌then◌else◌, List, [], ◌∷◌, ◌++◌, Option, Some, None}
use Rattle.js_base.specs.declared.ids.HostId.{HostId}
use Rattle.host_code.specs.declared.message.Message.{Message}
use Rattle.host_code.specs.Code.{CodeShape}
use Rattle.host_code.specs.Thread.{ThreadShape}
use Rattle.host_core.specs.Host.{Outcome}
use Rattle.host_core.specs.Taking.{IsTaking}
use Rattle.host_core.specs.Turn.{IsTurn}
use Rattle.wire_msg.specs.declared.frame.Frame.TheVariants as frame
use Rattle.wire_msg.specs.Spelling.{frame_bytes}
use Rattle.node_seals.specs.declared.arrivals.Arrival.{Arrival}
use Rattle.node_seals.specs.declared.arrivals.Arrival.TheVariants.{Dropped, Taken, Done}
use Rattle.node_seals.specs.Arrivals.{Arrives}
use Rattle.node_engine.specs.JournalLines.{turn_line, take_line, send_line, done_line, drop_line}
use Rattle.node_engine.specs.NodeWorlds.{Inside, NodeWorld, NodePart, inside_of}
use Rattle.node_engine.specs.NodeWorlds.{Taking, Opening, Step, Hearing, Line, Sealing, Sending}
use Rattle.node_seals.specs.Seals.{Opened, SealsShape, as_they_are, refused, unsealed, after_opened, opened_of}
use Rattle.node_seals.specs.Seals.{string_for}

-- ---- sending

-- where frames are sealed, the sealer of the link to a host goes on
abbrev pub sealing_parts : SealsShape → HostId → List NodePart
sealing_parts None to = []
sealing_parts (Some links) to = Sealing to ∷ []

abbrev pub out_parts : HostId → Option (List ℕ) → List NodePart
out_parts to None = []
out_parts to (Some bytes) = Sending to bytes ∷ []

-- a frame goes out to a host, as it is or sealed
abbrev pub frame_parts : SealsShape → HostId → List ℕ → List NodePart
frame_parts seals to frame = sealing_parts seals to ++ out_parts to (string_for seals to frame)

-- a message is sent in its frame, and then noted
abbrev pub posting_parts : CodeShape → HostId → SealsShape → HostId → Message → List NodePart
posting_parts code me seals to message =
    frame_parts seals to (frame_bytes me (frame.Message message)) ++ Line (send_line code to message) ∷ []

abbrev pub sending_parts : CodeShape → HostId → SealsShape → Option (HostId × Message) → List NodePart
sending_parts code me seals None = []
sending_parts code me seals (Some sent) = posting_parts code me seals sent.0 sent.1

-- a step is made, and noted before what it sends goes out
abbrev pub step_parts : CodeShape → HostId → SealsShape → List ℕ → Outcome → List NodePart
step_parts code me seals line outcome = Step outcome.state ∷ Line line ∷ sending_parts code me seals outcome.sent

-- ---- taking

-- the root alone says that the program is done
abbrev pub hearing_parts : CodeShape → HostId → List NodePart
hearing_parts code from = if from.0 == code.root.0 then Hearing ∷ [] else []

-- a message is taken from a host
abbrev pub AreDeliveryParts : CodeShape → HostId → Inside → HostId → Message → List NodePart → Type 0
AreDeliveryParts code me inside from message parts =
    (outcome : Outcome) × IsTaking code inside.host from message outcome
    × (parts ≡ step_parts code me inside.seals (take_line code from message) outcome)

-- the parts behind the taking of a frame that comes to this
abbrev pub AreArrivalParts : CodeShape → HostId → Inside → Arrival → List NodePart → Type 0
AreArrivalParts code me inside (Dropped why) parts = parts ≡ Line (drop_line why) ∷ []
AreArrivalParts code me inside (Done from) parts = parts ≡ hearing_parts code from ++ Line (done_line code from) ∷ []
AreArrivalParts code me inside (Taken from message) parts = AreDeliveryParts code me inside from message parts

-- the opener of a link goes on where it opened a frame
abbrev pub opening_parts : Opened → List NodePart
opening_parts as_they_are = []
opening_parts refused = []
opening_parts (unsealed from frame) = Opening from ∷ []

-- what is inside of a node behind what was opened
abbrev pub inside_opened : Opened → Inside → Inside
inside_opened opened inside = record inside { seals = after_opened opened inside.seals }

-- the parts of a unit that takes a frame; where none is left, only the taking is due
abbrev pub AreTakingParts : CodeShape → HostId → Inside → List (List ℕ) → List NodePart → Type 0
AreTakingParts code me inside [] parts = parts ≡ Taking ∷ []
AreTakingParts code me inside (bytes ∷ left) parts =
    (arrival : Arrival) × (others : List NodePart) × Arrives code me inside.seals bytes arrival
    × AreArrivalParts code me (inside_opened (opened_of inside.seals bytes) inside) arrival others
    × (parts ≡ Taking ∷ (opening_parts (opened_of inside.seals bytes) ++ others))

-- ---- units

-- the parts of a unit that runs an instruction
abbrev pub AreTurnParts : CodeShape → HostId → Inside → List NodePart → Type 0
AreTurnParts code me inside parts =
    (outcome : Outcome) × IsTurn code inside.host outcome
    × (parts ≡ step_parts code me inside.seals turn_line outcome)

abbrev pub AreUnitPartsOf : CodeShape → HostId → NodeWorld → Option ThreadShape → List NodePart → Type 0
AreUnitPartsOf code me world (Some thread) parts = AreTurnParts code me (inside_of world) parts
AreUnitPartsOf code me world None parts = AreTakingParts code me (inside_of world) world.left parts

-- the parts of the next unit
abbrev pub AreUnitParts : CodeShape → HostId → NodeWorld → List NodePart → Type 0
AreUnitParts code me world parts = AreUnitPartsOf code me world world.host.running parts

-- a unit can be done: a thread runs, or a frame is left to take
abbrev pub IsUnit : NodeWorld → Type 0
IsUnit world = world.host.running ≡ None → world.left ≢ []
