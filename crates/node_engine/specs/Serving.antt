-- What a node does in so many units, and how it ends.
use Rattle.std.specs.Prelude.{◌≡◌, ◌⊎◌, ℕ, zero, suc, ◌+◌, Bool, true, false, ◌==◌, ◌&&◌, if◌then◌else◌}
use Rattle.std.specs.Prelude.{List, [], ◌++◌, length}
use Rattle.js_base.specs.declared.ids.HostId.{HostId}
use Rattle.js_base.specs.declared.status.Status.{Status}
use Rattle.js_base.specs.declared.status.Status.TheVariants as status
use Rattle.host_code.specs.Code.{CodeShape}
use Rattle.host_core.specs.Host.{HostState}
use Rattle.wire_msg.specs.declared.frame.Frame.TheVariants as frame
use Rattle.wire_msg.specs.Spelling.{frame_bytes}
use Rattle.node_engine.specs.declared.node_error.NodeError.{NodeError}
use Rattle.node_engine.specs.NodeWorlds.{NodeWorld, NodePart, do_all, BreaksIn}
use Rattle.node_seals.specs.Seals.{SealsShape, after_sealing}
use Rattle.node_engine.specs.Statuses.{status_of}
use Rattle.node_engine.specs.Units.{AreUnitParts, IsUnit, frame_parts}

-- parts break, by an error of this status
abbrev pub StopsIn : Status → List NodePart → NodeWorld → NodeWorld → Type 0
StopsIn answer parts world new = (error : NodeError) × (answer ≡ status_of error) × BreaksIn error parts world new

-- ---- the end of the program

-- a host is told that the program is done, unless it is the node's own
abbrev pub telling : HostId → SealsShape → ℕ → List NodePart
telling me seals number =
    if number == me.0 then [] else frame_parts seals (record { 0 = number }) (frame_bytes me frame.Done)

-- the seals behind it
abbrev pub after_telling : HostId → SealsShape → ℕ → SealsShape
after_telling me seals number = if number == me.0 then seals else after_sealing (record { 0 = number }) seals

-- so many hosts are told, from some number on
abbrev pub closing_from : HostId → SealsShape → ℕ → ℕ → List NodePart
closing_from me seals number zero = []
closing_from me seals number (suc left) =
    telling me seals number ++ closing_from me (after_telling me seals number) (number + 1) left

-- the closing frames: each other host is told
abbrev pub closing_parts : CodeShape → HostId → SealsShape → List NodePart
closing_parts code me seals = closing_from me seals 0 (length code.hosts)

-- the closing frames are sent, or some of them are and one breaks
abbrev pub Closes : CodeShape → HostId → Status → NodeWorld → NodeWorld → Type 0
Closes code me answer world new =
    ((answer ≡ status.Done) × (new ≡ do_all (closing_parts code me world.seals) world))
    ⊎ StopsIn answer (closing_parts code me world.seals) world new

-- the node is the root's, and its host has halted
abbrev pub has_ended : CodeShape → HostId → HostState → Bool
has_ended code me host = (me.0 == code.root.0) && host.halted

-- How far the program is for a node: the root said that it is done; the node is the root's, and it has halted; or it
-- goes on.
pub data Stage : Type 0 where
  is_told : Stage
  halts : Stage
  goes_on : Stage

abbrev pub stage_by : (told ended : Bool) → Stage
stage_by true ended = is_told
stage_by false true = halts
stage_by false false = goes_on

abbrev pub stage_of : CodeShape → HostId → NodeWorld → Stage
stage_of code me world = stage_by world.ended (has_ended code me world.host)

-- ---- so many units

-- where the program goes on, it is otherwise
abbrev pub EndsAt : CodeShape → HostId → Stage → Status → NodeWorld → NodeWorld → (Otherwise : Type 0) → Type 0
EndsAt code me is_told answer world new Otherwise = (answer ≡ status.Done) × (new ≡ world)
EndsAt code me halts answer world new Otherwise = Closes code me answer world new
EndsAt code me goes_on answer world new Otherwise = Otherwise

-- At most so many units are done one after the other, before each of which the program goes on. Then the program is at
-- its end for the node, the units are used up, or one of them breaks.
abbrev pub Serves : CodeShape → HostId → ℕ → Status → NodeWorld → NodeWorld → Type 0
Serves code me zero answer world new =
    EndsAt code me (stage_of code me world) answer world new ((answer ≡ status.Spent) × (new ≡ world))
Serves code me (suc units) answer world new =
    EndsAt code me (stage_of code me world) answer world new
    ((parts : List NodePart) × AreUnitParts code me world parts
    × (StopsIn answer parts world new ⊎ (IsUnit world × Serves code me units answer (do_all parts world) new)))
