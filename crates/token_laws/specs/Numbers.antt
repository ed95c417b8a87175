-- Hosts, messages, code and events whose numbers have 64 bits.
use Rattle.std.specs.Prelude.{ℕ, ℤ, ◌≡◌, ⊤, List, All, Some, IfSome}
use Rattle.std.specs.List.{AllByRecursion}
use Rattle.js_base.specs.declared.ids.HostId.{HostId}
use Rattle.js_base.specs.declared.ids.FrameId.{FrameId}
use Rattle.js_base.specs.declared.ids.VarId.{VarId}
use Rattle.jif_tree.specs.Numbers.{IsNumber}
use Rattle.host_code.specs.declared.code_expr.Node.{Node}
use Rattle.host_code.specs.declared.code_expr.Node.TheVariants as node
use Rattle.host_code.specs.declared.instruction.Instr.{Instr}
use Rattle.host_code.specs.declared.instruction.Op.{Op}
use Rattle.host_code.specs.declared.instruction.Op.TheVariants as op
use Rattle.host_code.specs.declared.message.Message.{Message}
use Rattle.host_code.specs.declared.message.Message.TheVariants as message
use Rattle.host_code.specs.Riders.{Rider}
use Rattle.host_code.specs.Thread.{ThreadShape}
use Rattle.host_code.specs.Code.{CodeShape, instruction_at}
use Rattle.host_core.specs.Host.{HostState}
use Rattle.event_text.specs.declared.event.Event.{Event}
use Rattle.event_text.specs.declared.event.Event.TheVariants.{Act}
use Rattle.event_text.specs.declared.event.BadMessage.{BadMessage}
use Rattle.event_text.specs.declared.event.BadMessage.TheVariants as bad
use Rattle.net_world.specs.World.{WorldShape, state_at}

-- ---- the code

abbrev pub NodeHasNumber : Node → Type 0
NodeHasNumber (node.Number n) = IsNumber n
NodeHasNumber _ = ⊤

abbrev pub HaveNumbers : List Node → Type 0
HaveNumbers nodes = All NodeHasNumber nodes

abbrev pub OperationHasNumbers : Op → Type 0
OperationHasNumbers (op.Read field index) = HaveNumbers index
OperationHasNumbers (op.Let variable value) = HaveNumbers value
OperationHasNumbers (op.Put field index value) = HaveNumbers index × HaveNumbers value
OperationHasNumbers (op.Arg variable value) = HaveNumbers value
OperationHasNumbers (op.Ret variable value) = HaveNumbers value
OperationHasNumbers (op.Branch guard target) = HaveNumbers guard
OperationHasNumbers _ = ⊤

-- each number that an instruction names
abbrev pub CodeHasNumbers : CodeShape → Type 0
CodeHasNumbers code = (host : HostId) (at : ℕ) (instruction : Instr) → instruction_at code host at ≡ Some instruction →
    OperationHasNumbers instruction.op

-- ---- what hosts start with, and what misbehaving hosts send

abbrev pub RowsHaveNumbers : List (List ℤ) → Type 0
RowsHaveNumbers rows = All (All IsNumber) rows

-- the values that ride
abbrev pub RidersHaveNumbers : List Rider → Type 0
RidersHaveNumbers riders = AllByRecursion (λ rider. IsNumber rider.1) riders

abbrev pub MadeHasNumbers : BadMessage → Type 0
MadeHasNumbers (bad.Get request field index) = IsNumber index
MadeHasNumbers (bad.Set request field index value) = IsNumber index × IsNumber value
MadeHasNumbers (bad.Forward request frame variable value) = IsNumber value
MadeHasNumbers (bad.RgotoWith frame entry token riders) = RidersHaveNumbers riders
MadeHasNumbers (bad.Value request value) = IsNumber value
MadeHasNumbers _ = ⊤

abbrev pub EventHasNumbers : Event → Type 0
EventHasNumbers (Act from to made) = MadeHasNumbers made
EventHasNumbers _ = ⊤

-- ---- a world

abbrev pub MessageHasNumbers : Message → Type 0
MessageHasNumbers (message.Get request field index) = IsNumber index
MessageHasNumbers (message.Set request field index value) = IsNumber index × IsNumber value
MessageHasNumbers (message.Forward request frame variable value) = IsNumber value
MessageHasNumbers (message.RgotoWith frame entry token riders) = RidersHaveNumbers riders
MessageHasNumbers (message.Value request value) = IsNumber value
MessageHasNumbers _ = ⊤

abbrev pub ThreadHasNumbers : ThreadShape → Type 0
ThreadHasNumbers thread = All IsNumber thread.temporaries

-- the fields, the variables and the temporaries of a host
pub record StateHasNumbers (state : HostState) : Type 0 where
  pub rows : RowsHaveNumbers state.rows
  pub variables : (frame : FrameId) (variable : VarId) → IsNumber (state.variables frame variable)
  pub running : IfSome state.running ThreadHasNumbers
  pub waiting : All (λ waiting. ThreadHasNumbers waiting.thread) state.waiting

-- those of all hosts, and what is in flight
pub record WorldHasNumbers (world : WorldShape) : Type 0 where
  pub states : (host : HostId) → IfSome (state_at world host) StateHasNumbers
  pub flying : (from to : HostId) → All (λ flight. MessageHasNumbers flight.message) (world.flying from to)
