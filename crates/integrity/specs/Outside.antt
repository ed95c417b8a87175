-- Worlds in which all that goes on could be the doing of hosts that misbehave.
use Rattle.std.specs.Prelude.{◌≢◌, ⊤, ℕ, All, Any, IfSome}
use Rattle.std.specs.List.{AllByRecursion}
use Rattle.js_base.specs.declared.ids.HostId.{HostId}
use Rattle.js_base.specs.declared.ids.EntryId.{EntryId}
use Rattle.jif_tree.specs.Altered.{Exposure, FieldIsAffected, VariableIsAffected}
use Rattle.msg_cost.specs.Moves.{PlannedShape}
use Rattle.host_code.specs.declared.message.Message.{Message}
use Rattle.host_code.specs.declared.message.Message.TheVariants as message
use Rattle.host_code.specs.Code.{CodeShape, halt}
use Rattle.host_code.specs.Thread.{ThreadShape}
use Rattle.host_core.specs.Host.{HostState}
use Rattle.net_world.specs.World.{WorldShape, state_at}
use Rattle.split_rules.specs.Placed.{PlacedProgram, planned_from}
use Rattle.split_rules.specs.Opening.{IsOpenTo, HasNeed}
use Rattle.split_rules.specs.SplitCode.{split_code}
use Rattle.split_rules.specs.TypedCode.{Table}
use Rattle.integrity.specs.Exposed.{exposure_of}

-- the code of a split program, what is known at each place of it, and what misbehaving hosts may affect
pub record Threat : Type 0 where
  pub planned : PlannedShape
  pub code : CodeShape
  pub table : Table
  pub exposure : Exposure

-- those of a program that is split by a plan, where the hosts of the word's bits misbehave
abbrev pub threat_of : PlacedProgram → Table → ℕ → Threat
threat_of placed table bad = record {
  planned = planned_from placed;
  code = split_code placed;
  table = table;
  exposure = exposure_of placed bad;
}

-- Some misbehaving host is trusted for all that is due at a place of a host.
abbrev pub PlaceIsOpen : Threat → HostId → ℕ → Type 0
PlaceIsOpen threat me place =
    Any (λ label. IsOpenTo threat.planned label (threat.table.at me.0 place)) threat.exposure.bad

-- A thread that waits is kept as it goes on, so its place is the one behind the instruction that asked.
abbrev pub ThreadIsOpen : Threat → HostId → ThreadShape → Type 0
ThreadIsOpen threat me thread = PlaceIsOpen threat me thread.at

-- some misbehaving host may enter at an entry, which is not the one that ends the program
abbrev pub EntryIsOpen : Threat → EntryId → Type 0
EntryIsOpen threat there =
    (there ≢ halt) × Any (λ label. HasNeed threat.code label there) threat.exposure.bad

-- A message sets what may be affected, each variable that rides included, and enters where some misbehaving host may.
-- One that only reads, answers or gives a token back is not asked for anything: what it does is up to who takes it.
abbrev pub MessageIsOpen : Threat → Message → Type 0
MessageIsOpen threat (message.Set request field index value) = FieldIsAffected threat.exposure field
MessageIsOpen threat (message.Forward request frame x value) = VariableIsAffected threat.exposure x
MessageIsOpen threat (message.Sync request frame there token) = EntryIsOpen threat there
MessageIsOpen threat (message.Rgoto frame there token) = EntryIsOpen threat there
MessageIsOpen threat (message.RgotoWith frame there token riders) =
    EntryIsOpen threat there × AllByRecursion (λ rider. VariableIsAffected threat.exposure rider.0) riders
MessageIsOpen threat _ = ⊤

-- what runs on a host, waits there and is on its stack
pub record StateIsOpen (threat : Threat) (state : HostState) : Type 0 where
  pub running : IfSome state.running (ThreadIsOpen threat state.me)
  pub waiting : All (λ waiting. ThreadIsOpen threat state.me waiting.thread) state.waiting
  pub entries : All (λ on_stack. EntryIsOpen threat on_stack.entry) state.entries

-- the same of all obeying hosts, and of what is in flight between them
pub record IsOutside (threat : Threat) (world : WorldShape) : Type 0 where
  pub states : (host : HostId) → IfSome (state_at world host) (StateIsOpen threat)
  pub flying : (from to : HostId) → All (λ flight. MessageIsOpen threat flight.message) (world.flying from to)
