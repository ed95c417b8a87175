-- What a host does, step by step: it takes a message from another host, or makes a turn.
use Rattle.std.specs.Prelude.{Bool, Option, Some, None}
use Rattle.js_base.specs.declared.ids.HostId.{HostId}
use Rattle.host_code.specs.declared.instruction.Instr.{Instr}
use Rattle.host_code.specs.declared.message.Message.{Message}
use Rattle.host_code.specs.Code.{CodeShape, instruction_at}
use Rattle.host_code.specs.Thread.{ThreadShape}
use Rattle.host_core.specs.Host.{HostState, Outcome, without_message, with_running}
use Rattle.host_core.specs.Taking.{IsTaking, after_taking}
use Rattle.host_core.specs.Turn.{IsTurn, after_operation, with_thread}
use Rattle.journal_laws.specs.Bare.{bare_message}

pub data Step : Type 0 where
  turns : Step
  takes : (from : HostId) (message : Message) → Step

-- this is what the step leaves and sends
abbrev pub IsStepOfHost : CodeShape → HostState → Step → Outcome → Type 0
IsStepOfHost code host turns outcome = IsTurn code host outcome
IsStepOfHost code host (takes from message) outcome = IsTaking code host from message outcome

-- ---- the same by one truth value: whether the check of the step passes

abbrev pub after_running : CodeShape → HostState → ThreadShape → Option Instr → Bool → Outcome
after_running code host thread None passes = with_thread host thread
after_running code host thread (Some instruction) passes = after_operation code host thread instruction.op passes

abbrev pub after_turn : CodeShape → HostState → Option ThreadShape → Bool → Outcome
after_turn code host None passes = without_message host
after_turn code host (Some thread) passes =
    after_running code (with_running host None) thread (instruction_at code host.me thread.at) passes

abbrev pub told_step : CodeShape → HostState → Step → Bool → Outcome
told_step code host turns passes = after_turn code host host.running passes
told_step code host (takes from message) passes = after_taking code host from message passes

abbrev pub bare_step : Step → Step
bare_step turns = turns
bare_step (takes from message) = takes from (bare_message message)
