-- A message that is taken leaves one outcome at most, and so does a turn.
use Rattle.std.proofs.Common.{◌≡◌, Option, Some, None, ap, sym, ◌∙◌}
use Rattle.std.proofs.lemmas.Bool.Decides.{same_from_decides}
use Rattle.js_base.specs.declared.ids.HostId.{HostId}
use Rattle.host_code.specs.declared.instruction.Instr.{Instr}
use Rattle.host_code.specs.declared.message.Message.{Message}
use Rattle.host_code.specs.Code.{CodeShape, instruction_at}
use Rattle.host_code.specs.Thread.{ThreadShape}
use Rattle.host_core.specs.Host.{HostState, Outcome, with_running}
use Rattle.host_core.specs.Taking.{IsTaking, after_taking}
use Rattle.host_core.specs.Turn.{IsRunning, IsTurnOf, after_operation}

pub one_taking : (code : CodeShape) (host : HostState) (from : HostId) (message : Message) (first second : Outcome) →
    IsTaking code host from message first → IsTaking code host from message second → first ≡ second
one_taking code host from message first second takes also =
    sym takes.2 ∙ ap (after_taking code host from message) (same_from_decides takes.0 also.0 takes.1 also.1) ∙ also.2

one_running : (code : CodeShape) (host : HostState) (thread : ThreadShape) (instruction : Option Instr)
    (first second : Outcome) → IsRunning code host thread instruction first →
    IsRunning code host thread instruction second → first ≡ second
one_running code host thread None first second runs also = sym runs ∙ also
one_running code host thread (Some instruction) first second runs also =
    sym runs.2
    ∙ ap (after_operation code host thread instruction.op) (same_from_decides runs.0 also.0 runs.1 also.1) ∙ also.2

pub one_turn_of : (code : CodeShape) (host : HostState) (running : Option ThreadShape) (first second : Outcome) →
    IsTurnOf code host running first → IsTurnOf code host running second → first ≡ second
one_turn_of code host None first second turns also = sym turns ∙ also
one_turn_of code host (Some thread) first second turns also =
    one_running code (with_running host None) thread (instruction_at code host.me thread.at) first second turns also
