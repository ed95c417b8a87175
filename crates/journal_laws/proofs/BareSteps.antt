-- A step does not look at tags, but for its check, so hosts that are alike make alike steps.
use Rattle.std.proofs.Common.{◌≡◌, ◌∙◌, Bool, sym, ap}
use Rattle.std.specs.Prelude.{Option, Some, None, false}
use Rattle.std.specs.Option.{option_map}
use Rattle.host_code.specs.declared.instruction.Instr.{Instr}
use Rattle.host_code.specs.Code.{CodeShape, instruction_at}
use Rattle.host_code.specs.Thread.{ThreadShape}
use Rattle.host_core.specs.Host.{HostState, Outcome, with_running}
use Rattle.host_core.specs.Turn.{IsRunning, IsTurnOf}
use Rattle.journal_laws.specs.Bare.{bare_host, bare_outcome, bare_thread}
use Rattle.journal_laws.specs.Steps.{Step, turns, takes, IsStepOfHost, after_running, after_turn, told_step, bare_step}
use Rattle.journal_laws.proofs.BareHosts.{host_twice, thread_twice, leaves, running_bare}
use Rattle.journal_laws.proofs.BareTakings.{takes_bare}
use Rattle.journal_laws.proofs.BareTurns.{runs_bare}

running_step : (code : CodeShape) (host : HostState) (thread : ThreadShape) (found : Option Instr) (passes : Bool) →
    bare_outcome (after_running code (bare_host host) (bare_thread thread) found passes)
    ≡ bare_outcome (after_running code host thread found passes)
running_step code host thread None passes =
    leaves (running_bare host (Some (bare_thread thread)) (Some thread) (ap Some (thread_twice thread)))
running_step code host thread (Some instruction) passes = runs_bare code host thread instruction.op passes

turn_step : (code : CodeShape) (host : HostState) (running : Option ThreadShape) (passes : Bool) →
    bare_outcome (after_turn code (bare_host host) (option_map bare_thread running) passes)
    ≡ bare_outcome (after_turn code host running passes)
turn_step code host None passes = leaves (host_twice host)
turn_step code host (Some thread) passes =
    running_step code (with_running host None) thread (instruction_at code host.me thread.at) passes

told_bare : (code : CodeShape) (host : HostState) (step : Step) (passes : Bool) →
    bare_outcome (told_step code (bare_host host) (bare_step step) passes)
    ≡ bare_outcome (told_step code host step passes)
told_bare code host turns passes = turn_step code host host.running passes
told_bare code host (takes from message) passes = takes_bare code host from message passes

-- A step is that of one truth value, which is its check's, or where it has none any.
told : (code : CodeShape) (host : HostState) (step : Step) (outcome : Outcome) → IsStepOfHost code host step outcome →
    (passes : Bool) × (told_step code host step passes ≡ outcome)
told code host (takes from message) outcome (passes, check, is) = (passes, is)
told code host turns outcome turn = by host.running turn
  where
    runs : (thread : ThreadShape) (found : Option Instr) →
        IsRunning code (with_running host None) thread found outcome →
        (passes : Bool) × (after_running code (with_running host None) thread found passes ≡ outcome)
    runs thread None is = (false, is)
    runs thread (Some instruction) (passes, check, is) = (passes, is)

    by : (running : Option ThreadShape) → IsTurnOf code host running outcome →
        (passes : Bool) × (after_turn code host running passes ≡ outcome)
    by None is = (false, is)
    by (Some thread) is = runs thread (instruction_at code host.me thread.at) is

pub step_bare : (code : CodeShape) (host : HostState) (step : Step) (outcome : Outcome) →
    IsStepOfHost code host step outcome →
    (passes : Bool) × (bare_outcome (told_step code (bare_host host) (bare_step step) passes) ≡ bare_outcome outcome)
step_bare code host step outcome is =
    let one = told code host step outcome is in (one.0, told_bare code host step one.0 ∙ ap bare_outcome one.1)

pub steps_alike : (code : CodeShape) (one other : HostState) (step another : Step) (passes : Bool) →
    bare_host one ≡ bare_host other → bare_step step ≡ bare_step another →
    bare_outcome (told_step code one step passes) ≡ bare_outcome (told_step code other another passes)
steps_alike code one other step another passes hosts steps =
    sym (told_bare code one step passes)
    ∙ ap (λ host. bare_outcome (told_step code host (bare_step step) passes)) hosts
    ∙ ap (λ step. bare_outcome (told_step code (bare_host other) step passes)) steps
    ∙ told_bare code other another passes
