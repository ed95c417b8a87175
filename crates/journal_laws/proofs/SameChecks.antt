-- Whether a step passes its check is told without tags, but where it takes an entry off the stack.
use Rattle.std.proofs.Common.{◌≡◌, ◌≢◌, ◌∙◌, Bool, true, false, refl, ap, sym, subst, arith}
use Rattle.std.specs.Prelude.{◌==◌, ◌&&◌, ◌↔◌, ℕ, Option, Some, None, ⊤, IsTrue, IsSome}
use Rattle.std.specs.Option.{option_map}
use Rattle.std.proofs.lemmas.Bool.{false≢true}
use Rattle.std.proofs.lemmas.Bool.Decides.{nat_tests}
use Rattle.js_base.specs.declared.ids.HostId.{HostId}
use Rattle.js_base.specs.declared.ids.RequestId.{RequestId}
use Rattle.capability.specs.declared.token.Token.{Token}
use Rattle.host_code.specs.declared.instruction.Instr.{Instr}
use Rattle.host_code.specs.declared.instruction.Op.{Op}
use Rattle.host_code.specs.declared.instruction.Op.TheVariants as op
use Rattle.host_code.specs.declared.message.Message.{Message}
use Rattle.host_code.specs.declared.message.Message.TheVariants as message
use Rattle.host_code.specs.Thread.{ThreadShape, Awaited}
use Rattle.host_code.specs.Thread.Awaited.{value_of_field, acknowledgement, token_of_entry}
use Rattle.host_code.specs.Code.{CodeShape, instruction_at}
use Rattle.host_code.specs.Sound.{IsSoundCode, IsHost, OperationFits}
use Rattle.host_core.specs.Fits.{StateFits}
use Rattle.host_core.specs.Host.{HostState, Outcome, with_running}
use Rattle.host_core.specs.Taking.{IsTaking, PassesCheck, place_of_awaiting}
use Rattle.host_core.specs.Turn.{IsTurnOf, IsRunning, PassesWith}
use Rattle.journal_laws.specs.Bare.{bare_host, bare_message, bare_thread, bare_token}
use Rattle.journal_laws.specs.Steps.{Step, turns, takes, IsStepOfHost, bare_step, told_step, after_turn, after_running}
use Rattle.journal_laws.proofs.BareTakings.{position_bare}
use Rattle.journal_laws.proofs.WithoutHalt.{without_halt, halt_left_out, runs_without, takes_without, LeavesHalt}
use Rattle.journal_laws.proofs.WithoutHalt.{AsksOther}

-- what a journal tells of a host
abbrev pub told_of : HostState → HostState
told_of host = bare_host (without_halt host)

-- ---- the steps that take an entry off the stack

abbrev pub is_back : Op → Bool
is_back op.Back = true
is_back _ = false

abbrev pub is_own : HostId → Option Token → Bool
is_own me None = false
is_own me (Some held) = held.host.0 == me.0

abbrev pub instruction_takes_off : HostId → Option Token → Option Instr → Bool
instruction_takes_off me held None = false
instruction_takes_off me held (Some instruction) = is_back instruction.op && is_own me held

abbrev pub thread_takes_off : CodeShape → HostId → Option ThreadShape → Bool
thread_takes_off code me None = false
thread_takes_off code me (Some thread) = instruction_takes_off me thread.held (instruction_at code me thread.at)

abbrev pub is_lgoto : Message → Bool
is_lgoto (message.Lgoto token) = true
is_lgoto _ = false

-- an lgoto, or a token that is given back on its own host
abbrev pub takes_off : CodeShape → HostState → Step → Bool
takes_off code host turns = thread_takes_off code host.me host.running
takes_off code host (takes from letter) = is_lgoto letter

own_told : (me : HostId) (held : Option Token) → is_own me (option_map bare_token held) ≡ is_own me held
own_told me None = refl
own_told me (Some held) = refl

thread_told : (code : CodeShape) (me : HostId) (running : Option ThreadShape) →
    thread_takes_off code me (option_map bare_thread running) ≡ thread_takes_off code me running
thread_told code me None = refl
thread_told code me (Some thread) = by (instruction_at code me thread.at)
  where
    by : (found : Option Instr) → instruction_takes_off me (option_map bare_token thread.held) found
        ≡ instruction_takes_off me thread.held found
    by None = refl
    by (Some instruction) = ap (λ own. is_back instruction.op && own) (own_told me thread.held)

lgoto_told : (letter : Message) → is_lgoto (bare_message letter) ≡ is_lgoto letter
lgoto_told (message.Get request field index) = refl
lgoto_told (message.Set request field index value) = refl
lgoto_told (message.Forward request frame variable value) = refl
lgoto_told (message.Sync request frame entry token) = refl
lgoto_told (message.Rgoto frame entry token) = refl
lgoto_told (message.RgotoWith frame entry token riders) = refl
lgoto_told (message.Lgoto token) = refl
lgoto_told (message.Value request value) = refl
lgoto_told (message.Ack request) = refl
lgoto_told (message.Token request token) = refl

takes_off_told : (code : CodeShape) (host : HostState) (step : Step) →
    takes_off code (told_of host) (bare_step step) ≡ takes_off code host step
takes_off_told code host turns = thread_told code host.me host.running
takes_off_told code host (takes from letter) = lgoto_told letter

-- hosts of which the same is told take an entry off by the same steps
pub same_takes_off : (code : CodeShape) (one other : HostState) (step another : Step) →
    told_of one ≡ told_of other → bare_step step ≡ bare_step another →
    takes_off code one step ≡ takes_off code other another
same_takes_off code one other step another hosts steps =
    sym (takes_off_told code one step)
    ∙ ap (λ host. takes_off code host (bare_step step)) hosts
    ∙ ap (takes_off code (told_of other)) steps
    ∙ takes_off_told code other another

-- ---- the checks

abbrev pub CheckOfInstruction : CodeShape → HostState → Option Token → Option Instr → Type 0
CheckOfInstruction code host held None = ⊤
CheckOfInstruction code host held (Some instruction) = PassesWith code (with_running host None) instruction.op held

abbrev pub CheckOfThread : CodeShape → HostState → Option ThreadShape → Type 0
CheckOfThread code host None = ⊤
CheckOfThread code host (Some thread) =
    CheckOfInstruction code host thread.held (instruction_at code host.me thread.at)

abbrev pub CheckOf : CodeShape → HostState → Step → Type 0
CheckOf code host turns = CheckOfThread code host host.running
CheckOf code host (takes from letter) = PassesCheck code host from letter

awaited_told : (host : HostState) (awaited : Awaited) (request : RequestId) (from : HostId) →
    IsSome (place_of_awaiting host awaited request from)
    ↔ IsSome (place_of_awaiting (told_of host) awaited request from)
awaited_told host awaited request from =
    let place = position_bare awaited request from host.waiting in
    (subst IsSome (sym place), subst IsSome place)

pub taking_told : (code : CodeShape) (host : HostState) (from : HostId) (letter : Message) → is_lgoto letter ≡ false →
    PassesCheck code host from letter ↔ PassesCheck code (told_of host) from (bare_message letter)
taking_told code host from (message.Get request field index) other = (λ a. a, λ a. a)
taking_told code host from (message.Set request field index value) other = (λ a. a, λ a. a)
taking_told code host from (message.Forward request frame variable value) other = (λ a. a, λ a. a)
taking_told code host from (message.Sync request frame entry token) other = (λ a. a, λ a. a)
taking_told code host from (message.Rgoto frame entry token) other = (λ a. a, λ a. a)
taking_told code host from (message.RgotoWith frame entry token riders) other = (λ a. a, λ a. a)
taking_told code host from (message.Lgoto token) other = absurd cc
taking_told code host from (message.Value request value) other = awaited_told host value_of_field request from
taking_told code host from (message.Ack request) other = awaited_told host acknowledgement request from
taking_told code host from (message.Token request token) other = awaited_told host token_of_entry request from

pub returning_told : (code : CodeShape) (host : HostState) (operation : Op) (held : Option Token) →
    (is_back operation && is_own host.me held) ≡ false →
    PassesWith code (with_running host None) operation held
    ↔ PassesWith code (with_running (told_of host) None) operation (option_map bare_token held)
returning_told code host (op.Read field index) held other = (λ a. a, λ a. a)
returning_told code host (op.Let variable value) held other = (λ a. a, λ a. a)
returning_told code host (op.Put field index value) held other = (λ a. a, λ a. a)
returning_told code host (op.Send variable to) held other = (λ a. a, λ a. a)
returning_told code host (op.Frame site) held other = (λ a. a, λ a. a)
returning_told code host (op.Arg variable value) held other = (λ a. a, λ a. a)
returning_told code host (op.Pass variable to) held other = (λ a. a, λ a. a)
returning_told code host (op.Push entry) held other = (λ a. a, λ a. a)
returning_told code host (op.Ask entry on) held other = (λ a. a, λ a. a)
returning_told code host (op.Go entry on) held other = (λ a. a, λ a. a)
returning_told code host (op.GoWith entry on riders) held other = (λ a. a, λ a. a)
returning_told code host (op.Call entry on) held other = (λ a. a, λ a. a)
returning_told code host (op.CallWith entry on riders) held other = (λ a. a, λ a. a)
returning_told code host (op.Ret variable value) None other = (λ a. a, λ a. a)
returning_told code host (op.Ret variable value) (Some held) other = (λ a. a, λ a. a)
returning_told code host op.Back None other = (λ a. a, λ a. a)
returning_told code host op.Back (Some held) other =
    let away : held.host.0 ≢ host.me.0 = λ own. grind (arith, nat_tests) in
    (λ a own. absurd (away own), λ a own. absurd (away own))
returning_told code host (op.Branch guard target) held other = (λ a. a, λ a. a)

-- ---- a step that takes nothing off

-- it is what one truth value makes of the host without the entry that ends the program, and the value is told
pub record IsPlain (code : CodeShape) (host : HostState) (step : Step) (outcome : Outcome) : Type 0 where
  pub passes : Bool
  pub check : IsTrue passes ↔ CheckOf code (told_of host) (bare_step step)
  pub leaves : told_step code (without_halt host) step passes ≡ halt_left_out outcome

both : {A B C : Type 0} → A ↔ B → B ↔ C → A ↔ C
both one two = (λ a. two.0 (one.0 a), λ c. one.1 (two.1 c))

pub asks_other : (code : CodeShape) (host : HostState) (from : HostId) (letter : Message) → is_lgoto letter ≡ false →
    PassesCheck code host from letter → AsksOther letter
asks_other code host from (message.Get request field index) other passes = tt
asks_other code host from (message.Set request field index value) other passes = tt
asks_other code host from (message.Forward request frame variable value) other passes = tt
asks_other code host from (message.Sync request frame entry token) other passes = passes.0
asks_other code host from (message.Rgoto frame entry token) other passes = tt
asks_other code host from (message.RgotoWith frame entry token riders) other passes = tt
asks_other code host from (message.Lgoto token) other passes = absurd cc
asks_other code host from (message.Value request value) other passes = tt
asks_other code host from (message.Ack request) other passes = tt
asks_other code host from (message.Token request token) other passes = tt

taking_plain : (code : CodeShape) (host : HostState) (from : HostId) (letter : Message) (outcome : Outcome) →
    is_lgoto letter ≡ false → IsTaking code host from letter outcome → IsPlain code host (takes from letter) outcome
taking_plain code host from letter outcome other (passes, check, is) = record {
  passes = passes;
  check = both check (taking_told code host from letter other);
  leaves = takes_without code host from letter passes
      (λ holds. asks_other code host from letter other (check.0 holds))
      ∙ ap halt_left_out is;
}

pub leaves_halt : (code : CodeShape) (host : HostState) (count : ℕ) (operation : Op) (held : Option Token) →
    OperationFits code host.me count operation → (is_back operation && is_own host.me held) ≡ false →
    LeavesHalt host held operation
leaves_halt code host count (op.Read field index) held fits other = tt
leaves_halt code host count (op.Let variable value) held fits other = tt
leaves_halt code host count (op.Put field index value) held fits other = tt
leaves_halt code host count (op.Send variable to) held fits other = tt
leaves_halt code host count (op.Frame site) held fits other = tt
leaves_halt code host count (op.Arg variable value) held fits other = tt
leaves_halt code host count (op.Pass variable to) held fits other = tt
leaves_halt code host count (op.Push entry) held fits other = fits.0
leaves_halt code host count (op.Ask entry on) held fits other = tt
leaves_halt code host count (op.Go entry on) held fits other = tt
leaves_halt code host count (op.GoWith entry on riders) held fits other = tt
leaves_halt code host count (op.Call entry on) held fits other = tt
leaves_halt code host count (op.CallWith entry on riders) held fits other = tt
leaves_halt code host count (op.Ret variable value) held fits other = tt
leaves_halt code host count op.Back None fits other = tt
leaves_halt code host count op.Back (Some held) fits other = other
leaves_halt code host count (op.Branch guard target) held fits other = tt

-- a turn by what runs, and what it runs
abbrev PlainRun : CodeShape → HostState → Option ThreadShape → Outcome → Type 0
PlainRun code host running outcome =
    (passes : Bool) × (IsTrue passes ↔ CheckOfThread code (told_of host) (option_map bare_thread running))
    × (after_turn code (without_halt host) running passes ≡ halt_left_out outcome)

abbrev PlainInstruction : CodeShape → HostState → ThreadShape → Option Instr → Outcome → Type 0
PlainInstruction code host thread found outcome =
    (passes : Bool)
    × (IsTrue passes ↔ CheckOfInstruction code (told_of host) (option_map bare_token thread.held) found)
    × (after_running code (with_running (without_halt host) None) thread found passes ≡ halt_left_out outcome)

turning_plain : (code : CodeShape) (host : HostState) (running : Option ThreadShape) (outcome : Outcome) →
    IsSoundCode code → IsHost code host.me → thread_takes_off code host.me running ≡ false →
    IsTurnOf code host running outcome → PlainRun code host running outcome
turning_plain code host None outcome sound there other is = (true, (λ a. tt, λ a. refl), ap halt_left_out is)
turning_plain code host (Some thread) outcome sound there other is =
    by (instruction_at code host.me thread.at) refl other is
  where
    by : (found : Option Instr) → instruction_at code host.me thread.at ≡ found →
        instruction_takes_off host.me thread.held found ≡ false →
        IsRunning code (with_running host None) thread found outcome →
        PlainInstruction code host thread found outcome
    by None at other is = (true, (λ a. tt, λ a. refl), ap halt_left_out is)
    by (Some instruction) at other (passes, check, is) =
        let fits = ((sound.parts host.me there).instructions thread.at instruction at).operation in (
          passes,
          both check (returning_told code host instruction.op thread.held other),
          runs_without code (with_running host None) thread instruction.op passes
              (leaves_halt code host _ instruction.op thread.held fits other) ∙ ap halt_left_out is,
        )

pub plain_step : (code : CodeShape) (host : HostState) (step : Step) (outcome : Outcome) → IsSoundCode code →
    StateFits code host → takes_off code host step ≡ false → IsStepOfHost code host step outcome →
    IsPlain code host step outcome
plain_step code host (takes from letter) outcome sound fits other is =
    taking_plain code host from letter outcome other is
plain_step code host turns outcome sound fits other is =
    let (passes, check, leaves) = turning_plain code host host.running outcome sound fits.me other is in
    record { passes = passes; check = check; leaves = leaves }

-- ---- two hosts of which the same is told

pub same_value : (one other : Bool) {A : Type 0} → IsTrue one ↔ A → IsTrue other ↔ A → one ≡ other
same_value true true first second = refl
same_value false false first second = refl
same_value true false first second = absurd (false≢true (second.1 (first.0 refl)))
same_value false true first second = absurd (false≢true (first.1 (second.0 refl)))

pub same_passes : (code : CodeShape) (one other : HostState) (step another : Step) (first second : Outcome) →
    told_of one ≡ told_of other → bare_step step ≡ bare_step another →
    (plain : IsPlain code one step first) → (beside : IsPlain code other another second) →
    plain.passes ≡ beside.passes
same_passes code one other step another first second hosts steps plain beside =
    let check : IsTrue plain.passes ↔ CheckOf code (told_of other) (bare_step another) =
    subst (λ told. IsTrue plain.passes ↔ CheckOf code (told_of other) told) steps
    (subst (λ host. IsTrue plain.passes ↔ CheckOf code host (bare_step step)) hosts plain.check) in
    same_value plain.passes beside.passes check beside.check
