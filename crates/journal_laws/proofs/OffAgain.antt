-- A step that takes off the top entry or ignores a token, with the token that it presents, and what is left where the
-- entry that ends the program stands at the bottom alone.
use Rattle.std.proofs.Common.{◌≡◌, ◌∙◌, ◌⊎◌, ◌+◌, ℕ, Bool, true, false, refl, ap, sym, subst, List, [], ◌∷◌, inl, inr}
use Rattle.std.proofs.Common.{arith}
use Rattle.std.specs.Prelude.{◌==◌, ◌&&◌, ◌↔◌, Option, Some, None, IsSomeAnd, IsTrue, ⊤, filter}
use Rattle.std.specs.Option.{option_map}
use Rattle.std.proofs.lemmas.Bool.{false≢true}
use Rattle.std.proofs.lemmas.Bool.Decides.{nat_tests}
use Rattle.js_base.specs.declared.ids.HostId.{HostId}
use Rattle.capability.specs.declared.token.Token.{Token}
use Rattle.ics_stack.specs.declared.stack.StackEntry.{StackEntry}
use Rattle.ics_stack.specs.Stack.{top_token}
use Rattle.host_code.specs.declared.code.Entry.{Entry}
use Rattle.host_code.specs.declared.instruction.Instr.{Instr}
use Rattle.host_code.specs.declared.instruction.Op.{Op}
use Rattle.host_code.specs.declared.instruction.Op.TheVariants as op
use Rattle.host_code.specs.declared.message.Message.{Message}
use Rattle.host_code.specs.declared.message.Message.TheVariants as message
use Rattle.host_code.specs.Code.{CodeShape, entry_at, halt, instruction_at}
use Rattle.host_code.specs.Sound.{IsHost, IsSoundCode, OperationFits}
use Rattle.host_code.specs.Thread.{ThreadShape}
use Rattle.host_core.specs.Fits.{IsEntryOf}
use Rattle.host_core.specs.Host.{HostState, Outcome, after_pop, with_running, without_message}
use Rattle.host_core.specs.Taking.{PassesCheck, after_taking}
use Rattle.host_core.specs.Told.{IsOpenInstruction, IsOpenOperation, IsOpenTaking, IsOpenTurnOf, IsUnsure}
use Rattle.host_core.specs.Told.{after_told_back, settled}
use Rattle.host_core.specs.Turn.{IsRunning, IsTurnOf, PassesWith, after_back, after_operation}
use Rattle.journal_laws.specs.Bare.{bare_thread, bare_token}
use Rattle.journal_laws.specs.Steps.{Step, turns, takes, IsStepOfHost, after_running, after_turn, told_step, bare_step}
use Rattle.journal_laws.proofs.KeptStacks.{AreLow, FoundPushes, PushesOther, SyncsOther, ThreadPushes}
use Rattle.journal_laws.proofs.Retagged.{cast, tagged, tagged_message, tagged_step, tagged_thread}
use Rattle.journal_laws.proofs.SameChecks.{CheckOf, CheckOfInstruction, CheckOfThread, is_back, is_lgoto}
use Rattle.journal_laws.proofs.SameChecks.{instruction_takes_off, is_own, leaves_halt, returning_told, taking_told}
use Rattle.journal_laws.proofs.SameChecks.{takes_off, thread_takes_off, told_of}
use Rattle.journal_laws.proofs.TakenOff.{HasStarted, RestsFor, at_rest}
use Rattle.journal_laws.proofs.WithoutHalt.{AsksOther, halt_left_out, is_lasting, runs_without, takes_without}
use Rattle.journal_laws.proofs.WithoutHalt.{without_halt}

-- ---- a step by one truth value, and when it is true

abbrev pub IsStepBy : CodeShape → HostState → Step → Outcome → Type 0
IsStepBy code host step outcome =
    (passes : Bool) × (told_step code host step passes ≡ outcome) × (IsTrue passes ↔ CheckOf code host step)

pub step_by : (code : CodeShape) (host : HostState) (step : Step) (outcome : Outcome) →
    IsStepOfHost code host step outcome →
    IsStepBy code host step outcome
step_by code host (takes from letter) outcome (passes, check, is) = (passes, is, check)
step_by code host turns outcome turn = by host.running turn
  where
    runs : (thread : ThreadShape) (found : Option Instr) →
        IsRunning code (with_running host None) thread found outcome →
        (passes : Bool) × (after_running code (with_running host None) thread found passes ≡ outcome)
        × (IsTrue passes ↔ CheckOfInstruction code host thread.held found)
    runs thread None is = (true, is, (λ a. tt, λ a. refl))
    runs thread (Some instruction) (passes, check, is) = (passes, is, check)

    by : (running : Option ThreadShape) → IsTurnOf code host running outcome →
        (passes : Bool) × (after_turn code host running passes ≡ outcome)
        × (IsTrue passes ↔ CheckOfThread code host running)
    by None is = (true, is, (λ a. tt, λ a. refl))
    by (Some thread) is = runs thread (instruction_at code host.me thread.at) is

-- the check of a step that takes nothing off is told
pub check_told : (code : CodeShape) (host : HostState) (step : Step) → takes_off code host step ≡ false →
    CheckOf code host step ↔ CheckOf code (told_of host) (bare_step step)
check_told code host (takes from letter) other = taking_told code host from letter other
check_told code host turns other = by host.running other
  where
    found : (thread : ThreadShape) (at : Option Instr) → instruction_takes_off host.me thread.held at ≡ false →
        CheckOfInstruction code host thread.held at
        ↔ CheckOfInstruction code (told_of host) (option_map bare_token thread.held) at
    found thread None other = (λ a. a, λ a. a)
    found thread (Some instruction) other = returning_told code host instruction.op thread.held other

    by : (running : Option ThreadShape) → thread_takes_off code host.me running ≡ false →
        CheckOfThread code host running ↔ CheckOfThread code (told_of host) (option_map bare_thread running)
    by None other = (λ a. a, λ a. a)
    by (Some thread) other = found thread (instruction_at code host.me thread.at) other

-- ---- what a step pushes

operation_pushes : (code : CodeShape) (me : HostId) (count : ℕ) (operation : Op) →
    OperationFits code me count operation → PushesOther operation
operation_pushes code me count (op.Read field index) fits = tt
operation_pushes code me count (op.Let variable value) fits = tt
operation_pushes code me count (op.Put field index value) fits = tt
operation_pushes code me count (op.Send variable to) fits = tt
operation_pushes code me count (op.Frame site) fits = tt
operation_pushes code me count (op.Arg variable value) fits = tt
operation_pushes code me count (op.Pass variable to) fits = tt
operation_pushes code me count (op.Push entry) fits = fits.0
operation_pushes code me count (op.Ask entry on) fits = tt
operation_pushes code me count (op.Go entry on) fits = tt
operation_pushes code me count (op.GoWith entry on riders) fits = tt
operation_pushes code me count (op.Call entry on) fits = tt
operation_pushes code me count (op.CallWith entry on riders) fits = tt
operation_pushes code me count (op.Ret variable value) fits = tt
operation_pushes code me count op.Back fits = tt
operation_pushes code me count (op.Branch guard target) fits = tt

pub thread_pushes : (code : CodeShape) (me : HostId) (running : Option ThreadShape) → IsSoundCode code →
    IsHost code me → ThreadPushes code me running
thread_pushes code me None sound there = tt
thread_pushes code me (Some thread) sound there = by (instruction_at code me thread.at) refl
  where
    by : (found : Option Instr) → instruction_at code me thread.at ≡ found → FoundPushes found
    by None at = tt
    by (Some instruction) at =
        operation_pushes code me _ instruction.op
        ((sound.parts me there).instructions thread.at instruction at).operation

pub passing_syncs : (code : CodeShape) (host : HostState) (from : HostId) (letter : Message) →
    PassesCheck code host from letter → SyncsOther letter
passing_syncs code host from (message.Get request field index) passes = tt
passing_syncs code host from (message.Set request field index value) passes = tt
passing_syncs code host from (message.Forward request frame variable value) passes = tt
passing_syncs code host from (message.Sync request frame entry token) passes = passes.0
passing_syncs code host from (message.Rgoto frame entry token) passes = tt
passing_syncs code host from (message.RgotoWith frame entry token riders) passes = tt
passing_syncs code host from (message.Lgoto token) passes = tt
passing_syncs code host from (message.Value request value) passes = tt
passing_syncs code host from (message.Ack request) passes = tt
passing_syncs code host from (message.Token request token) passes = tt

pub tagged_syncs : (tags : Token → List ℕ) (letter : Message) → SyncsOther letter →
    SyncsOther (tagged_message tags letter)
tagged_syncs tags (message.Get request field index) other = tt
tagged_syncs tags (message.Set request field index value) other = tt
tagged_syncs tags (message.Forward request frame variable value) other = tt
tagged_syncs tags (message.Sync request frame entry token) other = other
tagged_syncs tags (message.Rgoto frame entry token) other = tt
tagged_syncs tags (message.RgotoWith frame entry token riders) other = tt
tagged_syncs tags (message.Lgoto token) other = tt
tagged_syncs tags (message.Value request value) other = tt
tagged_syncs tags (message.Ack request) other = tt
tagged_syncs tags (message.Token request token) other = tt

asks : (letter : Message) → is_lgoto letter ≡ false → SyncsOther letter → AsksOther letter
asks (message.Get request field index) unlike other = tt
asks (message.Set request field index value) unlike other = tt
asks (message.Forward request frame variable value) unlike other = tt
asks (message.Sync request frame entry token) unlike other = other
asks (message.Rgoto frame entry token) unlike other = tt
asks (message.RgotoWith frame entry token riders) unlike other = tt
asks (message.Lgoto token) unlike other = absurd cc
asks (message.Value request value) unlike other = tt
asks (message.Ack request) unlike other = tt
asks (message.Token request token) unlike other = tt

abbrev pub StepSyncs : Step → Bool → Type 0
StepSyncs turns passes = ⊤
StepSyncs (takes from letter) passes = passes ≡ true → SyncsOther letter

-- a step that takes nothing off does not look at the entry that ends the program
pub step_without : (code : CodeShape) (host : HostState) (step : Step) (passes : Bool) → IsSoundCode code →
    IsHost code host.me → takes_off code host step ≡ false → StepSyncs step passes →
    told_step code (without_halt host) step passes ≡ halt_left_out (told_step code host step passes)
step_without code host (takes from letter) passes sound there other syncs =
    takes_without code host from letter passes (λ holds. asks letter other (syncs holds))
step_without code host turns passes sound there other syncs = by host.running other
  where
    found : (thread : ThreadShape) (at : Option Instr) → instruction_at code host.me thread.at ≡ at →
        instruction_takes_off host.me thread.held at ≡ false →
        after_running code (with_running (without_halt host) None) thread at passes
        ≡ halt_left_out (after_running code (with_running host None) thread at passes)
    found thread None at other = refl
    found thread (Some instruction) at other =
        let fits = ((sound.parts host.me there).instructions thread.at instruction at).operation in
        runs_without code (with_running host None) thread instruction.op passes
        (leaves_halt code host _ instruction.op thread.held fits other)

    by : (running : Option ThreadShape) → thread_takes_off code host.me running ≡ false →
        after_turn code (without_halt host) running passes ≡ halt_left_out (after_turn code host running passes)
    by None other = refl
    by (Some thread) other = found thread (instruction_at code host.me thread.at) refl other

-- ---- a step that takes off

back_off : (code : CodeShape) (host : HostState) (thread : ThreadShape) (held : Option Token) (passes : Bool) →
    is_own host.me held ≡ true →
    after_back code (with_running host None) thread held passes ≡ without_message (settled code host passes)
back_off code host thread None passes own = absurd cc
back_off code host thread (Some held) passes own = rw own refl

run_off : (code : CodeShape) (host : HostState) (thread : ThreadShape) (operation : Op) (passes : Bool) →
    (is_back operation && is_own host.me thread.held) ≡ true →
    after_operation code (with_running host None) thread operation passes
    ≡ without_message (settled code host passes)
run_off code host thread op.Back passes own = back_off code host thread thread.held passes own
run_off code host thread (op.Read field index) passes own = absurd cc
run_off code host thread (op.Let variable value) passes own = absurd cc
run_off code host thread (op.Put field index value) passes own = absurd cc
run_off code host thread (op.Send variable to) passes own = absurd cc
run_off code host thread (op.Frame site) passes own = absurd cc
run_off code host thread (op.Arg variable value) passes own = absurd cc
run_off code host thread (op.Pass variable to) passes own = absurd cc
run_off code host thread (op.Push entry) passes own = absurd cc
run_off code host thread (op.Ask entry on) passes own = absurd cc
run_off code host thread (op.Go entry on) passes own = absurd cc
run_off code host thread (op.GoWith entry on riders) passes own = absurd cc
run_off code host thread (op.Call entry on) passes own = absurd cc
run_off code host thread (op.CallWith entry on riders) passes own = absurd cc
run_off code host thread (op.Ret variable value) passes own = absurd cc
run_off code host thread (op.Branch guard target) passes own = absurd cc

turn_off : (code : CodeShape) (host : HostState) (running : Option ThreadShape) (passes : Bool) →
    thread_takes_off code host.me running ≡ true →
    after_turn code host running passes ≡ without_message (settled code host passes)
turn_off code host None passes own = absurd cc
turn_off code host (Some thread) passes own = by (instruction_at code host.me thread.at) own
  where
    by : (found : Option Instr) → instruction_takes_off host.me thread.held found ≡ true →
        after_running code (with_running host None) thread found passes ≡ without_message (settled code host passes)
    by None own = absurd cc
    by (Some instruction) own = run_off code host thread instruction.op passes own

lgoto_off : (code : CodeShape) (host : HostState) (from : HostId) (token : Token) (passes : Bool) →
    host.running ≡ None →
    after_taking code host from (message.Lgoto token) passes ≡ without_message (settled code host passes)
lgoto_off code host from token true rest = sym (ap without_message (at_rest code host true rest))
lgoto_off code host from token false rest = sym (ap without_message (at_rest code host false rest))

-- its check is passed over
pub step_off : (code : CodeShape) (host : HostState) (step : Step) (passes : Bool) →
    takes_off code host step ≡ true → RestsFor host step →
    told_step code host step passes ≡ without_message (settled code host passes)
step_off code host turns passes off rest = turn_off code host host.running passes off
step_off code host (takes from (message.Lgoto token)) passes off rest = lgoto_off code host from token passes rest
step_off code host (takes from (message.Get request field index)) passes off rest = absurd cc
step_off code host (takes from (message.Set request field index value)) passes off rest = absurd cc
step_off code host (takes from (message.Forward request frame variable value)) passes off rest = absurd cc
step_off code host (takes from (message.Sync request frame entry token)) passes off rest = absurd cc
step_off code host (takes from (message.Rgoto frame entry token)) passes off rest = absurd cc
step_off code host (takes from (message.RgotoWith frame entry token riders)) passes off rest = absurd cc
step_off code host (takes from (message.Value request value)) passes off rest = absurd cc
step_off code host (takes from (message.Ack request)) passes off rest = absurd cc
step_off code host (takes from (message.Token request token)) passes off rest = absurd cc

second_true : (one other : Bool) → (one && other) ≡ true → other ≡ true
second_true true other both = both
second_true false other both = absurd cc

pub told_off : (code : CodeShape) (host : HostState) (running : Option ThreadShape) (passes : Bool) →
    thread_takes_off code host.me running ≡ true →
    after_told_back code host running passes ≡ without_message (settled code host passes)
told_off code host None passes own = absurd cc
told_off code host (Some thread) passes own = by (instruction_at code host.me thread.at) own
  where
    by : (found : Option Instr) → instruction_takes_off host.me thread.held found ≡ true →
        after_operation code (with_running host None) thread op.Back passes
        ≡ without_message (settled code host passes)
    by None own = absurd cc
    by (Some instruction) own =
        back_off code host thread thread.held passes
        (second_true (is_back instruction.op) (is_own host.me thread.held) own)

-- ---- the token that is presented

abbrev pub held_of : Option ThreadShape → Option Token
held_of None = None
held_of (Some thread) = thread.held

abbrev pub lgoto_of : Message → Option Token
lgoto_of (message.Lgoto token) = Some token
lgoto_of _ = None

abbrev pub presented : HostState → Step → Option Token
presented host turns = held_of host.running
presented host (takes from letter) = lgoto_of letter

held_tagged : (tags : Token → List ℕ) (running : Option ThreadShape) →
    held_of (option_map (tagged_thread tags) running) ≡ option_map (tagged tags) (held_of running)
held_tagged tags None = refl
held_tagged tags (Some thread) = refl

lgoto_tagged : (tags : Token → List ℕ) (letter : Message) →
    lgoto_of (tagged_message tags letter) ≡ option_map (tagged tags) (lgoto_of letter)
lgoto_tagged tags (message.Get request field index) = refl
lgoto_tagged tags (message.Set request field index value) = refl
lgoto_tagged tags (message.Forward request frame variable value) = refl
lgoto_tagged tags (message.Sync request frame entry token) = refl
lgoto_tagged tags (message.Rgoto frame entry token) = refl
lgoto_tagged tags (message.RgotoWith frame entry token riders) = refl
lgoto_tagged tags (message.Lgoto token) = refl
lgoto_tagged tags (message.Value request value) = refl
lgoto_tagged tags (message.Ack request) = refl
lgoto_tagged tags (message.Token request token) = refl

pub presented_cast : (tags : Token → List ℕ) (key : List ℕ) (ignored : ℕ) (halted : Bool) (host : HostState)
    (step : Step) →
    presented (cast tags key ignored halted host) (tagged_step tags step)
    ≡ option_map (tagged tags) (presented host step)
presented_cast tags key ignored halted host turns = held_tagged tags host.running
presented_cast tags key ignored halted host (takes from letter) = lgoto_tagged tags letter

-- the token is that of the top entry, or has its numbers and another tag
abbrev pub TopIs : Option Token → Option Token → Type 0
TopIs top None = ⊥
TopIs top (Some token) = top ≡ Some token

abbrev pub TopMayBe : Option Token → Option Token → Type 0
TopMayBe top None = ⊥
TopMayBe top (Some token) = IsUnsure top token

abbrev pub IsTop : HostState → Option Token → Type 0
IsTop host held = TopIs (top_token host.entries) held

abbrev pub MayBeTop : HostState → Option Token → Type 0
MayBeTop host held = TopMayBe (top_token host.entries) held

pub off_check : (code : CodeShape) (host : HostState) (step : Step) → takes_off code host step ≡ true →
    CheckOf code host step ↔ IsTop host (presented host step)
off_check code host (takes from (message.Lgoto token)) off = (λ a. a, λ a. a)
off_check code host (takes from (message.Get request field index)) off = absurd cc
off_check code host (takes from (message.Set request field index value)) off = absurd cc
off_check code host (takes from (message.Forward request frame variable value)) off = absurd cc
off_check code host (takes from (message.Sync request frame entry token)) off = absurd cc
off_check code host (takes from (message.Rgoto frame entry token)) off = absurd cc
off_check code host (takes from (message.RgotoWith frame entry token riders)) off = absurd cc
off_check code host (takes from (message.Value request value)) off = absurd cc
off_check code host (takes from (message.Ack request)) off = absurd cc
off_check code host (takes from (message.Token request token)) off = absurd cc
off_check code host turns off = by host.running off
  where
    runs : (held : Option Token) (operation : Op) → (is_back operation && is_own host.me held) ≡ true →
        PassesWith code (with_running host None) operation held ↔ IsTop host held
    runs None op.Back own = absurd cc
    runs (Some held) op.Back own =
        let here : held.host.0 ≡ host.me.0 = grind (arith, nat_tests) in (λ a. a here, λ a other. a)
    runs held (op.Read field index) own = absurd cc
    runs held (op.Let variable value) own = absurd cc
    runs held (op.Put field index value) own = absurd cc
    runs held (op.Send variable to) own = absurd cc
    runs held (op.Frame site) own = absurd cc
    runs held (op.Arg variable value) own = absurd cc
    runs held (op.Pass variable to) own = absurd cc
    runs held (op.Push entry) own = absurd cc
    runs held (op.Ask entry on) own = absurd cc
    runs held (op.Go entry on) own = absurd cc
    runs held (op.GoWith entry on riders) own = absurd cc
    runs held (op.Call entry on) own = absurd cc
    runs held (op.CallWith entry on riders) own = absurd cc
    runs held (op.Ret variable value) own = absurd cc
    runs held (op.Branch guard target) own = absurd cc

    found : (thread : ThreadShape) (at : Option Instr) → instruction_takes_off host.me thread.held at ≡ true →
        CheckOfInstruction code host thread.held at ↔ IsTop host thread.held
    found thread None own = absurd cc
    found thread (Some instruction) own = runs thread.held instruction.op own

    by : (running : Option ThreadShape) → thread_takes_off code host.me running ≡ true →
        CheckOfThread code host running ↔ IsTop host (held_of running)
    by None own = absurd cc
    by (Some thread) own = found thread (instruction_at code host.me thread.at) own

pub open_turn : (code : CodeShape) (host : HostState) (running : Option ThreadShape) →
    thread_takes_off code host.me running ≡ true → MayBeTop host (held_of running) → IsOpenTurnOf code host running
open_turn code host None off unsure = absurd cc
open_turn code host (Some thread) off unsure = by (instruction_at code host.me thread.at) off
  where
    runs : (held : Option Token) (operation : Op) → (is_back operation && is_own host.me held) ≡ true →
        MayBeTop host held → IsOpenOperation host held operation
    runs None operation own unsure = absurd unsure
    runs (Some held) op.Back own unsure = unsure
    runs (Some held) (op.Read field index) own unsure = absurd cc
    runs (Some held) (op.Let variable value) own unsure = absurd cc
    runs (Some held) (op.Put field index value) own unsure = absurd cc
    runs (Some held) (op.Send variable to) own unsure = absurd cc
    runs (Some held) (op.Frame site) own unsure = absurd cc
    runs (Some held) (op.Arg variable value) own unsure = absurd cc
    runs (Some held) (op.Pass variable to) own unsure = absurd cc
    runs (Some held) (op.Push entry) own unsure = absurd cc
    runs (Some held) (op.Ask entry on) own unsure = absurd cc
    runs (Some held) (op.Go entry on) own unsure = absurd cc
    runs (Some held) (op.GoWith entry on riders) own unsure = absurd cc
    runs (Some held) (op.Call entry on) own unsure = absurd cc
    runs (Some held) (op.CallWith entry on riders) own unsure = absurd cc
    runs (Some held) (op.Ret variable value) own unsure = absurd cc
    runs (Some held) (op.Branch guard target) own unsure = absurd cc

    by : (found : Option Instr) → instruction_takes_off host.me thread.held found ≡ true →
        IsOpenInstruction host thread.held found
    by None off = absurd cc
    by (Some instruction) off = runs thread.held instruction.op off unsure

-- and the other way round
pub turn_open : (code : CodeShape) (host : HostState) (running : Option ThreadShape) →
    IsOpenTurnOf code host running → MayBeTop host (held_of running)
turn_open code host None unsure = absurd unsure
turn_open code host (Some thread) unsure = by (instruction_at code host.me thread.at) unsure
  where
    runs : (held : Option Token) (operation : Op) → IsOpenOperation host held operation → MayBeTop host held
    runs None operation unsure = absurd unsure
    runs (Some held) op.Back unsure = unsure
    runs (Some held) (op.Read field index) unsure = absurd unsure
    runs (Some held) (op.Let variable value) unsure = absurd unsure
    runs (Some held) (op.Put field index value) unsure = absurd unsure
    runs (Some held) (op.Send variable to) unsure = absurd unsure
    runs (Some held) (op.Frame site) unsure = absurd unsure
    runs (Some held) (op.Arg variable value) unsure = absurd unsure
    runs (Some held) (op.Pass variable to) unsure = absurd unsure
    runs (Some held) (op.Push entry) unsure = absurd unsure
    runs (Some held) (op.Ask entry on) unsure = absurd unsure
    runs (Some held) (op.Go entry on) unsure = absurd unsure
    runs (Some held) (op.GoWith entry on riders) unsure = absurd unsure
    runs (Some held) (op.Call entry on) unsure = absurd unsure
    runs (Some held) (op.CallWith entry on riders) unsure = absurd unsure
    runs (Some held) (op.Ret variable value) unsure = absurd unsure
    runs (Some held) (op.Branch guard target) unsure = absurd unsure

    by : (found : Option Instr) → IsOpenInstruction host thread.held found → MayBeTop host thread.held
    by None unsure = absurd unsure
    by (Some instruction) unsure = runs thread.held instruction.op unsure

pub lgoto_open : (host : HostState) (letter : Message) → IsOpenTaking host letter → MayBeTop host (lgoto_of letter)
lgoto_open host (message.Lgoto token) unsure = unsure
lgoto_open host (message.Get request field index) unsure = absurd unsure
lgoto_open host (message.Set request field index value) unsure = absurd unsure
lgoto_open host (message.Forward request frame variable value) unsure = absurd unsure
lgoto_open host (message.Sync request frame entry token) unsure = absurd unsure
lgoto_open host (message.Rgoto frame entry token) unsure = absurd unsure
lgoto_open host (message.RgotoWith frame entry token riders) unsure = absurd unsure
lgoto_open host (message.Value request value) unsure = absurd unsure
lgoto_open host (message.Ack request) unsure = absurd unsure
lgoto_open host (message.Token request token) unsure = absurd unsure

pub open_lgoto : (host : HostState) (letter : Message) → MayBeTop host (lgoto_of letter) → IsOpenTaking host letter
open_lgoto host (message.Lgoto token) unsure = unsure
open_lgoto host (message.Get request field index) unsure = absurd unsure
open_lgoto host (message.Set request field index value) unsure = absurd unsure
open_lgoto host (message.Forward request frame variable value) unsure = absurd unsure
open_lgoto host (message.Sync request frame entry token) unsure = absurd unsure
open_lgoto host (message.Rgoto frame entry token) unsure = absurd unsure
open_lgoto host (message.RgotoWith frame entry token riders) unsure = absurd unsure
open_lgoto host (message.Value request value) unsure = absurd unsure
open_lgoto host (message.Ack request) unsure = absurd unsure
open_lgoto host (message.Token request token) unsure = absurd unsure

-- ---- what is left

-- the top entry lasts, or none does
abbrev pub HasTop : List StackEntry → Type 0
HasTop entries = (top : StackEntry) × (below : List StackEntry) × (entries ≡ top ∷ below) × (is_lasting top ≡ true)

pub top_or_none : (entries : List StackEntry) → AreLow entries → HasTop entries ⊎ (filter is_lasting entries ≡ [])
top_or_none [] low = inr refl
top_or_none (top ∷ []) low = by (is_lasting top) refl
  where
    by : (lasting : Bool) → is_lasting top ≡ lasting → HasTop (top ∷ []) ⊎ (filter is_lasting (top ∷ []) ≡ [])
    by true is = inl (top, [], refl, is)
    by false is = inr (rw is refl)
top_or_none (top ∷ next ∷ below) low = inl (top, next ∷ below, refl, low.0)

-- the first that lasts is the top
pub first_lasting : (entries : List StackEntry) (first : StackEntry) (others : List StackEntry) → AreLow entries →
    filter is_lasting entries ≡ first ∷ others →
    (below : List StackEntry) × (entries ≡ first ∷ below) × (is_lasting first ≡ true)
first_lasting entries first others low is = by (top_or_none entries low)
  where
    head : List StackEntry → StackEntry
    head [] = first
    head (top ∷ below) = top

    by : HasTop entries ⊎ (filter is_lasting entries ≡ []) →
        (below : List StackEntry) × (entries ≡ first ∷ below) × (is_lasting first ≡ true)
    by (inr none) = absurd (let clash : ◌≡◌ {A = List StackEntry} [] (first ∷ others) = sym none ∙ is in cc)
    by (inl (top, below, stack, lasting)) =
        let kept : filter is_lasting (top ∷ below) ≡ top ∷ filter is_lasting below = rw lasting refl in
        let same : top ≡ first = ap head (sym kept ∙ sym (ap (filter is_lasting) stack) ∙ is) in (
          below,
          stack ∙ ap (λ one. let all : List StackEntry = one ∷ below in all) same,
          subst (λ one. is_lasting one ≡ true) same lasting,
        )

-- no thread runs, and the entries that last are the same
abbrev pub IsStill : HostState → HostState → Type 0
IsStill host after = (ignored : ℕ) × (halted : Bool)
    × (without_halt after ≡ record (without_halt host) { running = None; ignored = ignored; halted = halted })

still_pop : (code : CodeShape) (host : HostState) (entries : List StackEntry) → host.entries ≡ entries →
    filter is_lasting entries ≡ [] → IsStill host (after_pop code (with_running host None) entries)
still_pop code host [] own none = (host.ignored, host.halted, refl)
still_pop code host (top ∷ below) own none = by (top.entry.0 == halt.0) refl
  where
    by : (ends : Bool) → (top.entry.0 == halt.0) ≡ ends →
        IsStill host (after_pop code (with_running host None) (top ∷ below))
    by true ends =
        let same : filter is_lasting host.entries ≡ filter is_lasting below =
        ap (filter is_lasting) own ∙ rw ends refl in
        rw ends (
          host.ignored,
          true,
          ap (λ entries. record host { running = None; halted = true; entries = entries }) (sym same),
        )
    by false ends =
        let kept : filter is_lasting (top ∷ below) ≡ top ∷ filter is_lasting below = rw ends refl in
        absurd (let clash : ◌≡◌ {A = List StackEntry} [] (top ∷ filter is_lasting below) = sym none ∙ kept in cc)

pub still : (code : CodeShape) (host : HostState) (passes : Bool) → filter is_lasting host.entries ≡ [] →
    IsStill host (settled code host passes)
still code host true none = still_pop code host host.entries refl none
still code host false none = (host.ignored + 1, host.halted, refl)

pub still_ignored : (code : CodeShape) (host : HostState) → IsStill host (settled code host false)
still_ignored code host = (host.ignored + 1, host.halted, refl)

started_pop : (code : CodeShape) (host : HostState) (top : StackEntry) (below : List StackEntry) →
    host.entries ≡ top ∷ below → is_lasting top ≡ true → IsEntryOf code host.me top.entry →
    HasStarted code host (after_pop code (with_running host None) (top ∷ below))
started_pop code host top below own lasting there = by (top.entry.0 == halt.0) (entry_at code top.entry) refl refl there
  where
    by : (ends : Bool) (found : Option Entry) → (top.entry.0 == halt.0) ≡ ends → entry_at code top.entry ≡ found →
        IsSomeAnd found (λ entry. entry.host ≡ host.me) →
        HasStarted code host (after_pop code (with_running host None) (top ∷ below))
    by true found ends at there =
        absurd (let clash : false ≡ true = rw ends at lasting in false≢true clash)
    by false None ends at there = absurd there
    by false (Some entry) ends at there =
        let kept : filter is_lasting host.entries ≡ top ∷ filter is_lasting below =
        ap (filter is_lasting) own ∙ rw ends refl in
        rw ends (rw at (record {
          runs = refl;
          told = sym (ap (after_pop code (with_running (without_halt host) None)) kept ∙ rw ends (rw at refl));
        }))

pub started : (code : CodeShape) (host : HostState) (top : StackEntry) (below : List StackEntry) →
    host.entries ≡ top ∷ below → is_lasting top ≡ true → IsEntryOf code host.me top.entry →
    HasStarted code host (settled code host true)
started code host top below own lasting there =
    subst (λ entries. HasStarted code host (after_pop code (with_running host None) entries)) (sym own)
    (started_pop code host top below own lasting there)
