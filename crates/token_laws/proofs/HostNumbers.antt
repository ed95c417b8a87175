-- A step of one host keeps its numbers within 64 bits, and so are those that it sends.
use Rattle.std.proofs.Common.{◌≡◌, ℕ, zero, suc, ℤ, Bool, true, false, List, [], ◌∷◌}
use Rattle.std.proofs.Common.{refl, sym, subst, arith, Option, Some, None, take, drop}
use Rattle.std.specs.Prelude.{if◌then◌else◌, ◌==◌, slice_get, remove, All, IfSome}
use Rattle.std.specs.Option.{option_map}
use Rattle.std.proofs.lemmas.List.Elements.{All-nil, All-push, All-append, All-take, All-drop}
use Rattle.js_base.specs.declared.ids.HostId.{HostId}
use Rattle.js_base.specs.declared.ids.FieldId.{FieldId}
use Rattle.js_base.specs.declared.ids.EntryId.{EntryId}
use Rattle.js_base.specs.declared.ids.FrameId.{FrameId}
use Rattle.js_base.specs.declared.ids.VarId.{VarId}
use Rattle.capability.specs.declared.token.Token.{Token}
use Rattle.jif_tree.specs.Numbers.{IsNumber}
use Rattle.ics_stack.specs.declared.stack.StackEntry.{StackEntry}
use Rattle.host_code.specs.declared.code.Entry.{Entry}
use Rattle.host_code.specs.declared.code_expr.Node.{Node}
use Rattle.host_code.specs.declared.instruction.Instr.{Instr}
use Rattle.host_code.specs.declared.instruction.Op.{Op}
use Rattle.host_code.specs.declared.instruction.Op.TheVariants as op
use Rattle.host_code.specs.declared.message.Message.{Message}
use Rattle.host_code.specs.declared.message.Message.TheVariants as message
use Rattle.host_code.specs.Riders.{Rider}
use Rattle.host_code.specs.Thread.{ThreadShape, WaitingShape, Awaited}
use Rattle.host_code.specs.Thread.Awaited.{value_of_field, acknowledgement, token_of_entry}
use Rattle.host_code.specs.Code.{CodeShape, CodeFieldShape, halt, field_at, entry_at, instruction_at}
use Rattle.host_stores.specs.Stores.{is_same_variable}
use Rattle.host_core.specs.Host.{HostState, Outcome, with_running, with_one_ignored, with_token, with_temporary}
use Rattle.host_core.specs.Host.{after_pop, after_entering, after_asking, value_in_thread, without_message}
use Rattle.host_core.specs.Host.{with_row_written, with_variable_set, with_variables_set}
use Rattle.host_core.specs.Taking.{IsTaking, after_taking, after_answer}
use Rattle.host_core.specs.Turn.{IsTurn, IsTurnOf, IsRunning, after_operation, after_read, after_put, after_own_push}
use Rattle.host_core.specs.Turn.{after_ask, after_go, after_go_with, riders_of, after_own_call, after_return}
use Rattle.host_core.specs.Turn.{after_back, with_thread, after_let}
use Rattle.token_laws.specs.Numbers.{HaveNumbers, OperationHasNumbers, CodeHasNumbers, MessageHasNumbers}
use Rattle.token_laws.specs.Numbers.{ThreadHasNumbers, StateHasNumbers, RowsHaveNumbers, RidersHaveNumbers}
use Rattle.token_laws.proofs.ValueNumbers.{value_fits, row_fits, element_fits, written_fits}

-- what a step leaves and sends
pub record OutcomeHasNumbers (outcome : Outcome) : Type 0 where
  pub state : StateHasNumbers outcome.state
  pub sent : IfSome outcome.sent (λ letter. MessageHasNumbers letter.1)

silent : (state : HostState) → StateHasNumbers state → OutcomeHasNumbers (without_message state)
silent state fits = record { state = fits; sent = tt }

either : (b : Bool) (first second : Outcome) → OutcomeHasNumbers first → OutcomeHasNumbers second →
    OutcomeHasNumbers (if b then first else second)
either true first second one other = one
either false first second one other = other

-- ---- the changes

runs : (host : HostState) (running : Option ThreadShape) → StateHasNumbers host → IfSome running ThreadHasNumbers →
    StateHasNumbers (with_running host running)
runs host running fits also = record {
  rows = fits.rows;
  variables = fits.variables;
  running = also;
  waiting = fits.waiting;
}

goes_on : (host : HostState) (thread : ThreadShape) → StateHasNumbers host → ThreadHasNumbers thread →
    OutcomeHasNumbers (with_thread host thread)
goes_on host thread fits also = silent (with_running host (Some thread)) (runs host (Some thread) fits also)

waits : (host : HostState) (at : ℕ) (thread : ThreadShape) (awaited : Awaited) (to : HostId) (m : Message) →
    StateHasNumbers host → ThreadHasNumbers thread → MessageHasNumbers m →
    OutcomeHasNumbers (record { state = after_asking host at thread awaited to; sent = Some (to, m) })
waits host at thread awaited to m fits also message_fits = record {
  state = record {
    rows = fits.rows;
    variables = fits.variables;
    running = tt;
    waiting = All-push (λ waiting. ThreadHasNumbers waiting.thread) host.waiting _ fits.waiting also;
  };
  sent = message_fits;
}

writes : (host : HostState) (field : FieldId) (index value : ℤ) → StateHasNumbers host → IsNumber value →
    StateHasNumbers (with_row_written host field index value)
writes host field index value fits also = record {
  rows = written_fits host.rows field.0 index value fits.rows also;
  variables = fits.variables;
  running = fits.running;
  waiting = fits.waiting;
}

set_if : (b : Bool) (value other : ℤ) → IsNumber value → IsNumber other → IsNumber (if b then value else other)
set_if true value other fits also = fits
set_if false value other fits also = also

sets : (host : HostState) (frame : FrameId) (variable : VarId) (value : ℤ) → StateHasNumbers host → IsNumber value →
    StateHasNumbers (with_variable_set host frame variable value)
sets host frame variable value fits also = record {
  rows = fits.rows;
  variables = λ other another.
      set_if (is_same_variable frame variable other another) value (host.variables other another) also
      (fits.variables other another);
  running = fits.running;
  waiting = fits.waiting;
}

-- so does each value that rides
rides : (host : HostState) (frame : FrameId) (riders : List Rider) → StateHasNumbers host →
    RidersHaveNumbers riders → StateHasNumbers (with_variables_set host frame riders)
rides host frame [] fits all = fits
rides host frame (rider ∷ riders) fits all =
    rides (with_variable_set host frame rider.0 rider.1) frame riders (sets host frame rider.0 rider.1 fits all.0)
    all.1

-- what other parts of the state are is nothing to its numbers
pub same_parts : (old state : HostState) → StateHasNumbers old → state.rows ≡ old.rows →
    state.variables ≡ old.variables → state.waiting ≡ old.waiting → IfSome state.running ThreadHasNumbers →
    StateHasNumbers state
same_parts old state fits rows variables waiting running = record {
  rows = subst RowsHaveNumbers (sym rows) fits.rows;
  variables = λ frame x.
      subst (λ (v : FrameId → VarId → ℤ). IsNumber (v frame x)) (sym variables) (fits.variables frame x);
  running = running;
  waiting = subst (λ (w : List WaitingShape). All (λ one. ThreadHasNumbers one.thread) w) (sym waiting) fits.waiting;
}

no_temporaries : All IsNumber []
no_temporaries = All-nil IsNumber

pub enters : (host : HostState) (there : Option Entry) (frame : FrameId) (token : Token) → StateHasNumbers host →
    StateHasNumbers (after_entering host there frame token)
enters host None frame token fits = runs host None fits tt
enters host (Some entry) frame token fits = runs host _ fits no_temporaries

popped : (code : CodeShape) (host : HostState) (entry : EntryId) (frame : FrameId) (kept : Token) (halts : Bool) →
    StateHasNumbers host → StateHasNumbers (if halts then record host { running = None; halted = true }
    else after_entering host (entry_at code entry) frame kept)
popped code host entry frame kept true fits = same_parts host _ fits refl refl refl tt
popped code host entry frame kept false fits = enters host (entry_at code entry) frame kept fits

pops : (code : CodeShape) (host : HostState) (entries : List StackEntry) → StateHasNumbers host →
    StateHasNumbers (after_pop code host entries)
pops code host [] fits = fits
pops code host (top ∷ below) fits =
    popped code (record host { entries = below }) top.entry top.frame top.kept (top.entry.0 == halt.0)
    (same_parts host _ fits refl refl refl fits.running)

-- ---- the instructions

value : (host : HostState) (thread : ThreadShape) (nodes : List Node) → StateHasNumbers host →
    ThreadHasNumbers thread → HaveNumbers nodes → IsNumber (value_in_thread host thread nodes)
value host thread nodes fits also named =
    value_fits (host.variables thread.frame) thread.temporaries nodes (fits.variables thread.frame) also named

reads : (host : HostState) (thread : ThreadShape) (field : FieldId) (index : List Node)
    (there : Option CodeFieldShape) → StateHasNumbers host → ThreadHasNumbers thread → HaveNumbers index →
    OutcomeHasNumbers (after_read host thread field index there)
reads host thread field index None fits also named = goes_on host thread fits also
reads host thread field index (Some there) fits also named =
    either (there.host.0 == host.me.0) _ _
    (goes_on host _ fits
    (All-push IsNumber thread.temporaries _ also (element_fits _ _ (row_fits host.rows field.0 fits.rows))))
    (waits host thread.at _ value_of_field there.host _ fits also (value host thread index fits also named))

puts : (host : HostState) (thread : ThreadShape) (field : FieldId) (index number : List Node)
    (there : Option CodeFieldShape) → StateHasNumbers host → ThreadHasNumbers thread → HaveNumbers index →
    HaveNumbers number → OutcomeHasNumbers (after_put host thread field index number there)
puts host thread field index number None fits also named written = goes_on host thread fits also
puts host thread field index number (Some there) fits also named written =
    let place = value host thread index fits also named in
    let put = value host thread number fits also written in
    either (there.host.0 == host.me.0) _ _
    (goes_on (with_row_written host field (value_in_thread host thread index) (value_in_thread host thread number)) _
    (writes host field (value_in_thread host thread index) (value_in_thread host thread number) fits put)
    no_temporaries)
    (waits host thread.at _ acknowledgement there.host _ fits no_temporaries (place, put))

lets : (host : HostState) (thread : ThreadShape) (frame : FrameId) (variable : VarId) (number : List Node) →
    StateHasNumbers host → ThreadHasNumbers thread → HaveNumbers number →
    OutcomeHasNumbers (after_let host thread frame variable number)
lets host thread frame variable number fits also named =
    goes_on (with_variable_set host frame variable (value_in_thread host thread number)) _
    (sets host frame variable (value_in_thread host thread number) fits (value host thread number fits also named))
    no_temporaries

pushes : (host : HostState) (thread : ThreadShape) (entry : EntryId) (held : Option Token) → StateHasNumbers host →
    ThreadHasNumbers thread → OutcomeHasNumbers (after_own_push host thread entry held)
pushes host thread entry None fits also = goes_on host thread fits also
pushes host thread entry (Some held) fits also = silent _ (same_parts host _ fits refl refl refl also)

asks_for : (host : HostState) (thread : ThreadShape) (entry : EntryId) (on : HostId) (held : Option Token) →
    StateHasNumbers host → ThreadHasNumbers thread → OutcomeHasNumbers (after_ask host thread entry on held)
asks_for host thread entry on None fits also = goes_on host thread fits also
asks_for host thread entry on (Some held) fits also = waits host thread.at _ token_of_entry on _ fits also tt

goes : (host : HostState) (thread : ThreadShape) (frame : FrameId) (entry : EntryId) (on : HostId)
    (held : Option Token) → StateHasNumbers host → ThreadHasNumbers thread →
    OutcomeHasNumbers (after_go host thread frame entry on held)
goes host thread frame entry on None fits also = goes_on host thread fits also
goes host thread frame entry on (Some held) fits also = record { state = runs host None fits tt; sent = tt }

-- the values that ride are those of the host's variables
riders_fit : (host : HostState) (frame : FrameId) (variables : List VarId) → StateHasNumbers host →
    RidersHaveNumbers (riders_of host frame variables)
riders_fit host frame [] fits = tt
riders_fit host frame (variable ∷ variables) fits =
    (fits.variables frame variable, riders_fit host frame variables fits)

goes_with : (host : HostState) (thread : ThreadShape) (frame : FrameId) (entry : EntryId) (on : HostId)
    (riders : List VarId) (held : Option Token) → StateHasNumbers host → ThreadHasNumbers thread →
    OutcomeHasNumbers (after_go_with host thread frame entry on riders held)
goes_with host thread frame entry on riders None fits also = goes_on host thread fits also
goes_with host thread frame entry on riders (Some held) fits also =
    record { state = runs host None fits tt; sent = riders_fit host frame riders fits }

calls_own : (host : HostState) (thread : ThreadShape) (there : Option Entry) → StateHasNumbers host →
    ThreadHasNumbers thread → OutcomeHasNumbers (after_own_call host thread there)
calls_own host thread None fits also = goes_on host thread fits also
calls_own host thread (Some there) fits also = goes_on host _ fits also

gives_result : (host : HostState) (thread : ThreadShape) (variable : VarId) (number : List Node)
    (held : Option Token) (passes : Bool) → StateHasNumbers host → ThreadHasNumbers thread → HaveNumbers number →
    OutcomeHasNumbers (after_return host thread variable number held passes)
gives_result host thread variable number None passes fits also named = goes_on host thread fits also
gives_result host thread variable number (Some held) passes fits also named =
    let result = value host thread number fits also named in
    either (held.host.0 == host.me.0) _ _
    (goes_on (with_variable_set host held.frame variable (value_in_thread host thread number)) _
    (sets host held.frame variable (value_in_thread host thread number) fits result) no_temporaries)
    (either passes _ _
    (waits host thread.at _ acknowledgement held.host _ fits no_temporaries result)
    (goes_on host _ fits no_temporaries))

gives_back_here : (code : CodeShape) (host : HostState) (passes : Bool) → StateHasNumbers host →
    OutcomeHasNumbers (without_message (if passes
    then after_pop code (with_running host None) host.entries
    else with_one_ignored (with_running host None)))
gives_back_here code host true fits =
    silent _ (pops code (with_running host None) host.entries (runs host None fits tt))
gives_back_here code host false fits = silent _ (same_parts host _ fits refl refl refl tt)

gives_back : (code : CodeShape) (host : HostState) (thread : ThreadShape) (held : Option Token) (passes : Bool) →
    StateHasNumbers host → ThreadHasNumbers thread → OutcomeHasNumbers (after_back code host thread held passes)
gives_back code host thread None passes fits also = goes_on host thread fits also
gives_back code host thread (Some held) passes fits also =
    either (held.host.0 == host.me.0) _ _ (gives_back_here code host passes fits)
    (record { state = runs host None fits tt; sent = tt })

operation : (code : CodeShape) (host : HostState) (thread : ThreadShape) (operation : Op) (passes : Bool) →
    StateHasNumbers host → ThreadHasNumbers thread → OperationHasNumbers operation →
    OutcomeHasNumbers (after_operation code host thread operation passes)
operation code host thread (op.Read field index) passes fits also named =
    reads host thread field index (field_at code field) fits also named
operation code host thread (op.Let variable number) passes fits also named =
    lets host thread thread.frame variable number fits also named
operation code host thread (op.Put field index number) passes fits also named =
    puts host thread field index number (field_at code field) fits also named.0 named.1
operation code host thread (op.Send variable to) passes fits also named =
    waits host thread.at _ acknowledgement to _ fits also (fits.variables thread.frame variable)
operation code host thread (op.Frame site) passes fits also named =
    silent _ (same_parts host _ fits refl refl refl also)
operation code host thread (op.Arg variable number) passes fits also named =
    lets host thread thread.new_frame variable number fits also named
operation code host thread (op.Pass variable to) passes fits also named =
    waits host thread.at _ acknowledgement to _ fits also (fits.variables thread.new_frame variable)
operation code host thread (op.Push entry) passes fits also named = pushes host thread entry thread.held fits also
operation code host thread (op.Ask entry on) passes fits also named =
    asks_for host thread entry on thread.held fits also
operation code host thread (op.Go entry on) passes fits also named =
    goes host thread thread.frame entry on thread.held fits also
operation code host thread (op.Call entry on) passes fits also named =
    either (on.0 == host.me.0) _ _ (calls_own host thread (entry_at code entry) fits also)
    (goes host thread thread.new_frame entry on thread.held fits also)
operation code host thread (op.Ret variable number) passes fits also named =
    gives_result host thread variable number thread.held passes fits also named
operation code host thread op.Back passes fits also named = gives_back code host thread thread.held passes fits also
operation code host thread (op.Branch guard target) passes fits also named =
    either _ _ _ (goes_on host _ fits no_temporaries) (goes_on host _ fits no_temporaries)
operation code host thread (op.GoWith entry on riders) passes fits also named =
    goes_with host thread thread.frame entry on riders thread.held fits also
operation code host thread (op.CallWith entry on riders) passes fits also named =
    goes_with host thread thread.new_frame entry on riders thread.held fits also

running_fits : (code : CodeShape) (host : HostState) (thread : ThreadShape) (there : Option Instr)
    (outcome : Outcome) → CodeHasNumbers code → StateHasNumbers host → ThreadHasNumbers thread →
    instruction_at code host.me thread.at ≡ there → IsRunning code host thread there outcome →
    OutcomeHasNumbers outcome
running_fits code host thread None outcome named fits also is step =
    subst OutcomeHasNumbers step (goes_on host thread fits also)
running_fits code host thread (Some instruction) outcome named fits also is step =
    subst OutcomeHasNumbers step.2
    (operation code host thread instruction.op step.0 fits also (named host.me thread.at instruction is))

turn_of : (code : CodeShape) (host : HostState) (running : Option ThreadShape) (outcome : Outcome) →
    CodeHasNumbers code → StateHasNumbers host → IfSome running ThreadHasNumbers →
    IsTurnOf code host running outcome → OutcomeHasNumbers outcome
turn_of code host None outcome named fits also step = subst OutcomeHasNumbers step (silent host fits)
turn_of code host (Some thread) outcome named fits also step =
    running_fits code (with_running host None) thread (instruction_at code host.me thread.at) outcome named
    (runs host None fits tt) also refl step

pub turn_numbers : (code : CodeShape) (host : HostState) (outcome : Outcome) → CodeHasNumbers code →
    StateHasNumbers host → IsTurn code host outcome → OutcomeHasNumbers outcome
turn_numbers code host outcome named fits step = turn_of code host host.running outcome named fits fits.running step

-- ---- a message

pub all_but : {X : Type 0} (P : X → Type 0) (xs : List X) (place : ℕ) → All P xs → All P (remove xs place)
all_but P xs place all =
    All-append P (take place xs) (drop (suc place) xs) (All-take P place xs all) (All-drop P (suc place) xs all)

found : (threads : List WaitingShape) (place : ℕ) (answered : ThreadShape → ThreadShape) →
    ((thread : ThreadShape) → ThreadHasNumbers thread → ThreadHasNumbers (answered thread)) →
    All (λ waiting. ThreadHasNumbers waiting.thread) threads →
    IfSome (option_map (λ waiting. answered waiting.thread) (slice_get threads place)) ThreadHasNumbers
found [] place answered keeps all = tt
found (first ∷ threads) zero answered keeps all = keeps first.thread (all 0 first (omega arith))
found (first ∷ threads) (suc place) answered keeps all =
    found threads place answered keeps (λ k d lt. all (suc k) d (omega arith))

wakes : (host : HostState) (place : Option ℕ) (answered : ThreadShape → ThreadShape) → StateHasNumbers host →
    ((thread : ThreadShape) → ThreadHasNumbers thread → ThreadHasNumbers (answered thread)) →
    OutcomeHasNumbers (without_message (after_answer host place answered))
wakes host None answered fits keeps = silent host fits
wakes host (Some place) answered fits keeps =
    silent _ (record {
      rows = fits.rows;
      variables = fits.variables;
      running = found host.waiting place answered keeps fits.waiting;
      waiting = all_but (λ waiting. ThreadHasNumbers waiting.thread) host.waiting place fits.waiting;
    })

takes : (code : CodeShape) (host : HostState) (from : HostId) (m : Message) (passes : Bool) → StateHasNumbers host →
    MessageHasNumbers m → OutcomeHasNumbers (after_taking code host from m passes)
takes code host from m false fits named = silent _ (same_parts host _ fits refl refl refl fits.running)
takes code host from (message.Get request field index) true fits named =
    record { state = fits; sent = element_fits _ index (row_fits host.rows field.0 fits.rows) }
takes code host from (message.Set request field index number) true fits named =
    record { state = writes host field index number fits named.1; sent = tt }
takes code host from (message.Forward request frame variable number) true fits named =
    record { state = sets host frame variable number fits named; sent = tt }
takes code host from (message.Sync request frame entry token) true fits named =
    record { state = same_parts host _ fits refl refl refl fits.running; sent = tt }
takes code host from (message.Rgoto frame entry token) true fits named =
    silent _ (enters host (entry_at code entry) frame token fits)
takes code host from (message.RgotoWith frame entry token riders) true fits named =
    silent _ (enters (with_variables_set host frame riders) (entry_at code entry) frame token
    (rides host frame riders fits named))
takes code host from (message.Lgoto token) true fits named = silent _ (pops code host host.entries fits)
takes code host from (message.Value request number) true fits named =
    wakes host _ (with_temporary number) fits
    (λ thread all. All-push IsNumber thread.temporaries number all named)
takes code host from (message.Ack request) true fits named = wakes host _ (λ thread. thread) fits (λ thread all. all)
takes code host from (message.Token request token) true fits named =
    wakes host _ (with_token (Some token)) fits (λ thread all. all)

pub taking_numbers : (code : CodeShape) (host : HostState) (from : HostId) (m : Message) (outcome : Outcome) →
    StateHasNumbers host → MessageHasNumbers m → IsTaking code host from m outcome → OutcomeHasNumbers outcome
taking_numbers code host from m outcome fits named step =
    subst OutcomeHasNumbers step.2 (takes code host from m step.0 fits named)
