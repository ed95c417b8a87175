-- What a host does at a turn: its running thread runs one instruction.
use Rattle.std.specs.Prelude.{◌≡◌, ◌≢◌, ℕ, ◌+◌, ◌<◌, ◌↔◌, ⊤, ℤ, pos, Bool, ◌==◌}
use Rattle.std.specs.Prelude.{if◌then◌else◌, IsTrue, List, map, Option}
use Rattle.std.specs.Prelude.{Some, None}
use Rattle.std.specs.Prelude.{slice_index, slice_set}
use Rattle.std.specs.Option.{option_and_then}
use Rattle.std.specs.Ordering.{int_eq}
use Rattle.js_base.specs.declared.ids.HostId.{HostId}
use Rattle.js_base.specs.declared.ids.FieldId.{FieldId}
use Rattle.js_base.specs.declared.ids.FrameId.{FrameId}
use Rattle.js_base.specs.declared.ids.VarId.{VarId}
use Rattle.js_base.specs.declared.ids.EntryId.{EntryId}
use Rattle.js_base.specs.declared.ids.SiteId.{SiteId}
use Rattle.jif_tree.specs.Store.{row_of, element_at}
use Rattle.capability.specs.declared.token.Token.{Token}
use Rattle.ics_stack.specs.Stack.{top_token}
use Rattle.host_code.specs.declared.code.Entry.{Entry}
use Rattle.host_code.specs.declared.code_expr.Node.{Node}
use Rattle.host_code.specs.declared.instruction.Instr.{Instr}
use Rattle.host_code.specs.declared.instruction.Op.{Op}
use Rattle.host_code.specs.declared.instruction.Op.TheVariants as op
use Rattle.host_code.specs.declared.message.Message.TheVariants as message
use Rattle.host_code.specs.Riders.{Rider}
use Rattle.host_code.specs.Thread.{ThreadShape}
use Rattle.host_code.specs.Thread.Awaited.{value_of_field, acknowledgement, token_of_entry}
use Rattle.host_code.specs.Code.{CodeShape, CodeFieldShape, CodeVariableShape, field_at, variable_at, entry_at}
use Rattle.host_code.specs.Code.{instruction_at}
use Rattle.entry_check.specs.Checks.{MaySee, label_at, label_of_host}
use Rattle.host_core.specs.Host.{HostState, Outcome, without_message, with_message, with_one_ignored, with_row_written}
use Rattle.host_core.specs.Host.{with_variable_set}
use Rattle.host_core.specs.Host.{with_running, new_token, after_push, after_pop, after_step, after_clearing}
use Rattle.host_core.specs.Host.{with_temporary, with_token}
use Rattle.host_core.specs.Host.{value_in_thread, next_request, after_asking}

-- the thread goes on as this one, and nothing is sent
abbrev pub with_thread : HostState → ThreadShape → Outcome
with_thread host thread = without_message (with_running host (Some thread))

-- ---- fields

-- one more temporary: the element of a field of this host, or a get to the field's host
abbrev pub after_read : HostState → ThreadShape → FieldId → List Node → Option CodeFieldShape → Outcome
after_read host thread field index None = with_thread host thread
after_read host thread field index (Some there) =
    let place = value_in_thread host thread index in
    if there.host.0 == host.me.0
    then with_thread host (with_temporary (element_at (row_of host.rows field.0) place) (after_step thread))
    else with_message (after_asking host thread.at (after_step thread) value_of_field there.host) there.host
    (message.Get (next_request host thread.at) field place)

-- the element of a field of this host becomes a value, or a set to the field's host
abbrev pub after_put : HostState → ThreadShape → FieldId → List Node → List Node → Option CodeFieldShape →
    Outcome
after_put host thread field index value None = with_thread host thread
after_put host thread field index value (Some there) =
    let place = value_in_thread host thread index in
    let number = value_in_thread host thread value in
    if there.host.0 == host.me.0
    then with_thread (with_row_written host field place number) (after_clearing thread)
    else with_message (after_asking host thread.at (after_clearing thread) acknowledgement there.host) there.host
    (message.Set (next_request host thread.at) field place number)

-- ---- variables

-- a variable of a frame becomes a value
abbrev pub after_let : HostState → ThreadShape → FrameId → VarId → List Node → Outcome
after_let host thread frame variable value =
    with_thread (with_variable_set host frame variable (value_in_thread host thread value)) (after_clearing thread)

-- An instruction forwards a value to a host for a variable of a frame. The thread is kept as it goes on when that is
-- acknowledged.
abbrev pub after_forward : HostState → ℕ → ThreadShape → FrameId → VarId → ℤ → HostId → Outcome
after_forward host at later frame variable value to =
    with_message (after_asking host at later acknowledgement to) to
    (message.Forward (next_request host at) frame variable value)

-- a variable of a frame is forwarded to a host
abbrev pub after_send : HostState → ThreadShape → FrameId → VarId → HostId → Outcome
after_send host thread frame variable to =
    after_forward host thread.at (after_step thread) frame variable (host.variables frame variable) to

-- ---- frames and branches

-- a new frame for a call at a site
abbrev pub after_frame : HostState → ThreadShape → SiteId → Outcome
after_frame host thread site =
    with_thread (record host { frames = slice_set host.frames site.0 (slice_index host.frames site.0 + 1) })
    (record (after_step thread) { new_frame = record { site = site; count = slice_index host.frames site.0 } })

-- the thread goes on at the target where the guard is 0
abbrev pub after_branch : HostState → ThreadShape → List Node → ℕ → Outcome
after_branch host thread guard target =
    if int_eq (value_in_thread host thread guard) (pos 0)
    then with_thread host (record (after_clearing thread) { at = target })
    else with_thread host (after_clearing thread)

-- ---- the token of the thread, without which it stays where it is

-- an entry is pushed in the thread's frame, and the thread holds the new token
abbrev pub after_own_push : HostState → ThreadShape → EntryId → Option Token → Outcome
after_own_push host thread entry None = with_thread host thread
after_own_push host thread entry (Some held) =
    with_thread (after_push host entry thread.frame held)
    (with_token (Some (new_token host entry thread.frame)) (after_step thread))

-- a host is asked to push an entry, and keeps the token that the thread held
abbrev pub after_ask : HostState → ThreadShape → EntryId → HostId → Option Token → Outcome
after_ask host thread entry on None = with_thread host thread
after_ask host thread entry on (Some held) =
    with_message (after_asking host thread.at (with_token None (after_step thread)) token_of_entry on) on
    (message.Sync (next_request host thread.at) thread.frame entry held)

-- the thread ends, and is handed over to a host at an entry and in a frame
abbrev pub after_go : HostState → ThreadShape → FrameId → EntryId → HostId → Option Token → Outcome
after_go host thread frame entry on None = with_thread host thread
after_go host thread frame entry on (Some held) =
    with_message (with_running host None) on (message.Rgoto frame entry held)

-- the variables with their values in a frame
abbrev pub riders_of : HostState → FrameId → List VarId → List Rider
riders_of host frame variables = map (λ variable. (variable, host.variables frame variable)) variables

-- the thread ends likewise, and the values of these variables in the frame ride with it
abbrev pub after_go_with : HostState → ThreadShape → FrameId → EntryId → HostId → List VarId → Option Token → Outcome
after_go_with host thread frame entry on variables None = with_thread host thread
after_go_with host thread frame entry on variables (Some held) =
    with_message (with_running host None) on (message.RgotoWith frame entry held (riders_of host frame variables))

-- the thread goes on at an entry of this host, in its new frame
abbrev pub after_own_call : HostState → ThreadShape → Option Entry → Outcome
after_own_call host thread None = with_thread host thread
after_own_call host thread (Some there) = with_thread host (record thread { at = there.at; frame = thread.new_frame })

abbrev pub after_call : CodeShape → HostState → ThreadShape → EntryId → HostId → Outcome
after_call code host thread entry on =
    if on.0 == host.me.0
    then after_own_call host thread (entry_at code entry)
    else after_go host thread thread.new_frame entry on thread.held

-- The result goes to the host and the frame that the token names. To another host it is forwarded where its label may
-- flow there; otherwise nothing is sent, and the thread goes on.
abbrev pub after_return : HostState → ThreadShape → VarId → List Node → Option Token → Bool → Outcome
after_return host thread variable value None passes = with_thread host thread
after_return host thread variable value (Some held) passes =
    let number = value_in_thread host thread value in
    if held.host.0 == host.me.0
    then with_thread (with_variable_set host held.frame variable number) (after_clearing thread)
    else (if passes
    then after_forward host thread.at (after_clearing thread) held.frame variable number held.host
    else with_thread host (after_clearing thread))

-- The thread ends, and gives its token back to the host that the token names. On this host that is what taking an lgoto
-- with it would do.
abbrev pub after_back : CodeShape → HostState → ThreadShape → Option Token → Bool → Outcome
after_back code host thread None passes = with_thread host thread
after_back code host thread (Some held) passes =
    if held.host.0 == host.me.0
    then without_message (if passes
    then after_pop code (with_running host None) host.entries
    else with_one_ignored (with_running host None))
    else with_message (with_running host None) held.host (message.Lgoto held)

-- ---- the instructions

abbrev pub after_operation : CodeShape → HostState → ThreadShape → Op → Bool → Outcome
after_operation code host thread (op.Read field index) passes =
    after_read host thread field index (field_at code field)
after_operation code host thread (op.Let variable value) passes = after_let host thread thread.frame variable value
after_operation code host thread (op.Put field index value) passes =
    after_put host thread field index value (field_at code field)
after_operation code host thread (op.Send variable to) passes = after_send host thread thread.frame variable to
after_operation code host thread (op.Frame site) passes = after_frame host thread site
after_operation code host thread (op.Arg variable value) passes = after_let host thread thread.new_frame variable value
after_operation code host thread (op.Pass variable to) passes = after_send host thread thread.new_frame variable to
after_operation code host thread (op.Push entry) passes = after_own_push host thread entry thread.held
after_operation code host thread (op.Ask entry on) passes = after_ask host thread entry on thread.held
after_operation code host thread (op.Go entry on) passes = after_go host thread thread.frame entry on thread.held
after_operation code host thread (op.Call entry on) passes = after_call code host thread entry on
after_operation code host thread (op.Ret variable value) passes =
    after_return host thread variable value thread.held passes
after_operation code host thread op.Back passes = after_back code host thread thread.held passes
after_operation code host thread (op.Branch guard target) passes = after_branch host thread guard target
after_operation code host thread (op.GoWith entry on riders) passes =
    after_go_with host thread thread.frame entry on riders thread.held
after_operation code host thread (op.CallWith entry on riders) passes =
    after_go_with host thread thread.new_frame entry on riders thread.held

-- ---- the checks

-- the label of a variable may flow to a host
abbrev pub MayReturn : CodeShape → Option CodeVariableShape → HostId → Type 0
MayReturn code None to = ⊥
MayReturn code (Some variable) to = MaySee (label_at code variable.label) (label_of_host code to)

-- A result that goes to another host may be seen there, and a token that is given back on its own host is that of the
-- top entry.
abbrev pub PassesWith : CodeShape → HostState → Op → Option Token → Type 0
PassesWith code host (op.Ret variable value) (Some held) =
    held.host.0 ≢ host.me.0 → MayReturn code (variable_at code variable) held.host
PassesWith code host op.Back (Some held) = held.host.0 ≡ host.me.0 → top_token host.entries ≡ Some held
PassesWith code host operation held = ⊤

-- ---- a turn

-- an entry that is pushed is one of so many
abbrev pub PushesWithin : ℕ → Op → Type 0
PushesWithin count (op.Push entry) = entry.0 < count
PushesWithin count _ = ⊤

-- this is what a return leaves and sends
abbrev pub IsReturning : CodeShape → HostState → ThreadShape → VarId → List Node → Outcome → Type 0
IsReturning code host thread variable value outcome =
    (passes : Bool) × (IsTrue passes ↔ PassesWith code host (op.Ret variable value) thread.held)
    × (after_return host thread variable value thread.held passes ≡ outcome)

-- this is what giving the token back leaves and sends
abbrev pub IsGivingBack : CodeShape → HostState → ThreadShape → Outcome → Type 0
IsGivingBack code host thread outcome =
    (passes : Bool) × (IsTrue passes ↔ PassesWith code host op.Back thread.held)
    × (after_back code host thread thread.held passes ≡ outcome)

-- this is what the instruction leaves and sends, where its check passes or fails
abbrev pub IsOperation : CodeShape → HostState → ThreadShape → Op → Outcome → Type 0
IsOperation code host thread operation outcome =
    (passes : Bool) × (IsTrue passes ↔ PassesWith code host operation thread.held)
    × (after_operation code host thread operation passes ≡ outcome)

-- the thread runs this instruction, and stays where it is where the code lacks it
abbrev pub IsRunning : CodeShape → HostState → ThreadShape → Option Instr → Outcome → Type 0
IsRunning code host thread None outcome = with_thread host thread ≡ outcome
IsRunning code host thread (Some instruction) outcome = IsOperation code host thread instruction.op outcome

-- the running thread is taken, and runs its instruction
abbrev pub IsTurnOf : CodeShape → HostState → Option ThreadShape → Outcome → Type 0
IsTurnOf code host None outcome = without_message host ≡ outcome
IsTurnOf code host (Some thread) outcome =
    IsRunning code (with_running host None) thread (instruction_at code host.me thread.at) outcome

-- this is what a turn leaves and sends
abbrev pub IsTurn : CodeShape → HostState → Outcome → Type 0
IsTurn code host outcome = IsTurnOf code host host.running outcome

-- the place of the label of the instruction that a turn runs
abbrev pub label_of_thread : CodeShape → HostId → Option ThreadShape → Option ℕ
label_of_thread code me None = None
label_of_thread code me (Some thread) =
    option_and_then (λ instruction. Some instruction.label) (instruction_at code me thread.at)

abbrev pub label_of_turn : CodeShape → HostState → Option ℕ
label_of_turn code host = label_of_thread code host.me host.running
