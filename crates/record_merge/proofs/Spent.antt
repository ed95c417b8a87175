-- A step of a host leaves no thread running, or sends nothing.
use Rattle.std.proofs.Common.{◌≡◌, ◌⊎◌, inl, inr, Bool, true, false, List, Option, Some, None, refl, subst}
use Rattle.std.specs.Prelude.{pos, ◌==◌, if◌then◌else◌}
use Rattle.std.specs.Ordering.{int_eq}
use Rattle.js_base.specs.declared.ids.HostId.{HostId}
use Rattle.js_base.specs.declared.ids.FieldId.{FieldId}
use Rattle.js_base.specs.declared.ids.FrameId.{FrameId}
use Rattle.js_base.specs.declared.ids.VarId.{VarId}
use Rattle.js_base.specs.declared.ids.EntryId.{EntryId}
use Rattle.capability.specs.declared.token.Token.{Token}
use Rattle.host_code.specs.declared.code_expr.Node.{Node}
use Rattle.host_code.specs.declared.code.Entry.{Entry}
use Rattle.host_code.specs.declared.instruction.Instr.{Instr}
use Rattle.host_code.specs.declared.instruction.Op.{Op}
use Rattle.host_code.specs.declared.instruction.Op.TheVariants as op
use Rattle.host_code.specs.declared.message.Message.{Message}
use Rattle.host_code.specs.declared.message.Message.TheVariants as message
use Rattle.host_code.specs.Code.{CodeShape, CodeFieldShape, field_at, entry_at, instruction_at}
use Rattle.host_code.specs.Thread.{ThreadShape}
use Rattle.host_core.specs.Host.{HostState, Outcome, with_running, value_in_thread}
use Rattle.host_core.specs.Taking.{IsTaking, after_passing}
use Rattle.host_core.specs.Turn.{IsTurn, IsTurnOf, IsRunning, after_operation, after_read, after_put, after_own_push}
use Rattle.host_core.specs.Turn.{after_ask, after_go, after_go_with, after_own_call, after_return, after_back}

abbrev pub IsSpent : Outcome → Type 0
IsSpent outcome = (outcome.state.running ≡ None) ⊎ (outcome.sent ≡ None)

one_of : (b : Bool) (first second : Outcome) → IsSpent first → IsSpent second → IsSpent (if b then first else second)
one_of true first second is other = is
one_of false first second is other = other

-- ---- turns

read_spent : (host : HostState) (thread : ThreadShape) (field : FieldId) (index : List Node)
    (there : Option CodeFieldShape) → IsSpent (after_read host thread field index there)
read_spent host thread field index None = inr refl
read_spent host thread field index (Some there) = one_of (there.host.0 == host.me.0) _ _ (inr refl) (inl refl)

put_spent : (host : HostState) (thread : ThreadShape) (field : FieldId) (index value : List Node)
    (there : Option CodeFieldShape) → IsSpent (after_put host thread field index value there)
put_spent host thread field index value None = inr refl
put_spent host thread field index value (Some there) = one_of (there.host.0 == host.me.0) _ _ (inr refl) (inl refl)

push_spent : (host : HostState) (thread : ThreadShape) (entry : EntryId) (held : Option Token) →
    IsSpent (after_own_push host thread entry held)
push_spent host thread entry None = inr refl
push_spent host thread entry (Some held) = inr refl

ask_spent : (host : HostState) (thread : ThreadShape) (entry : EntryId) (on : HostId) (held : Option Token) →
    IsSpent (after_ask host thread entry on held)
ask_spent host thread entry on None = inr refl
ask_spent host thread entry on (Some held) = inl refl

go_spent : (host : HostState) (thread : ThreadShape) (frame : FrameId) (entry : EntryId) (on : HostId)
    (held : Option Token) → IsSpent (after_go host thread frame entry on held)
go_spent host thread frame entry on None = inr refl
go_spent host thread frame entry on (Some held) = inl refl

go_with_spent : (host : HostState) (thread : ThreadShape) (frame : FrameId) (entry : EntryId) (on : HostId)
    (variables : List VarId) (held : Option Token) → IsSpent (after_go_with host thread frame entry on variables held)
go_with_spent host thread frame entry on variables None = inr refl
go_with_spent host thread frame entry on variables (Some held) = inl refl

own_call_spent : (host : HostState) (thread : ThreadShape) (there : Option Entry) →
    IsSpent (after_own_call host thread there)
own_call_spent host thread None = inr refl
own_call_spent host thread (Some there) = inr refl

return_spent : (host : HostState) (thread : ThreadShape) (variable : VarId) (value : List Node) (held : Option Token)
    (passes : Bool) → IsSpent (after_return host thread variable value held passes)
return_spent host thread variable value None passes = inr refl
return_spent host thread variable value (Some held) passes =
    one_of (held.host.0 == host.me.0) _ _ (inr refl) (one_of passes _ _ (inl refl) (inr refl))

back_spent : (code : CodeShape) (host : HostState) (thread : ThreadShape) (held : Option Token) (passes : Bool) →
    IsSpent (after_back code host thread held passes)
back_spent code host thread None passes = inr refl
back_spent code host thread (Some held) passes = one_of (held.host.0 == host.me.0) _ _ (inr refl) (inl refl)

operation_spent : (code : CodeShape) (host : HostState) (thread : ThreadShape) (what : Op) (passes : Bool) →
    IsSpent (after_operation code host thread what passes)
operation_spent code host thread (op.Read field index) passes =
    read_spent host thread field index (field_at code field)
operation_spent code host thread (op.Let variable value) passes = inr refl
operation_spent code host thread (op.Put field index value) passes =
    put_spent host thread field index value (field_at code field)
operation_spent code host thread (op.Send variable to) passes = inl refl
operation_spent code host thread (op.Frame site) passes = inr refl
operation_spent code host thread (op.Arg variable value) passes = inr refl
operation_spent code host thread (op.Pass variable to) passes = inl refl
operation_spent code host thread (op.Push entry) passes = push_spent host thread entry thread.held
operation_spent code host thread (op.Ask entry on) passes = ask_spent host thread entry on thread.held
operation_spent code host thread (op.Go entry on) passes = go_spent host thread thread.frame entry on thread.held
operation_spent code host thread (op.Call entry on) passes =
    one_of (on.0 == host.me.0) _ _ (own_call_spent host thread (entry_at code entry))
    (go_spent host thread thread.new_frame entry on thread.held)
operation_spent code host thread (op.Ret variable value) passes =
    return_spent host thread variable value thread.held passes
operation_spent code host thread op.Back passes = back_spent code host thread thread.held passes
operation_spent code host thread (op.Branch guard target) passes =
    one_of (int_eq (value_in_thread host thread guard) (pos 0)) _ _ (inr refl) (inr refl)
operation_spent code host thread (op.GoWith entry on riders) passes =
    go_with_spent host thread thread.frame entry on riders thread.held
operation_spent code host thread (op.CallWith entry on riders) passes =
    go_with_spent host thread thread.new_frame entry on riders thread.held

running_spent : (code : CodeShape) (host : HostState) (thread : ThreadShape) (there : Option Instr)
    (outcome : Outcome) → IsRunning code host thread there outcome → IsSpent outcome
running_spent code host thread None outcome is = subst IsSpent is (inr refl)
running_spent code host thread (Some instruction) outcome is =
    subst IsSpent is.2 (operation_spent code host thread instruction.op is.0)

turn_of_spent : (code : CodeShape) (host : HostState) (running : Option ThreadShape) (outcome : Outcome) →
    IsTurnOf code host running outcome → IsSpent outcome
turn_of_spent code host None outcome is = subst IsSpent is (inr refl)
turn_of_spent code host (Some thread) outcome is =
    running_spent code (with_running host None) thread (instruction_at code host.me thread.at) outcome is

pub turn_spent : (code : CodeShape) (host : HostState) (outcome : Outcome) → IsTurn code host outcome →
    IsSpent outcome
turn_spent code host outcome is = turn_of_spent code host host.running outcome is

-- ---- messages

passing_spent : (code : CodeShape) (host : HostState) (from : HostId) (m : Message) → host.running ≡ None →
    IsSpent (after_passing code host from m)
passing_spent code host from (message.Get request field index) rests = inl rests
passing_spent code host from (message.Set request field index value) rests = inl rests
passing_spent code host from (message.Forward request frame variable value) rests = inl rests
passing_spent code host from (message.Sync request frame entry token) rests = inl rests
passing_spent code host from (message.Rgoto frame entry token) rests = inr refl
passing_spent code host from (message.RgotoWith frame entry token riders) rests = inr refl
passing_spent code host from (message.Lgoto token) rests = inr refl
passing_spent code host from (message.Value request value) rests = inr refl
passing_spent code host from (message.Ack request) rests = inr refl
passing_spent code host from (message.Token request token) rests = inr refl

pub take_spent : (code : CodeShape) (host : HostState) (from : HostId) (m : Message) (outcome : Outcome) →
    host.running ≡ None → IsTaking code host from m outcome → IsSpent outcome
take_spent code host from m outcome rests is =
    subst IsSpent is.2 (one_of is.0 _ _ (passing_spent code host from m rests) (inr refl))
