-- What a turn may send: a property of all that its instruction may send holds of what it sends.
use Rattle.std.proofs.Common.{◌≡◌, int_eq, Bool, true, false, List, arith, Option, Some, None, refl, ap, subst}
use Rattle.std.specs.Prelude.{◌==◌, ◌≢◌, if◌then◌else◌, pos, IfSome, ⊤}
use Rattle.std.proofs.lemmas.Bool.Decides.{nat_tests}
use Rattle.js_base.specs.declared.ids.HostId.{HostId}
use Rattle.js_base.specs.declared.ids.FieldId.{FieldId}
use Rattle.js_base.specs.declared.ids.FrameId.{FrameId}
use Rattle.js_base.specs.declared.ids.VarId.{VarId}
use Rattle.js_base.specs.declared.ids.EntryId.{EntryId}
use Rattle.capability.specs.declared.token.Token.{Token}
use Rattle.host_code.specs.declared.code.Entry.{Entry}
use Rattle.host_code.specs.declared.code_expr.Node.{Node}
use Rattle.host_code.specs.declared.instruction.Instr.{Instr}
use Rattle.host_code.specs.declared.instruction.Op.{Op}
use Rattle.host_code.specs.declared.instruction.Op.TheVariants as op
use Rattle.host_code.specs.declared.message.Message.{Message}
use Rattle.host_code.specs.declared.message.Message.TheVariants as message
use Rattle.host_code.specs.Code.{CodeShape, CodeFieldShape, instruction_at, field_at, entry_at}
use Rattle.host_code.specs.Thread.{ThreadShape}
use Rattle.host_core.specs.Host.{HostState, Outcome, with_running, after_clearing, value_in_thread, next_request}
use Rattle.host_core.specs.Turn.{IsTurnOf, IsTurn, IsRunning, after_operation, after_read, after_put, after_go}
use Rattle.host_core.specs.Turn.{after_go_with, riders_of}
use Rattle.host_core.specs.Turn.{after_ask, after_own_push, after_own_call, after_return, after_back, with_thread}

-- what is sent, if anything, has the property
abbrev pub Sends : (HostId → Message → Type 0) → Outcome → Type 0
Sends P outcome = IfSome outcome.sent (λ sent. P sent.0 sent.1)

-- P holds of each host and message that an operation may send, where Q holds of the token that the thread holds
abbrev pub EachSending : (HostId → Message → Type 0) → (Token → Type 0) → CodeShape → HostState → ThreadShape → Op →
    Type 0
EachSending P Q code host thread (op.Read field index) =
    (there : CodeFieldShape) → field_at code field ≡ Some there → there.host ≢ host.me →
    P there.host (message.Get (next_request host thread.at) field (value_in_thread host thread index))
EachSending P Q code host thread (op.Put field index value) =
    (there : CodeFieldShape) → field_at code field ≡ Some there → there.host ≢ host.me →
    P there.host (message.Set (next_request host thread.at) field (value_in_thread host thread index)
    (value_in_thread host thread value))
EachSending P Q code host thread (op.Send x on) =
    P on (message.Forward (next_request host thread.at) thread.frame x (host.variables thread.frame x))
EachSending P Q code host thread (op.Pass x on) =
    P on (message.Forward (next_request host thread.at) thread.new_frame x (host.variables thread.new_frame x))
EachSending P Q code host thread (op.Ask entry on) =
    (token : Token) → Q token → P on (message.Sync (next_request host thread.at) thread.frame entry token)
EachSending P Q code host thread (op.Go entry on) =
    (token : Token) → Q token → P on (message.Rgoto thread.frame entry token)
EachSending P Q code host thread (op.Call entry on) =
    on ≢ host.me → (token : Token) → Q token → P on (message.Rgoto thread.new_frame entry token)
EachSending P Q code host thread (op.GoWith entry on riders) =
    (token : Token) → Q token →
    P on (message.RgotoWith thread.frame entry token (riders_of host thread.frame riders))
EachSending P Q code host thread (op.CallWith entry on riders) =
    (token : Token) → Q token →
    P on (message.RgotoWith thread.new_frame entry token (riders_of host thread.new_frame riders))
EachSending P Q code host thread (op.Ret x value) =
    (token : Token) → Q token →
    P token.host (message.Forward (next_request host thread.at) token.frame x (value_in_thread host thread value))
EachSending P Q code host thread op.Back = (token : Token) → Q token → P token.host (message.Lgoto token)
EachSending P Q code host thread other = ⊤

-- ---- one operation after another

elsewhere : (on me : HostId) → (on.0 == me.0) ≡ false → on ≢ me
elsewhere on me is same =
    let number : on.0 ≡ me.0 = ap (λ (h : HostId). h.0) same in
    let apart : on.0 ≢ me.0 = grind (arith, nat_tests) in
    apart number

either_sends : (P : HostId → Message → Type 0) (b : Bool) (one other : Outcome) → Sends P one →
    (b ≡ false → Sends P other) → Sends P (if b then one else other)
either_sends P true one other first second = first
either_sends P false one other first second = second refl

read_sends : (P : HostId → Message → Type 0) (Q : Token → Type 0) (code : CodeShape) (host : HostState)
    (thread : ThreadShape) (field : FieldId) (index : List Node) (found : Option CodeFieldShape) →
    field_at code field ≡ found → EachSending P Q code host thread (op.Read field index) →
    Sends P (after_read host thread field index found)
read_sends P Q code host thread field index None is each = tt
read_sends P Q code host thread field index (Some there) is each =
    either_sends P (there.host.0 == host.me.0) _ _ tt
    (λ apart. each there is (elsewhere there.host host.me apart))

put_sends : (P : HostId → Message → Type 0) (Q : Token → Type 0) (code : CodeShape) (host : HostState)
    (thread : ThreadShape) (field : FieldId) (index value : List Node) (found : Option CodeFieldShape) →
    field_at code field ≡ found → EachSending P Q code host thread (op.Put field index value) →
    Sends P (after_put host thread field index value found)
put_sends P Q code host thread field index value None is each = tt
put_sends P Q code host thread field index value (Some there) is each =
    either_sends P (there.host.0 == host.me.0) _ _ tt
    (λ apart. each there is (elsewhere there.host host.me apart))

push_sends : (P : HostId → Message → Type 0) (host : HostState) (thread : ThreadShape) (entry : EntryId)
    (held : Option Token) → Sends P (after_own_push host thread entry held)
push_sends P host thread entry None = tt
push_sends P host thread entry (Some token) = tt

ask_sends : (P : HostId → Message → Type 0) (Q : Token → Type 0) (code : CodeShape) (host : HostState)
    (thread : ThreadShape) (entry : EntryId) (on : HostId) (held : Option Token) → IfSome held Q →
    EachSending P Q code host thread (op.Ask entry on) → Sends P (after_ask host thread entry on held)
ask_sends P Q code host thread entry on None holds each = tt
ask_sends P Q code host thread entry on (Some token) holds each = each token holds

go_sends : (P : HostId → Message → Type 0) (Q : Token → Type 0) (host : HostState) (thread : ThreadShape)
    (frame : FrameId) (entry : EntryId) (on : HostId) (held : Option Token) → IfSome held Q →
    ((token : Token) → Q token → P on (message.Rgoto frame entry token)) →
    Sends P (after_go host thread frame entry on held)
go_sends P Q host thread frame entry on None holds each = tt
go_sends P Q host thread frame entry on (Some token) holds each = each token holds

go_with_sends : (P : HostId → Message → Type 0) (Q : Token → Type 0) (host : HostState) (thread : ThreadShape)
    (frame : FrameId) (entry : EntryId) (on : HostId) (riders : List VarId) (held : Option Token) → IfSome held Q →
    ((token : Token) → Q token → P on (message.RgotoWith frame entry token (riders_of host frame riders))) →
    Sends P (after_go_with host thread frame entry on riders held)
go_with_sends P Q host thread frame entry on riders None holds each = tt
go_with_sends P Q host thread frame entry on riders (Some token) holds each = each token holds

own_call_sends : (P : HostId → Message → Type 0) (host : HostState) (thread : ThreadShape) (found : Option Entry) →
    Sends P (after_own_call host thread found)
own_call_sends P host thread None = tt
own_call_sends P host thread (Some there) = tt

return_sends : (P : HostId → Message → Type 0) (Q : Token → Type 0) (code : CodeShape) (host : HostState)
    (thread : ThreadShape) (x : VarId) (value : List Node) (held : Option Token) (passes : Bool) → IfSome held Q →
    EachSending P Q code host thread (op.Ret x value) → Sends P (after_return host thread x value held passes)
return_sends P Q code host thread x value None passes holds each = tt
return_sends P Q code host thread x value (Some token) passes holds each =
    either_sends P (token.host.0 == host.me.0) _ _ tt
    (λ apart. either_sends P passes _ _ (each token holds) (λ fails. tt))

back_sends : (P : HostId → Message → Type 0) (Q : Token → Type 0) (code : CodeShape) (host : HostState)
    (thread : ThreadShape) (held : Option Token) (passes : Bool) → IfSome held Q →
    EachSending P Q code host thread op.Back → Sends P (after_back code host thread held passes)
back_sends P Q code host thread None passes holds each = tt
back_sends P Q code host thread (Some token) passes holds each =
    either_sends P (token.host.0 == host.me.0) _ _ tt (λ apart. each token holds)

operation_sends : (P : HostId → Message → Type 0) (Q : Token → Type 0) (code : CodeShape) (host : HostState)
    (thread : ThreadShape) (it : Op) (passes : Bool) → IfSome thread.held Q → EachSending P Q code host thread it →
    Sends P (after_operation code host thread it passes)
operation_sends P Q code host thread (op.Read field index) passes holds each =
    read_sends P Q code host thread field index (field_at code field) refl each
operation_sends P Q code host thread (op.Let x value) passes holds each = tt
operation_sends P Q code host thread (op.Put field index value) passes holds each =
    put_sends P Q code host thread field index value (field_at code field) refl each
operation_sends P Q code host thread (op.Send x on) passes holds each = each
operation_sends P Q code host thread (op.Frame site) passes holds each = tt
operation_sends P Q code host thread (op.Arg x value) passes holds each = tt
operation_sends P Q code host thread (op.Pass x on) passes holds each = each
operation_sends P Q code host thread (op.Push entry) passes holds each = push_sends P host thread entry thread.held
operation_sends P Q code host thread (op.Ask entry on) passes holds each =
    ask_sends P Q code host thread entry on thread.held holds each
operation_sends P Q code host thread (op.Go entry on) passes holds each =
    go_sends P Q host thread thread.frame entry on thread.held holds each
operation_sends P Q code host thread (op.Call entry on) passes holds each =
    either_sends P (on.0 == host.me.0) _ _ (own_call_sends P host thread (entry_at code entry))
    (λ apart. go_sends P Q host thread thread.new_frame entry on thread.held holds
    (each (elsewhere on host.me apart)))
operation_sends P Q code host thread (op.GoWith entry on riders) passes holds each =
    go_with_sends P Q host thread thread.frame entry on riders thread.held holds each
operation_sends P Q code host thread (op.CallWith entry on riders) passes holds each =
    go_with_sends P Q host thread thread.new_frame entry on riders thread.held holds each
operation_sends P Q code host thread (op.Ret x value) passes holds each =
    return_sends P Q code host thread x value thread.held passes holds each
operation_sends P Q code host thread op.Back passes holds each =
    back_sends P Q code host thread thread.held passes holds each
operation_sends P Q code host thread (op.Branch guard target) passes holds each =
    let later : ThreadShape = after_clearing thread in
    either_sends P (int_eq (value_in_thread host thread guard) (pos 0))
    (with_thread host (record later { at = target })) (with_thread host later) tt (λ no. tt)

-- ---- turns

running_sends : (P : HostId → Message → Type 0) (Q : Token → Type 0) (code : CodeShape) (state : HostState)
    (thread : ThreadShape) (outcome : Outcome) → IfSome thread.held Q → (found : Option Instr) →
    instruction_at code state.me thread.at ≡ found →
    ((there : Instr) → instruction_at code state.me thread.at ≡ Some there →
    EachSending P Q code (with_running state None) thread there.op) →
    IsRunning code (with_running state None) thread found outcome → Sends P outcome
running_sends P Q code state thread outcome holds None is each runs = subst (Sends P) runs tt
running_sends P Q code state thread outcome holds (Some there) is each runs =
    subst (Sends P) runs.2
    (operation_sends P Q code (with_running state None) thread there.op runs.0 holds (each there is))

pub turn_sends : (P : HostId → Message → Type 0) (Q : Token → Type 0) (code : CodeShape) (state : HostState)
    (thread : ThreadShape) (outcome : Outcome) → state.running ≡ Some thread → IsTurn code state outcome →
    IfSome thread.held Q →
    ((there : Instr) → instruction_at code state.me thread.at ≡ Some there →
    EachSending P Q code (with_running state None) thread there.op) → Sends P outcome
turn_sends P Q code state thread outcome is turns holds each =
    running_sends P Q code state thread outcome holds (instruction_at code state.me thread.at) refl each
    (subst (λ running. IsTurnOf code state running outcome) is turns)

pub any_held : (held : Option Token) → IfSome held (λ token. ⊤)
any_held None = tt
any_held (Some token) = tt
