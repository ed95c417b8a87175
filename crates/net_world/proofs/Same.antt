-- A turn leaves a host its number, and an answer goes to the host that asked.
use Rattle.std.proofs.Common.{◌≡◌, ℕ, Bool, true, false, List, [], ◌∷◌, refl, sym, ap, ◌∙◌, subst}
use Rattle.std.specs.Prelude.{Option, Some, None, IfSome, if◌then◌else◌, ◌==◌}
use Rattle.js_base.specs.declared.ids.HostId.{HostId}
use Rattle.js_base.specs.declared.ids.FieldId.{FieldId}
use Rattle.js_base.specs.declared.ids.EntryId.{EntryId}
use Rattle.js_base.specs.declared.ids.FrameId.{FrameId}
use Rattle.js_base.specs.declared.ids.VarId.{VarId}
use Rattle.capability.specs.declared.token.Token.{Token}
use Rattle.ics_stack.specs.declared.stack.StackEntry.{StackEntry}
use Rattle.host_code.specs.declared.code.Entry.{Entry}
use Rattle.host_code.specs.declared.code_expr.Node.{Node}
use Rattle.host_code.specs.declared.instruction.Instr.{Instr}
use Rattle.host_code.specs.declared.instruction.Op.{Op}
use Rattle.host_code.specs.declared.instruction.Op.TheVariants as op
use Rattle.host_code.specs.declared.message.Message.{Message}
use Rattle.host_code.specs.declared.message.Message.TheVariants as message
use Rattle.host_code.specs.Riders.{Rider}
use Rattle.host_code.specs.Thread.{ThreadShape}
use Rattle.host_code.specs.Code.{CodeShape, CodeFieldShape, halt, field_at, entry_at, instruction_at}
use Rattle.host_core.specs.Host.{HostState, Outcome, with_running, after_pop, after_entering}
use Rattle.host_core.specs.Host.{with_variable_set, with_variables_set}
use Rattle.host_core.specs.Taking.{IsTaking, after_taking, after_passing, after_answer}
use Rattle.host_core.specs.Turn.{IsTurn, IsTurnOf, IsRunning, after_operation, after_read, after_put, after_own_push}
use Rattle.host_core.specs.Turn.{after_ask, after_go, after_go_with, after_own_call, after_return, after_back}

-- ---- the number of a host

either : (b : Bool) (x y : Outcome) (me : HostId) → x.state.me ≡ me → y.state.me ≡ me →
    (if b then x else y).state.me ≡ me
either true x y me yes_same no_same = yes_same
either false x y me yes_same no_same = no_same

either_state : (b : Bool) (x y : HostState) (me : HostId) → x.me ≡ me → y.me ≡ me → (if b then x else y).me ≡ me
either_state true x y me yes_same no_same = yes_same
either_state false x y me yes_same no_same = no_same

me_read : (host : HostState) (thread : ThreadShape) (field : FieldId) (index : List Node)
    (there : Option CodeFieldShape) → (after_read host thread field index there).state.me ≡ host.me
me_read host thread field index None = refl
me_read host thread field index (Some there) = either (there.host.0 == host.me.0) _ _ host.me refl refl

me_put : (host : HostState) (thread : ThreadShape) (field : FieldId) (index value : List Node)
    (there : Option CodeFieldShape) → (after_put host thread field index value there).state.me ≡ host.me
me_put host thread field index value None = refl
me_put host thread field index value (Some there) = either (there.host.0 == host.me.0) _ _ host.me refl refl

me_push : (host : HostState) (thread : ThreadShape) (entry : EntryId) (held : Option Token) →
    (after_own_push host thread entry held).state.me ≡ host.me
me_push host thread entry None = refl
me_push host thread entry (Some held) = refl

me_ask : (host : HostState) (thread : ThreadShape) (entry : EntryId) (on : HostId) (held : Option Token) →
    (after_ask host thread entry on held).state.me ≡ host.me
me_ask host thread entry on None = refl
me_ask host thread entry on (Some held) = refl

me_go : (host : HostState) (thread : ThreadShape) (frame : FrameId) (entry : EntryId) (on : HostId)
    (held : Option Token) → (after_go host thread frame entry on held).state.me ≡ host.me
me_go host thread frame entry on None = refl
me_go host thread frame entry on (Some held) = refl

me_go_with : (host : HostState) (thread : ThreadShape) (frame : FrameId) (entry : EntryId) (on : HostId)
    (riders : List VarId) (held : Option Token) →
    (after_go_with host thread frame entry on riders held).state.me ≡ host.me
me_go_with host thread frame entry on riders None = refl
me_go_with host thread frame entry on riders (Some held) = refl

me_own_call : (host : HostState) (thread : ThreadShape) (there : Option Entry) →
    (after_own_call host thread there).state.me ≡ host.me
me_own_call host thread None = refl
me_own_call host thread (Some there) = refl

me_return : (host : HostState) (thread : ThreadShape) (variable : VarId) (value : List Node) (held : Option Token)
    (passes : Bool) → (after_return host thread variable value held passes).state.me ≡ host.me
me_return host thread variable value None passes = refl
me_return host thread variable value (Some held) passes =
    either (held.host.0 == host.me.0) _ _ host.me refl (either passes _ _ host.me refl refl)

me_riders : (host : HostState) (frame : FrameId) (riders : List Rider) →
    (with_variables_set host frame riders).me ≡ host.me
me_riders host frame [] = refl
me_riders host frame (rider ∷ riders) = me_riders (with_variable_set host frame rider.0 rider.1) frame riders

pub me_entering : (host : HostState) (there : Option Entry) (frame : FrameId) (token : Token) →
    (after_entering host there frame token).me ≡ host.me
me_entering host None frame token = refl
me_entering host (Some there) frame token = refl

me_pop : (code : CodeShape) (host : HostState) (entries : List StackEntry) →
    (after_pop code host entries).me ≡ host.me
me_pop code host [] = refl
me_pop code host (top ∷ below) =
    either_state (top.entry.0 == halt.0) _ _ host.me refl
    (me_entering (record host { entries = below }) (entry_at code top.entry) top.frame top.kept)

me_back : (code : CodeShape) (host : HostState) (thread : ThreadShape) (held : Option Token) (passes : Bool) →
    (after_back code host thread held passes).state.me ≡ host.me
me_back code host thread None passes = refl
me_back code host thread (Some held) passes =
    either (held.host.0 == host.me.0) _ _ host.me
    (either_state passes _ _ host.me (me_pop code (with_running host None) host.entries) refl) refl

me_operation : (code : CodeShape) (host : HostState) (thread : ThreadShape) (operation : Op) (passes : Bool) →
    (after_operation code host thread operation passes).state.me ≡ host.me
me_operation code host thread (op.Read field index) passes = me_read host thread field index (field_at code field)
me_operation code host thread (op.Let variable value) passes = refl
me_operation code host thread (op.Put field index value) passes =
    me_put host thread field index value (field_at code field)
me_operation code host thread (op.Send variable to) passes = refl
me_operation code host thread (op.Frame site) passes = refl
me_operation code host thread (op.Arg variable value) passes = refl
me_operation code host thread (op.Pass variable to) passes = refl
me_operation code host thread (op.Push entry) passes = me_push host thread entry thread.held
me_operation code host thread (op.Ask entry on) passes = me_ask host thread entry on thread.held
me_operation code host thread (op.Go entry on) passes = me_go host thread thread.frame entry on thread.held
me_operation code host thread (op.Call entry on) passes =
    either (on.0 == host.me.0) _ _ host.me (me_own_call host thread (entry_at code entry))
    (me_go host thread thread.new_frame entry on thread.held)
me_operation code host thread (op.Ret variable value) passes = me_return host thread variable value thread.held passes
me_operation code host thread op.Back passes = me_back code host thread thread.held passes
me_operation code host thread (op.Branch guard target) passes = either _ _ _ host.me refl refl
me_operation code host thread (op.GoWith entry on riders) passes =
    me_go_with host thread thread.frame entry on riders thread.held
me_operation code host thread (op.CallWith entry on riders) passes =
    me_go_with host thread thread.new_frame entry on riders thread.held

me_running : (code : CodeShape) (host : HostState) (thread : ThreadShape) (instruction : Option Instr)
    (outcome : Outcome) → IsRunning code host thread instruction outcome → outcome.state.me ≡ host.me
me_running code host thread None outcome runs = ap (λ (o : Outcome). o.state.me) (sym runs)
me_running code host thread (Some instruction) outcome runs =
    ap (λ (o : Outcome). o.state.me) (sym runs.2) ∙ me_operation code host thread instruction.op runs.0

me_turn_of : (code : CodeShape) (host : HostState) (running : Option ThreadShape) (outcome : Outcome) →
    IsTurnOf code host running outcome → outcome.state.me ≡ host.me
me_turn_of code host None outcome turns = ap (λ (o : Outcome). o.state.me) (sym turns)
me_turn_of code host (Some thread) outcome turns =
    me_running code (with_running host None) thread (instruction_at code host.me thread.at) outcome turns

pub me_turn : (code : CodeShape) (host : HostState) (outcome : Outcome) → IsTurn code host outcome →
    outcome.state.me ≡ host.me
me_turn code host outcome turns = me_turn_of code host host.running outcome turns

me_answer : (host : HostState) (place : Option ℕ) (answered : ThreadShape → ThreadShape) →
    (after_answer host place answered).me ≡ host.me
me_answer host None answered = refl
me_answer host (Some place) answered = refl

me_passing : (code : CodeShape) (host : HostState) (from : HostId) (m : Message) →
    (after_passing code host from m).state.me ≡ host.me
me_passing code host from (message.Get request field index) = refl
me_passing code host from (message.Set request field index value) = refl
me_passing code host from (message.Forward request frame variable value) = refl
me_passing code host from (message.Sync request frame entry token) = refl
me_passing code host from (message.Rgoto frame entry token) = me_entering host (entry_at code entry) frame token
me_passing code host from (message.RgotoWith frame entry token riders) =
    me_entering (with_variables_set host frame riders) (entry_at code entry) frame token ∙ me_riders host frame riders
me_passing code host from (message.Lgoto token) = me_pop code host host.entries
me_passing code host from (message.Value request value) = me_answer host _ _
me_passing code host from (message.Ack request) = me_answer host _ _
me_passing code host from (message.Token request token) = me_answer host _ _

me_by_check : (code : CodeShape) (host : HostState) (from : HostId) (m : Message) (passes : Bool) →
    (after_taking code host from m passes).state.me ≡ host.me
me_by_check code host from m true = me_passing code host from m
me_by_check code host from m false = refl

pub me_taking : (code : CodeShape) (host : HostState) (from : HostId) (m : Message) (outcome : Outcome) →
    IsTaking code host from m outcome → outcome.state.me ≡ host.me
me_taking code host from m outcome takes =
    ap (λ (o : Outcome). o.state.me) (sym takes.2) ∙ me_by_check code host from m takes.0

-- ---- answers

to_sender_passing : (code : CodeShape) (host : HostState) (from : HostId) (m : Message) →
    IfSome (after_passing code host from m).sent (λ letter. letter.0 ≡ from)
to_sender_passing code host from (message.Get request field index) = refl
to_sender_passing code host from (message.Set request field index value) = refl
to_sender_passing code host from (message.Forward request frame variable value) = refl
to_sender_passing code host from (message.Sync request frame entry token) = refl
to_sender_passing code host from (message.Rgoto frame entry token) = tt
to_sender_passing code host from (message.RgotoWith frame entry token riders) = tt
to_sender_passing code host from (message.Lgoto token) = tt
to_sender_passing code host from (message.Value request value) = tt
to_sender_passing code host from (message.Ack request) = tt
to_sender_passing code host from (message.Token request token) = tt

to_sender_taking : (code : CodeShape) (host : HostState) (from : HostId) (m : Message) (passes : Bool) →
    IfSome (after_taking code host from m passes).sent (λ letter. letter.0 ≡ from)
to_sender_taking code host from m true = to_sender_passing code host from m
to_sender_taking code host from m false = tt

-- an answer goes to the sender of the message
pub to_sender : (code : CodeShape) (host : HostState) (from : HostId) (m : Message) (outcome : Outcome) →
    IsTaking code host from m outcome → IfSome outcome.sent (λ letter. letter.0 ≡ from)
to_sender code host from m outcome takes =
    subst (λ (o : Outcome). IfSome o.sent (λ letter. letter.0 ≡ from)) takes.2
    (to_sender_taking code host from m takes.0)
