-- What an instruction sends: a token goes to the host that it enters, or back to the host that the token names.
use Rattle.std.proofs.Common.{◌≡◌, ◌∙◌, ◌⊎◌, inl, inr, Bool, true, false, List, [], Option, Some, None, refl}
use Rattle.std.proofs.Common.{sym, ap}
use Rattle.std.specs.Prelude.{◌==◌, if◌then◌else◌, pos}
use Rattle.std.specs.Ordering.{int_eq}
use Rattle.js_base.specs.declared.ids.HostId.{HostId}
use Rattle.js_base.specs.declared.ids.EntryId.{EntryId}
use Rattle.js_base.specs.declared.ids.FieldId.{FieldId}
use Rattle.js_base.specs.declared.ids.FrameId.{FrameId}
use Rattle.js_base.specs.declared.ids.VarId.{VarId}
use Rattle.capability.specs.declared.token.Token.{Token}
use Rattle.host_code.specs.declared.code.Entry.{Entry}
use Rattle.host_code.specs.declared.code_expr.Node.{Node}
use Rattle.host_code.specs.declared.instruction.Op.{Op}
use Rattle.host_code.specs.declared.instruction.Op.TheVariants as op
use Rattle.host_code.specs.declared.message.Message.{Message}
use Rattle.host_code.specs.declared.message.Message.TheVariants as message
use Rattle.host_code.specs.Code.{CodeShape, CodeFieldShape, field_at, entry_at}
use Rattle.host_code.specs.Thread.{ThreadShape}
use Rattle.host_core.specs.Host.{HostState, Outcome, with_message, without_message}
use Rattle.host_core.specs.Host.{value_in_thread}
use Rattle.host_core.specs.Turn.{after_operation, after_read, after_put, after_own_push, after_ask, after_go}
use Rattle.host_core.specs.Turn.{after_go_with, after_own_call, after_return, after_back}
use Rattle.net_world.specs.Told.{token_in}
use Rattle.split_rules.specs.Handing.{Arrival, arrival_in}

-- a message that hands a thread over has its token
pub arrival_token : (said : Message) (arrival : Arrival) → arrival_in said ≡ Some arrival →
    token_in said ≡ Some arrival.token
arrival_token (message.Rgoto frame entry token) arrival is =
    let own : Arrival = record { frame = frame; entry = entry; token = token; riders = [] } in
    let same : own ≡ arrival = cc in
    ap (λ (a : Arrival). Some a.token) same
arrival_token (message.RgotoWith frame entry token riders) arrival is =
    let own : Arrival = record { frame = frame; entry = entry; token = token; riders = riders } in
    let same : own ≡ arrival = cc in
    ap (λ (a : Arrival). Some a.token) same
arrival_token _ arrival is = absurd (cc)

-- the host that an instruction hands control over to, or asks to push an entry
abbrev pub entered_host : Op → Option HostId
entered_host (op.Ask entry on) = Some on
entered_host (op.Go entry on) = Some on
entered_host (op.Call entry on) = Some on
entered_host (op.GoWith entry on riders) = Some on
entered_host (op.CallWith entry on riders) = Some on
entered_host other = None

-- A token goes to the host that the instruction enters, or back to its own host.
pub data Sends (it : Op) (outcome : Outcome) : Type 0 where
  silent : (new : HostState) → without_message new ≡ outcome → Sends it outcome
  sends : (new : HostState) (to : HostId) (m : Message) → with_message new to m ≡ outcome →
      ((token : Token) → token_in m ≡ Some token → (entered_host it ≡ Some to) ⊎ (token.host ≡ to)) →
      Sends it outcome

either_sends : (it : Op) (b : Bool) (one two : Outcome) → Sends it one → Sends it two →
    Sends it (if b then one else two)
either_sends it true one two first second = first
either_sends it false one two first second = second

plain : (it : Op) (new : HostState) (to : HostId) (m : Message) → token_in m ≡ None → Sends it (with_message new to m)
plain it new to m none = sends new to m refl (λ token is. absurd (let never : None ≡ Some token = sym none ∙ is in cc))

read_sends : (it : Op) (host : HostState) (thread : ThreadShape) (field : FieldId) (index : List Node)
    (there : Option CodeFieldShape) → Sends it (after_read host thread field index there)
read_sends it host thread field index None = silent _ refl
read_sends it host thread field index (Some there) =
    either_sends it (there.host.0 == host.me.0) _ _ (silent _ refl) (plain it _ _ _ refl)

put_sends : (it : Op) (host : HostState) (thread : ThreadShape) (field : FieldId) (index value : List Node)
    (there : Option CodeFieldShape) → Sends it (after_put host thread field index value there)
put_sends it host thread field index value None = silent _ refl
put_sends it host thread field index value (Some there) =
    either_sends it (there.host.0 == host.me.0) _ _ (silent _ refl) (plain it _ _ _ refl)

push_sends : (it : Op) (host : HostState) (thread : ThreadShape) (entry : EntryId) (held : Option Token) →
    Sends it (after_own_push host thread entry held)
push_sends it host thread entry None = silent _ refl
push_sends it host thread entry (Some held) = silent _ refl

ask_sends : (host : HostState) (thread : ThreadShape) (entry : EntryId) (on : HostId) (held : Option Token) →
    Sends (op.Ask entry on) (after_ask host thread entry on held)
ask_sends host thread entry on None = silent _ refl
ask_sends host thread entry on (Some held) = sends _ on _ refl (λ token is. inl refl)

go_sends : (it : Op) (host : HostState) (thread : ThreadShape) (frame : FrameId) (entry : EntryId) (on : HostId)
    (held : Option Token) → entered_host it ≡ Some on → Sends it (after_go host thread frame entry on held)
go_sends it host thread frame entry on None enters = silent _ refl
go_sends it host thread frame entry on (Some held) enters = sends _ on _ refl (λ token is. inl enters)

go_with_sends : (it : Op) (host : HostState) (thread : ThreadShape) (frame : FrameId) (entry : EntryId) (on : HostId)
    (riders : List VarId) (held : Option Token) → entered_host it ≡ Some on →
    Sends it (after_go_with host thread frame entry on riders held)
go_with_sends it host thread frame entry on riders None enters = silent _ refl
go_with_sends it host thread frame entry on riders (Some held) enters = sends _ on _ refl (λ token is. inl enters)

own_call_sends : (it : Op) (host : HostState) (thread : ThreadShape) (found : Option Entry) →
    Sends it (after_own_call host thread found)
own_call_sends it host thread None = silent _ refl
own_call_sends it host thread (Some there) = silent _ refl

return_sends : (it : Op) (host : HostState) (thread : ThreadShape) (x : VarId) (value : List Node)
    (held : Option Token) (passes : Bool) → Sends it (after_return host thread x value held passes)
return_sends it host thread x value None passes = silent _ refl
return_sends it host thread x value (Some held) passes =
    either_sends it (held.host.0 == host.me.0) _ _ (silent _ refl)
    (either_sends it passes _ _ (plain it _ _ _ refl) (silent _ refl))

back_sends : (it : Op) (code : CodeShape) (host : HostState) (thread : ThreadShape) (held : Option Token)
    (passes : Bool) → Sends it (after_back code host thread held passes)
back_sends it code host thread None passes = silent _ refl
back_sends it code host thread (Some held) passes =
    either_sends it (held.host.0 == host.me.0) _ _ (silent _ refl)
    (sends _ held.host (message.Lgoto held) refl
    (λ token is. let same : held ≡ token = cc in inr (ap (λ (t : Token). t.host) (sym same))))

pub operation_sends : (code : CodeShape) (bare : HostState) (thread : ThreadShape) (it : Op) (passes : Bool) →
    Sends it (after_operation code bare thread it passes)
operation_sends code bare thread (op.Read field index) passes =
    read_sends (op.Read field index) bare thread field index (field_at code field)
operation_sends code bare thread (op.Let x value) passes = silent _ refl
operation_sends code bare thread (op.Put field index value) passes =
    put_sends (op.Put field index value) bare thread field index value (field_at code field)
operation_sends code bare thread (op.Send x to) passes = plain (op.Send x to) _ _ _ refl
operation_sends code bare thread (op.Frame site) passes = silent _ refl
operation_sends code bare thread (op.Arg x value) passes = silent _ refl
operation_sends code bare thread (op.Pass x to) passes = plain (op.Pass x to) _ _ _ refl
operation_sends code bare thread (op.Push entry) passes = push_sends (op.Push entry) bare thread entry thread.held
operation_sends code bare thread (op.Ask entry on) passes = ask_sends bare thread entry on thread.held
operation_sends code bare thread (op.Go entry on) passes =
    go_sends (op.Go entry on) bare thread thread.frame entry on thread.held refl
operation_sends code bare thread (op.Call entry on) passes =
    either_sends (op.Call entry on) (on.0 == bare.me.0) _ _
    (own_call_sends (op.Call entry on) bare thread (entry_at code entry))
    (go_sends (op.Call entry on) bare thread thread.new_frame entry on thread.held refl)
operation_sends code bare thread (op.Ret x value) passes =
    return_sends (op.Ret x value) bare thread x value thread.held passes
operation_sends code bare thread op.Back passes = back_sends op.Back code bare thread thread.held passes
operation_sends code bare thread (op.Branch guard target) passes =
    either_sends (op.Branch guard target) (int_eq (value_in_thread bare thread guard) (pos 0)) _ _ (silent _ refl)
    (silent _ refl)
operation_sends code bare thread (op.GoWith entry on riders) passes =
    go_with_sends (op.GoWith entry on riders) bare thread thread.frame entry on riders thread.held refl
operation_sends code bare thread (op.CallWith entry on riders) passes =
    go_with_sends (op.CallWith entry on riders) bare thread thread.new_frame entry on riders thread.held refl
