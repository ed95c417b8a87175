-- Hosts without the entry that ends the program. No message names it and no instruction pushes it, so but for taking
-- off the top entry no step looks at it.
use Rattle.std.proofs.Common.{◌≡◌, ◌≢◌, Bool, true, false, not, refl, ap, List, [], ◌∷◌, arith}
use Rattle.std.specs.Prelude.{◌==◌, ℕ, Option, Some, None, filter, pos, ⊤}
use Rattle.std.specs.Ordering.{int_eq}
use Rattle.std.proofs.lemmas.Bool.Decides.{nat_tests}
use Rattle.js_base.specs.declared.ids.HostId.{HostId}
use Rattle.js_base.specs.declared.ids.FieldId.{FieldId}
use Rattle.js_base.specs.declared.ids.FrameId.{FrameId}
use Rattle.js_base.specs.declared.ids.VarId.{VarId}
use Rattle.js_base.specs.declared.ids.EntryId.{EntryId}
use Rattle.capability.specs.declared.token.Token.{Token}
use Rattle.ics_stack.specs.declared.stack.StackEntry.{StackEntry}
use Rattle.host_code.specs.declared.code.Entry.{Entry}
use Rattle.host_code.specs.declared.code_expr.Node.{Node}
use Rattle.host_code.specs.declared.instruction.Op.{Op}
use Rattle.host_code.specs.declared.instruction.Op.TheVariants as op
use Rattle.host_code.specs.declared.message.Message.{Message}
use Rattle.host_code.specs.declared.message.Message.TheVariants as message
use Rattle.host_code.specs.Riders.{Rider}
use Rattle.host_code.specs.Thread.{ThreadShape}
use Rattle.host_code.specs.Thread.Awaited.{value_of_field, acknowledgement, token_of_entry}
use Rattle.host_code.specs.Code.{CodeShape, CodeFieldShape, halt, entry_at, field_at}
use Rattle.host_core.specs.Host.{HostState, Outcome, after_push, after_entering, value_in_thread, with_variables_set}
use Rattle.host_core.specs.Host.{with_variable_set, with_temporary, with_token}
use Rattle.host_core.specs.Taking.{after_taking, after_passing, after_answer, place_of_awaiting}
use Rattle.host_core.specs.Turn.{after_operation, after_read, after_put, after_branch, after_own_push, after_ask}
use Rattle.host_core.specs.Turn.{after_go, after_go_with, after_own_call, after_call, after_return, after_back}

-- an entry other than the one that ends the program
abbrev pub is_lasting : StackEntry → Bool
is_lasting on_stack = not (on_stack.entry.0 == halt.0)

abbrev pub without_halt : HostState → HostState
without_halt host = record host { entries = filter is_lasting host.entries }

abbrev pub halt_left_out : Outcome → Outcome
halt_left_out outcome = record { state = without_halt outcome.state; sent = outcome.sent }

-- ---- pushes and entries

-- a push of another entry stays
pub pushed : (host : HostState) (entry : EntryId) (frame : FrameId) (kept : Token) → entry ≢ halt →
    after_push (without_halt host) entry frame kept ≡ without_halt (after_push host entry frame kept)
pushed host entry frame kept other =
    let lasts : (entry.0 == halt.0) ≡ false = by (entry.0 == halt.0) refl in
    rw lasts refl
  where
    same : entry.0 ≡ 0 → entry ≡ halt
    same is = ap (λ (n : ℕ). let made : EntryId = record { 0 = n } in made) is

    by : (ends : Bool) → (entry.0 == halt.0) ≡ ends → ends ≡ false
    by false is = refl
    by true is = absurd (other (same (grind (arith, nat_tests))))

entered : (host : HostState) (found : Option Entry) (frame : FrameId) (token : Token) →
    after_entering (without_halt host) found frame token ≡ without_halt (after_entering host found frame token)
entered host None frame token = refl
entered host (Some entry) frame token = refl

-- ---- instructions

read_without : (host : HostState) (thread : ThreadShape) (field : FieldId) (index : List Node)
    (there : Option CodeFieldShape) →
    after_read (without_halt host) thread field index there ≡ halt_left_out (after_read host thread field index there)
read_without host thread field index None = refl
read_without host thread field index (Some there) = by (there.host.0 == host.me.0) refl
  where
    by : (own : Bool) → (there.host.0 == host.me.0) ≡ own →
        after_read (without_halt host) thread field index (Some there)
        ≡ halt_left_out (after_read host thread field index (Some there))
    by true is = rw is refl
    by false is = rw is refl

put_without : (host : HostState) (thread : ThreadShape) (field : FieldId) (index value : List Node)
    (there : Option CodeFieldShape) →
    after_put (without_halt host) thread field index value there
    ≡ halt_left_out (after_put host thread field index value there)
put_without host thread field index value None = refl
put_without host thread field index value (Some there) = by (there.host.0 == host.me.0) refl
  where
    by : (own : Bool) → (there.host.0 == host.me.0) ≡ own →
        after_put (without_halt host) thread field index value (Some there)
        ≡ halt_left_out (after_put host thread field index value (Some there))
    by true is = rw is refl
    by false is = rw is refl

branch_without : (host : HostState) (thread : ThreadShape) (guard : List Node) (target : ℕ) →
    after_branch (without_halt host) thread guard target ≡ halt_left_out (after_branch host thread guard target)
branch_without host thread guard target = by (int_eq (value_in_thread host thread guard) (pos 0)) refl
  where
    by : (none : Bool) → int_eq (value_in_thread host thread guard) (pos 0) ≡ none →
        after_branch (without_halt host) thread guard target ≡ halt_left_out (after_branch host thread guard target)
    by true is = rw is refl
    by false is = rw is refl

push_without : (host : HostState) (thread : ThreadShape) (entry : EntryId) (held : Option Token) → entry ≢ halt →
    after_own_push (without_halt host) thread entry held ≡ halt_left_out (after_own_push host thread entry held)
push_without host thread entry None other = refl
push_without host thread entry (Some held) other =
    let runs : HostState → Outcome =
    λ after. after_own_push (record after { entries = [] }) thread entry (Some held) in
    let leaves : HostState → Outcome = λ after. record {
      state = record (runs host).state { entries = after.entries };
      sent = None;
    } in
    ap leaves (pushed host entry thread.frame held other)

ask_without : (host : HostState) (thread : ThreadShape) (entry : EntryId) (on : HostId) (held : Option Token) →
    after_ask (without_halt host) thread entry on held ≡ halt_left_out (after_ask host thread entry on held)
ask_without host thread entry on None = refl
ask_without host thread entry on (Some held) = refl

go_without : (host : HostState) (thread : ThreadShape) (frame : FrameId) (entry : EntryId) (on : HostId)
    (held : Option Token) →
    after_go (without_halt host) thread frame entry on held ≡ halt_left_out (after_go host thread frame entry on held)
go_without host thread frame entry on None = refl
go_without host thread frame entry on (Some held) = refl

go_with_without : (host : HostState) (thread : ThreadShape) (frame : FrameId) (entry : EntryId) (on : HostId)
    (variables : List VarId) (held : Option Token) →
    after_go_with (without_halt host) thread frame entry on variables held
    ≡ halt_left_out (after_go_with host thread frame entry on variables held)
go_with_without host thread frame entry on variables None = refl
go_with_without host thread frame entry on variables (Some held) = refl

own_call_without : (host : HostState) (thread : ThreadShape) (there : Option Entry) →
    after_own_call (without_halt host) thread there ≡ halt_left_out (after_own_call host thread there)
own_call_without host thread None = refl
own_call_without host thread (Some there) = refl

call_without : (code : CodeShape) (host : HostState) (thread : ThreadShape) (entry : EntryId) (on : HostId) →
    after_call code (without_halt host) thread entry on ≡ halt_left_out (after_call code host thread entry on)
call_without code host thread entry on = by (on.0 == host.me.0) refl
  where
    by : (own : Bool) → (on.0 == host.me.0) ≡ own →
        after_call code (without_halt host) thread entry on ≡ halt_left_out (after_call code host thread entry on)
    by true is = rw is (own_call_without host thread (entry_at code entry))
    by false is = rw is (go_without host thread thread.new_frame entry on thread.held)

return_without : (host : HostState) (thread : ThreadShape) (variable : VarId) (value : List Node)
    (held : Option Token) (passes : Bool) →
    after_return (without_halt host) thread variable value held passes
    ≡ halt_left_out (after_return host thread variable value held passes)
return_without host thread variable value None passes = refl
return_without host thread variable value (Some held) passes = by (held.host.0 == host.me.0) refl passes
  where
    by : (own : Bool) → (held.host.0 == host.me.0) ≡ own → (may : Bool) →
        after_return (without_halt host) thread variable value (Some held) may
        ≡ halt_left_out (after_return host thread variable value (Some held) may)
    by true is may = rw is refl
    by false is true = rw is refl
    by false is false = rw is refl

-- the token is another host's
abbrev pub GoesAway : HostState → Option Token → Type 0
GoesAway host None = ⊤
GoesAway host (Some held) = (held.host.0 == host.me.0) ≡ false

-- what gives back a token that is not the host's own
back_without : (code : CodeShape) (host : HostState) (thread : ThreadShape) (held : Option Token) (passes : Bool) →
    GoesAway host held →
    after_back code (without_halt host) thread held passes ≡ halt_left_out (after_back code host thread held passes)
back_without code host thread None passes away = refl
back_without code host thread (Some held) passes away = rw away refl

-- The instruction pushes no entry that ends the program, and takes none off.
abbrev pub LeavesHalt : HostState → Option Token → Op → Type 0
LeavesHalt host held (op.Push entry) = entry ≢ halt
LeavesHalt host held op.Back = GoesAway host held
LeavesHalt host held _ = ⊤

pub runs_without : (code : CodeShape) (host : HostState) (thread : ThreadShape) (operation : Op) (passes : Bool) →
    LeavesHalt host thread.held operation →
    after_operation code (without_halt host) thread operation passes
    ≡ halt_left_out (after_operation code host thread operation passes)
runs_without code host thread (op.Read field index) passes leaves =
    read_without host thread field index (field_at code field)
runs_without code host thread (op.Let variable value) passes leaves = refl
runs_without code host thread (op.Put field index value) passes leaves =
    put_without host thread field index value (field_at code field)
runs_without code host thread (op.Send variable to) passes leaves = refl
runs_without code host thread (op.Frame site) passes leaves = refl
runs_without code host thread (op.Arg variable value) passes leaves = refl
runs_without code host thread (op.Pass variable to) passes leaves = refl
runs_without code host thread (op.Push entry) passes leaves = push_without host thread entry thread.held leaves
runs_without code host thread (op.Ask entry on) passes leaves = ask_without host thread entry on thread.held
runs_without code host thread (op.Go entry on) passes leaves =
    go_without host thread thread.frame entry on thread.held
runs_without code host thread (op.GoWith entry on riders) passes leaves =
    go_with_without host thread thread.frame entry on riders thread.held
runs_without code host thread (op.Call entry on) passes leaves = call_without code host thread entry on
runs_without code host thread (op.CallWith entry on riders) passes leaves =
    go_with_without host thread thread.new_frame entry on riders thread.held
runs_without code host thread (op.Ret variable value) passes leaves =
    return_without host thread variable value thread.held passes
runs_without code host thread op.Back passes leaves = back_without code host thread thread.held passes leaves
runs_without code host thread (op.Branch guard target) passes leaves = branch_without host thread guard target

-- ---- messages

riders_without : (host : HostState) (frame : FrameId) (riders : List Rider) →
    with_variables_set (without_halt host) frame riders ≡ without_halt (with_variables_set host frame riders)
riders_without host frame [] = refl
riders_without host frame (rider ∷ riders) =
    riders_without (with_variable_set host frame rider.0 rider.1) frame riders

answered_without : (host : HostState) (place : Option ℕ) (answered : ThreadShape → ThreadShape) →
    after_answer (without_halt host) place answered ≡ without_halt (after_answer host place answered)
answered_without host None answered = refl
answered_without host (Some place) answered = refl

-- a message that is no lgoto, and asks for no push of the entry that ends the program
abbrev pub AsksOther : Message → Type 0
AsksOther (message.Lgoto token) = ⊥
AsksOther (message.Sync request frame entry token) = entry ≢ halt
AsksOther _ = ⊤

abbrev silent : HostState → Outcome
silent state = record { state = state; sent = None }

takes_passing : (code : CodeShape) (host : HostState) (from : HostId) (letter : Message) → AsksOther letter →
    after_passing code (without_halt host) from letter ≡ halt_left_out (after_passing code host from letter)
takes_passing code host from (message.Get request field index) other = refl
takes_passing code host from (message.Set request field index value) other = refl
takes_passing code host from (message.Forward request frame variable value) other = refl
takes_passing code host from (message.Sync request frame entry token) other =
    let sends : HostState → Outcome = λ after. record {
      state = after;
      sent = (after_passing code host from (message.Sync request frame entry token)).sent;
    } in
    ap sends (pushed host entry frame token other)
takes_passing code host from (message.Rgoto frame entry token) other =
    ap silent (entered host (entry_at code entry) frame token)
takes_passing code host from (message.RgotoWith frame entry token riders) other =
    rw (riders_without host frame riders)
    (ap silent (entered (with_variables_set host frame riders) (entry_at code entry) frame token))
takes_passing code host from (message.Lgoto token) other = absurd other
takes_passing code host from (message.Value request value) other =
    ap silent (answered_without host (place_of_awaiting host value_of_field request from) (with_temporary value))
takes_passing code host from (message.Ack request) other =
    ap silent (answered_without host (place_of_awaiting host acknowledgement request from) (λ thread. thread))
takes_passing code host from (message.Token request token) other =
    ap silent (answered_without host (place_of_awaiting host token_of_entry request from) (with_token (Some token)))

pub takes_without : (code : CodeShape) (host : HostState) (from : HostId) (letter : Message) (passes : Bool) →
    (passes ≡ true → AsksOther letter) →
    after_taking code (without_halt host) from letter passes ≡ halt_left_out (after_taking code host from letter passes)
takes_without code host from letter true other = takes_passing code host from letter (other refl)
takes_without code host from letter false other = refl
