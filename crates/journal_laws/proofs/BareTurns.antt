-- An instruction does not look at tags, but for the check.
use Rattle.std.proofs.Common.{◌≡◌, ℕ, ℤ, Bool, true, false, refl, ap, List}
use Rattle.std.specs.Prelude.{◌==◌, Option, Some, None, pos, slice_set, slice_index, ◌+◌}
use Rattle.std.specs.Ordering.{int_eq}
use Rattle.std.specs.Option.{option_map}
use Rattle.js_base.specs.declared.ids.HostId.{HostId}
use Rattle.js_base.specs.declared.ids.FieldId.{FieldId}
use Rattle.js_base.specs.declared.ids.FrameId.{FrameId}
use Rattle.js_base.specs.declared.ids.VarId.{VarId}
use Rattle.js_base.specs.declared.ids.EntryId.{EntryId}
use Rattle.js_base.specs.declared.ids.SiteId.{SiteId}
use Rattle.capability.specs.declared.token.Token.{Token}
use Rattle.host_code.specs.declared.code.Entry.{Entry}
use Rattle.host_code.specs.declared.code_expr.Node.{Node}
use Rattle.host_code.specs.declared.instruction.Op.{Op}
use Rattle.host_code.specs.declared.instruction.Op.TheVariants as op
use Rattle.host_code.specs.declared.message.Message.{Message}
use Rattle.host_code.specs.declared.message.Message.TheVariants as message
use Rattle.host_code.specs.Thread.{ThreadShape, Awaited}
use Rattle.host_code.specs.Thread.Awaited.{value_of_field, acknowledgement, token_of_entry}
use Rattle.host_code.specs.Code.{CodeShape, CodeFieldShape, field_at, entry_at}
use Rattle.host_core.specs.Host.{HostState, with_running, with_row_written, with_variable_set}
use Rattle.host_core.specs.Host.{after_asking, after_push, new_token, next_request, after_step, with_token}
use Rattle.host_core.specs.Host.{value_in_thread}
use Rattle.host_core.specs.Turn.{with_thread, after_operation, after_read, after_put, after_let, after_send}
use Rattle.host_core.specs.Turn.{after_go, after_go_with, riders_of, after_own_call, after_call, after_return}
use Rattle.host_core.specs.Turn.{after_back, after_branch, after_frame, after_own_push, after_ask}
use Rattle.journal_laws.specs.Bare.{bare_token, bare_thread, bare_host, bare_outcome, bare_sent}
use Rattle.journal_laws.proofs.BareHosts.{host_twice, held_twice, thread_twice, sends, leaves, running_bare}
use Rattle.journal_laws.proofs.BareHosts.{asking_bare, popped_bare}

-- ---- how a thread goes on

-- it runs as another one with the same parts but for tags
goes_bare : (host : HostState) (other one : ThreadShape) → bare_thread other ≡ bare_thread one →
    bare_outcome (with_thread (bare_host host) other) ≡ bare_outcome (with_thread host one)
goes_bare host other one same = leaves (running_bare host (Some other) (Some one) (ap Some same))

-- it ends
ends_bare : (host : HostState) (sent told : Option (HostId × Message)) → bare_sent sent ≡ bare_sent told →
    bare_outcome (record { state = with_running (bare_host host) None; sent = sent })
    ≡ bare_outcome (record { state = with_running host None; sent = told })
ends_bare host sent told alike = sends (running_bare host None None refl) alike

-- it waits for the answer to what is sent
asks_bare : (host : HostState) (at : ℕ) (other one : ThreadShape) (awaited : Awaited) (asked : HostId)
    (sent told : Option (HostId × Message)) → bare_thread other ≡ bare_thread one → bare_sent sent ≡ bare_sent told →
    bare_outcome (record { state = after_asking (bare_host host) at other awaited asked; sent = sent })
    ≡ bare_outcome (record { state = after_asking host at one awaited asked; sent = told })
asks_bare host at other one awaited asked sent told same alike =
    sends (asking_bare host at other one awaited asked same) alike

-- ---- fields and variables

read_bare : (host : HostState) (thread : ThreadShape) (field : FieldId) (index : List Node)
    (there : Option CodeFieldShape) →
    bare_outcome (after_read (bare_host host) (bare_thread thread) field index there)
    ≡ bare_outcome (after_read host thread field index there)
read_bare host thread field index None = goes_bare host (bare_thread thread) thread (thread_twice thread)
read_bare host thread field index (Some there) = by (there.host.0 == host.me.0) refl
  where
    get : Option (HostId × Message)
    get = Some (there.host, message.Get (next_request host thread.at) field (value_in_thread host thread index))

    by : (own : Bool) → (there.host.0 == host.me.0) ≡ own →
        bare_outcome (after_read (bare_host host) (bare_thread thread) field index (Some there))
        ≡ bare_outcome (after_read host thread field index (Some there))
    by true is = rw is (goes_bare host _ _ (rw (held_twice thread.held) refl))
    by false is = rw is
        (asks_bare host thread.at _ _ value_of_field there.host get get (rw (held_twice thread.held) refl) refl)

put_bare : (host : HostState) (thread : ThreadShape) (field : FieldId) (index value : List Node)
    (there : Option CodeFieldShape) →
    bare_outcome (after_put (bare_host host) (bare_thread thread) field index value there)
    ≡ bare_outcome (after_put host thread field index value there)
put_bare host thread field index value None = goes_bare host (bare_thread thread) thread (thread_twice thread)
put_bare host thread field index value (Some there) = by (there.host.0 == host.me.0) refl
  where
    place : ℤ
    place = value_in_thread host thread index

    number : ℤ
    number = value_in_thread host thread value

    set : Option (HostId × Message)
    set = Some (there.host, message.Set (next_request host thread.at) field place number)

    by : (own : Bool) → (there.host.0 == host.me.0) ≡ own →
        bare_outcome (after_put (bare_host host) (bare_thread thread) field index value (Some there))
        ≡ bare_outcome (after_put host thread field index value (Some there))
    by true is = rw is
        (goes_bare (with_row_written host field place number) _ _ (rw (held_twice thread.held) refl))
    by false is = rw is
        (asks_bare host thread.at _ _ acknowledgement there.host set set (rw (held_twice thread.held) refl) refl)

let_bare : (host : HostState) (thread : ThreadShape) (frame : FrameId) (variable : VarId) (value : List Node) →
    bare_outcome (after_let (bare_host host) (bare_thread thread) frame variable value)
    ≡ bare_outcome (after_let host thread frame variable value)
let_bare host thread frame variable value =
    goes_bare (with_variable_set host frame variable (value_in_thread host thread value)) _ _
    (rw (held_twice thread.held) refl)

send_bare : (host : HostState) (thread : ThreadShape) (frame : FrameId) (variable : VarId) (to : HostId) →
    bare_outcome (after_send (bare_host host) (bare_thread thread) frame variable to)
    ≡ bare_outcome (after_send host thread frame variable to)
send_bare host thread frame variable to =
    let forward : Option (HostId × Message) =
    Some (to, message.Forward (next_request host thread.at) frame variable (host.variables frame variable)) in
    asks_bare host thread.at _ _ acknowledgement to forward forward (rw (held_twice thread.held) refl) refl

-- ---- frames and branches

frame_bare : (host : HostState) (thread : ThreadShape) (site : SiteId) →
    bare_outcome (after_frame (bare_host host) (bare_thread thread) site) ≡ bare_outcome (after_frame host thread site)
frame_bare host thread site =
    goes_bare (record host { frames = slice_set host.frames site.0 (slice_index host.frames site.0 + 1) }) _ _
    (rw (held_twice thread.held) refl)

branch_bare : (host : HostState) (thread : ThreadShape) (guard : List Node) (target : ℕ) →
    bare_outcome (after_branch (bare_host host) (bare_thread thread) guard target)
    ≡ bare_outcome (after_branch host thread guard target)
branch_bare host thread guard target = by (int_eq (value_in_thread host thread guard) (pos 0)) refl
  where
    by : (none : Bool) → int_eq (value_in_thread host thread guard) (pos 0) ≡ none →
        bare_outcome (after_branch (bare_host host) (bare_thread thread) guard target)
        ≡ bare_outcome (after_branch host thread guard target)
    by true is = rw is (goes_bare host _ _ (rw (held_twice thread.held) refl))
    by false is = rw is (goes_bare host _ _ (rw (held_twice thread.held) refl))

-- ---- the token of the thread

push_bare : (host : HostState) (thread : ThreadShape) (entry : EntryId) (held : Option Token) →
    bare_outcome (after_own_push (bare_host host) (bare_thread thread) entry (option_map bare_token held))
    ≡ bare_outcome (after_own_push host thread entry held)
push_bare host thread entry None = goes_bare host (bare_thread thread) thread (thread_twice thread)
push_bare host thread entry (Some held) =
    leaves (host_twice
    (with_running (after_push host entry thread.frame held)
    (Some (with_token (Some (new_token host entry thread.frame)) (after_step thread)))))

ask_bare : (host : HostState) (thread : ThreadShape) (entry : EntryId) (on : HostId) (held : Option Token) →
    bare_outcome (after_ask (bare_host host) (bare_thread thread) entry on (option_map bare_token held))
    ≡ bare_outcome (after_ask host thread entry on held)
ask_bare host thread entry on None = goes_bare host (bare_thread thread) thread (thread_twice thread)
ask_bare host thread entry on (Some held) =
    let sync : Token → Option (HostId × Message) =
    λ token. Some (on, message.Sync (next_request host thread.at) thread.frame entry token) in
    asks_bare host thread.at (with_token None (after_step (bare_thread thread))) (with_token None (after_step thread))
    token_of_entry on (sync (bare_token held)) (sync held) refl refl

go_bare : (host : HostState) (thread : ThreadShape) (frame : FrameId) (entry : EntryId) (on : HostId)
    (held : Option Token) →
    bare_outcome (after_go (bare_host host) (bare_thread thread) frame entry on (option_map bare_token held))
    ≡ bare_outcome (after_go host thread frame entry on held)
go_bare host thread frame entry on None = goes_bare host (bare_thread thread) thread (thread_twice thread)
go_bare host thread frame entry on (Some held) =
    ends_bare host (Some (on, message.Rgoto frame entry (bare_token held))) (Some (on, message.Rgoto frame entry held))
    refl

go_with_bare : (host : HostState) (thread : ThreadShape) (frame : FrameId) (entry : EntryId) (on : HostId)
    (variables : List VarId) (held : Option Token) →
    bare_outcome
    (after_go_with (bare_host host) (bare_thread thread) frame entry on variables (option_map bare_token held))
    ≡ bare_outcome (after_go_with host thread frame entry on variables held)
go_with_bare host thread frame entry on variables None =
    goes_bare host (bare_thread thread) thread (thread_twice thread)
go_with_bare host thread frame entry on variables (Some held) =
    let riders = riders_of host frame variables in
    ends_bare host (Some (on, message.RgotoWith frame entry (bare_token held) riders))
    (Some (on, message.RgotoWith frame entry held riders)) refl

own_call_bare : (host : HostState) (thread : ThreadShape) (there : Option Entry) →
    bare_outcome (after_own_call (bare_host host) (bare_thread thread) there)
    ≡ bare_outcome (after_own_call host thread there)
own_call_bare host thread None = goes_bare host (bare_thread thread) thread (thread_twice thread)
own_call_bare host thread (Some there) = goes_bare host _ _ (rw (held_twice thread.held) refl)

call_bare : (code : CodeShape) (host : HostState) (thread : ThreadShape) (entry : EntryId) (on : HostId) →
    bare_outcome (after_call code (bare_host host) (bare_thread thread) entry on)
    ≡ bare_outcome (after_call code host thread entry on)
call_bare code host thread entry on = by (on.0 == host.me.0) refl
  where
    by : (own : Bool) → (on.0 == host.me.0) ≡ own →
        bare_outcome (after_call code (bare_host host) (bare_thread thread) entry on)
        ≡ bare_outcome (after_call code host thread entry on)
    by true is = rw is (own_call_bare host thread (entry_at code entry))
    by false is = rw is (go_bare host thread thread.new_frame entry on thread.held)

return_bare : (host : HostState) (thread : ThreadShape) (variable : VarId) (value : List Node) (held : Option Token)
    (passes : Bool) →
    bare_outcome
    (after_return (bare_host host) (bare_thread thread) variable value (option_map bare_token held) passes)
    ≡ bare_outcome (after_return host thread variable value held passes)
return_bare host thread variable value None passes =
    goes_bare host (bare_thread thread) thread (thread_twice thread)
return_bare host thread variable value (Some held) passes = by (held.host.0 == host.me.0) refl passes
  where
    number : ℤ
    number = value_in_thread host thread value

    forward : Option (HostId × Message)
    forward = Some (held.host, message.Forward (next_request host thread.at) held.frame variable number)

    by : (own : Bool) → (held.host.0 == host.me.0) ≡ own → (may : Bool) →
        bare_outcome (after_return (bare_host host) (bare_thread thread) variable value (Some (bare_token held)) may)
        ≡ bare_outcome (after_return host thread variable value (Some held) may)
    by true is may = rw is
        (goes_bare (with_variable_set host held.frame variable number) _ _ (rw (held_twice thread.held) refl))
    by false is true = rw is
        (asks_bare host thread.at _ _ acknowledgement held.host forward forward (rw (held_twice thread.held) refl) refl)
    by false is false = rw is (goes_bare host _ _ (rw (held_twice thread.held) refl))

back_bare : (code : CodeShape) (host : HostState) (thread : ThreadShape) (held : Option Token) (passes : Bool) →
    bare_outcome (after_back code (bare_host host) (bare_thread thread) (option_map bare_token held) passes)
    ≡ bare_outcome (after_back code host thread held passes)
back_bare code host thread None passes = goes_bare host (bare_thread thread) thread (thread_twice thread)
back_bare code host thread (Some held) passes = by (held.host.0 == host.me.0) refl passes
  where
    by : (own : Bool) → (held.host.0 == host.me.0) ≡ own → (may : Bool) →
        bare_outcome (after_back code (bare_host host) (bare_thread thread) (Some (bare_token held)) may)
        ≡ bare_outcome (after_back code host thread (Some held) may)
    by true is true = rw is (leaves (popped_bare code (with_running host None) host.entries))
    by true is false = rw is (ends_bare host None None refl)
    by false is may = rw is
        (ends_bare host (Some (held.host, message.Lgoto (bare_token held))) (Some (held.host, message.Lgoto held)) refl)

-- ---- instructions

pub runs_bare : (code : CodeShape) (host : HostState) (thread : ThreadShape) (operation : Op) (passes : Bool) →
    bare_outcome (after_operation code (bare_host host) (bare_thread thread) operation passes)
    ≡ bare_outcome (after_operation code host thread operation passes)
runs_bare code host thread (op.Read field index) passes = read_bare host thread field index (field_at code field)
runs_bare code host thread (op.Let variable value) passes = let_bare host thread thread.frame variable value
runs_bare code host thread (op.Put field index value) passes =
    put_bare host thread field index value (field_at code field)
runs_bare code host thread (op.Send variable to) passes = send_bare host thread thread.frame variable to
runs_bare code host thread (op.Frame site) passes = frame_bare host thread site
runs_bare code host thread (op.Arg variable value) passes = let_bare host thread thread.new_frame variable value
runs_bare code host thread (op.Pass variable to) passes = send_bare host thread thread.new_frame variable to
runs_bare code host thread (op.Push entry) passes = push_bare host thread entry thread.held
runs_bare code host thread (op.Ask entry on) passes = ask_bare host thread entry on thread.held
runs_bare code host thread (op.Go entry on) passes = go_bare host thread thread.frame entry on thread.held
runs_bare code host thread (op.GoWith entry on riders) passes =
    go_with_bare host thread thread.frame entry on riders thread.held
runs_bare code host thread (op.Call entry on) passes = call_bare code host thread entry on
runs_bare code host thread (op.CallWith entry on riders) passes =
    go_with_bare host thread thread.new_frame entry on riders thread.held
runs_bare code host thread (op.Ret variable value) passes = return_bare host thread variable value thread.held passes
runs_bare code host thread op.Back passes = back_bare code host thread thread.held passes
runs_bare code host thread (op.Branch guard target) passes = branch_bare host thread guard target
