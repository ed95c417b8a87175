-- The top entry that is taken off the control stack, and the messages that do that.
use Rattle.std.proofs.Common.{◌≡◌, ◌∙◌, ℕ, Bool, true, false, List, [], ◌∷◌, Option, Some, None, ap, sym, refl}
use Rattle.std.proofs.Common.{inl, inr, subst}
use Rattle.std.specs.Prelude.{◌==◌, if◌then◌else◌}
use Rattle.js_base.specs.declared.ids.HostId.{HostId}
use Rattle.js_base.specs.declared.ids.FrameId.{FrameId}
use Rattle.js_base.specs.declared.ids.EntryId.{EntryId}
use Rattle.capability.specs.declared.token.Token.{Token}
use Rattle.ics_stack.specs.declared.stack.StackEntry.{StackEntry}
use Rattle.host_code.specs.declared.code.Entry.{Entry}
use Rattle.host_code.specs.declared.message.Message.{Message}
use Rattle.host_code.specs.declared.message.Message.TheVariants as message
use Rattle.host_code.specs.Riders.{Rider}
use Rattle.host_code.specs.Thread.{ThreadShape}
use Rattle.host_code.specs.Code.{CodeShape, halt, entry_at}
use Rattle.host_core.specs.Host.{HostState, Outcome, after_entering, after_pop, with_variables_set, with_variable_set}
use Rattle.host_core.specs.Taking.{IsTaking, after_answer, after_passing}
use Rattle.run_rows.specs.Stacks.{IsStackStep, message_pushes}

-- the count of what was ignored and the stack are those of a host
abbrev Same : HostState → HostState → Type 0
Same host other = (other.ignored ≡ host.ignored) × (other.entries ≡ host.entries)

pub entered : (host : HostState) (entry : Option Entry) (frame : FrameId) (token : Token) →
    Same host (after_entering host entry frame token)
entered host None frame token = (refl, refl)
entered host (Some entry) frame token = (refl, refl)

popped : (code : CodeShape) (host : HostState) (entry : EntryId) (frame : FrameId) (kept : Token) (ends : Bool) →
    Same host (if ends then record host { running = None; halted = true }
    else after_entering host (entry_at code entry) frame kept)
popped code host entry frame kept true = (refl, refl)
popped code host entry frame kept false = entered host (entry_at code entry) frame kept

pub ignores_none : (code : CodeShape) (host : HostState) (entries : List StackEntry) →
    (after_pop code host entries).ignored ≡ host.ignored
ignores_none code host [] = refl
ignores_none code host (top ∷ below) =
    (popped code (record host { entries = below }) top.entry top.frame top.kept (top.entry.0 == halt.0)).0

pub takes_off : (pushes : Option EntryId) (code : CodeShape) (host : HostState) (entries : List StackEntry) →
    host.entries ≡ entries → IsStackStep pushes entries (after_pop code host entries).entries
takes_off pushes code host [] is = inl is
takes_off pushes code host (top ∷ below) is =
    let left = popped code (record host { entries = below }) top.entry top.frame top.kept (top.entry.0 == halt.0) in
    inr (inr (top, ap (λ (rest : List StackEntry). top ∷ rest) (sym left.1)))

variables_set : (host : HostState) (frame : FrameId) (riders : List Rider) →
    (with_variables_set host frame riders).entries ≡ host.entries
variables_set host frame [] = refl
variables_set host frame (rider ∷ riders) =
    variables_set (with_variable_set host frame rider.0 rider.1) frame riders

answered : (host : HostState) (place : Option ℕ) (after : ThreadShape → ThreadShape) →
    (after_answer host place after).entries ≡ host.entries
answered host None after = refl
answered host (Some place) after = refl

passed : (code : CodeShape) (host : HostState) (from : HostId) (taken : Message) →
    IsStackStep (message_pushes taken) host.entries (after_passing code host from taken).state.entries
passed code host from (message.Get request field index) = inl refl
passed code host from (message.Set request field index value) = inl refl
passed code host from (message.Forward request frame variable value) = inl refl
passed code host from (message.Sync request frame entry token) = inr (inl (_, refl, refl))
passed code host from (message.Rgoto frame entry token) = inl (entered host (entry_at code entry) frame token).1
passed code host from (message.RgotoWith frame entry token riders) =
    inl ((entered (with_variables_set host frame riders) (entry_at code entry) frame token).1
    ∙ variables_set host frame riders)
passed code host from (message.Lgoto token) = takes_off None code host host.entries refl
passed code host from (message.Value request value) = inl (answered host _ _)
passed code host from (message.Ack request) = inl (answered host _ _)
passed code host from (message.Token request token) = inl (answered host _ _)

pub taking_stacks : (code : CodeShape) (host : HostState) (from : HostId) (taken : Message) (outcome : Outcome) →
    IsTaking code host from taken outcome → IsStackStep (message_pushes taken) host.entries outcome.state.entries
taking_stacks code host from taken outcome (true, checked, leaves) =
    subst (λ (out : Outcome). IsStackStep (message_pushes taken) host.entries out.state.entries) leaves
    (passed code host from taken)
taking_stacks code host from taken outcome (false, checked, leaves) =
    inl (ap (λ (out : Outcome). out.state.entries) (sym leaves))
