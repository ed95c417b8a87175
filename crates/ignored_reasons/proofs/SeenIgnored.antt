-- A message that passes leaves the count of those that were ignored, and one that does not adds one to it.
use Rattle.std.proofs.Common.{◌≡◌, ◌∙◌, ℕ, ◌+◌, Bool, true, false, List, [], ◌∷◌, Option, Some, None, ap, sym, refl}
use Rattle.std.proofs.Common.{arith}
use Rattle.std.specs.Prelude.{◌↔◌, ◌==◌, if◌then◌else◌}
use Rattle.js_base.specs.declared.ids.HostId.{HostId}
use Rattle.js_base.specs.declared.ids.FrameId.{FrameId}
use Rattle.js_base.specs.declared.ids.EntryId.{EntryId}
use Rattle.capability.specs.declared.token.Token.{Token}
use Rattle.ics_stack.specs.declared.stack.StackEntry.{StackEntry}
use Rattle.host_code.specs.declared.code.Entry.{Entry}
use Rattle.host_code.specs.declared.message.Message.{Message}
use Rattle.host_code.specs.declared.message.Message.TheVariants as message
use Rattle.host_code.specs.Riders.{Rider}
use Rattle.host_code.specs.Thread.{ThreadShape}
use Rattle.host_code.specs.Code.{CodeShape, halt, entry_at}
use Rattle.host_core.specs.Host.{HostState, Outcome, after_entering, after_pop, with_variables_set}
use Rattle.host_core.specs.Host.{with_variable_set}
use Rattle.host_core.specs.Taking.{PassesCheck, IsTaking, after_answer, after_passing}

entered : (host : HostState) (entry : Option Entry) (frame : FrameId) (token : Token) →
    (after_entering host entry frame token).ignored ≡ host.ignored
entered host None frame token = refl
entered host (Some entry) frame token = refl

popped : (code : CodeShape) (host : HostState) (entry : EntryId) (frame : FrameId) (kept : Token) (ends : Bool) →
    (if ends then record host { running = None; halted = true }
    else after_entering host (entry_at code entry) frame kept).ignored ≡ host.ignored
popped code host entry frame kept true = refl
popped code host entry frame kept false = entered host (entry_at code entry) frame kept

taken_off : (code : CodeShape) (host : HostState) (entries : List StackEntry) →
    (after_pop code host entries).ignored ≡ host.ignored
taken_off code host [] = refl
taken_off code host (top ∷ below) =
    popped code (record host { entries = below }) top.entry top.frame top.kept (top.entry.0 == halt.0)

variables_set : (host : HostState) (frame : FrameId) (riders : List Rider) →
    (with_variables_set host frame riders).ignored ≡ host.ignored
variables_set host frame [] = refl
variables_set host frame (rider ∷ riders) =
    variables_set (with_variable_set host frame rider.0 rider.1) frame riders

answered : (host : HostState) (place : Option ℕ) (after : ThreadShape → ThreadShape) →
    (after_answer host place after).ignored ≡ host.ignored
answered host None after = refl
answered host (Some place) after = refl

passed : (code : CodeShape) (host : HostState) (from : HostId) (taken : Message) →
    (after_passing code host from taken).state.ignored ≡ host.ignored
passed code host from (message.Get request field index) = refl
passed code host from (message.Set request field index value) = refl
passed code host from (message.Forward request frame variable value) = refl
passed code host from (message.Sync request frame entry token) = refl
passed code host from (message.Rgoto frame entry token) = entered host (entry_at code entry) frame token
passed code host from (message.RgotoWith frame entry token riders) =
    entered (with_variables_set host frame riders) (entry_at code entry) frame token ∙ variables_set host frame riders
passed code host from (message.Lgoto token) = taken_off code host host.entries
passed code host from (message.Value request value) = answered host _ _
passed code host from (message.Ack request) = answered host _ _
passed code host from (message.Token request token) = answered host _ _

pub seen : (code : CodeShape) (host : HostState) (from : HostId) (taken : Message) (outcome : Outcome) →
    IsTaking code host from taken outcome →
    ((outcome.state.ignored ≡ host.ignored) ↔ PassesCheck code host from taken)
seen code host from taken outcome (true, checked, leaves) = (
  λ same. checked.0 refl,
  λ passes. ap (λ (out : Outcome). out.state.ignored) (sym leaves) ∙ passed code host from taken,
)
seen code host from taken outcome (false, checked, leaves) =
    let counted : host.ignored + 1 ≡ outcome.state.ignored = ap (λ (out : Outcome). out.state.ignored) leaves in
    (λ same. absurd (omega (arith, counted, same)), λ passes. absurd (cc (checked.1 passes)))
