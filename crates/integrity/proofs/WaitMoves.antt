-- What a step of one host makes of the threads that wait there: a turn adds one at most, and a message ends the wait of
-- one at most, which waits for that number from the host that sends it.
use Rattle.std.proofs.Common.{◌≡◌, ◌∙◌, ℕ, Bool, true, false, List, [], ◌∷◌, Option, Some, None}
use Rattle.std.proofs.Common.{refl, sym, ap, subst}
use Rattle.std.specs.Prelude.{slice_get, remove, position, ◌==◌, if◌then◌else◌}
use Rattle.std.proofs.lemmas.List.Quantifiers.{position-Some}
use Rattle.std.proofs.lemmas.Option.{get_or_from_slice_get}
use Rattle.js_base.specs.declared.ids.HostId.{HostId}
use Rattle.js_base.specs.declared.ids.RequestId.{RequestId}
use Rattle.js_base.specs.declared.ids.EntryId.{EntryId}
use Rattle.js_base.specs.declared.ids.FrameId.{FrameId}
use Rattle.capability.specs.declared.token.Token.{Token}
use Rattle.ics_stack.specs.declared.stack.StackEntry.{StackEntry}
use Rattle.host_code.specs.declared.message.Message.{Message}
use Rattle.host_code.specs.declared.message.Message.TheVariants as message
use Rattle.host_code.specs.Thread.{ThreadShape, WaitingShape, Awaited}
use Rattle.host_code.specs.Thread.Awaited.{value_of_field, acknowledgement, token_of_entry}
use Rattle.host_code.specs.Code.{CodeShape, halt, entry_at}
use Rattle.host_core.specs.Awaiting.{awaits}
use Rattle.host_core.specs.Host.{HostState, Outcome, with_temporary, with_token, after_pop, after_entering}
use Rattle.host_core.specs.Host.{with_variables_set}
use Rattle.host_core.specs.Taking.{IsTaking, after_taking, after_answer, place_of_awaiting}
use Rattle.net_world.proofs.Present.{same_id}
use Rattle.token_laws.specs.Requests.{number_answered}
use Rattle.token_laws.proofs.HostRequests.{request_is, entering_same}
use Rattle.token_laws.proofs.Riding.{riding_is}
use Rattle.token_laws.proofs.Tests.{parts_same, number_same}

-- the thread at a place waits for the answer to this number from this host
pub record WaitsAt (threads : List WaitingShape) (request : RequestId) (from : HostId) (place : ℕ)
    (waiting : WaitingShape) : Type 0 where
  pub there : slice_get threads place ≡ Some waiting
  pub request_is : waiting.request ≡ request
  pub asked_is : waiting.asked ≡ from

pub found_at : (threads : List WaitingShape) (awaited : Awaited) (request : RequestId) (from : HostId) (place : ℕ)
    (waiting : WaitingShape) → position (awaits awaited request from) threads ≡ Some place →
    slice_get threads place ≡ Some waiting → WaitsAt threads request from place waiting
found_at threads awaited request from place waiting is there =
    let passes : awaits awaited request from waiting ≡ true =
    subst (λ (w : WaitingShape). awaits awaited request from w ≡ true)
    (get_or_from_slice_get threads place waiting waiting there)
    (position-Some (awaits awaited request from) threads place waiting is).1 in
    let halves = parts_same _ _ passes in
    record {
      there = there;
      request_is = request_is waiting.request request (parts_same _ _ halves.0).1;
      asked_is = same_id waiting.asked from (number_same waiting.asked.0 from.0 halves.1);
    }

-- The threads that wait after a message was taken: as before, but for one that was answered.
pub data Rewaits (from : HostId) (m : Message) (old new : List WaitingShape) : Type 0 where
  stays : new ≡ old → Rewaits from m old new
  wakes : (request : RequestId) (place : ℕ) →
      ((waiting : WaitingShape) → slice_get old place ≡ Some waiting → WaitsAt old request from place waiting) →
      number_answered m ≡ Some request → new ≡ remove old place → Rewaits from m old new

answered_waiting : (host : HostState) (place : Option ℕ) (answered : ThreadShape → ThreadShape)
    (awaited : Awaited) (request : RequestId) (from : HostId) (m : Message) →
    place_of_awaiting host awaited request from ≡ place → number_answered m ≡ Some request →
    Rewaits from m host.waiting (after_answer host place answered).waiting
answered_waiting host None answered awaited request from m is number = stays refl
answered_waiting host (Some place) answered awaited request from m is number =
    wakes request place (λ waiting there. found_at host.waiting awaited request from place waiting is there) number refl

popped_waiting : (code : CodeShape) (host : HostState) (entry : EntryId) (frame : FrameId) (kept : Token)
    (halts : Bool) → (if halts then record host { running = None; halted = true }
    else after_entering host (entry_at code entry) frame kept).waiting ≡ host.waiting
popped_waiting code host entry frame kept true = refl
popped_waiting code host entry frame kept false = (entering_same host (entry_at code entry) frame kept).waiting

pop_waiting : (code : CodeShape) (host : HostState) (entries : List StackEntry) →
    (after_pop code host entries).waiting ≡ host.waiting
pop_waiting code host [] = refl
pop_waiting code host (top ∷ below) =
    popped_waiting code (record host { entries = below }) top.entry top.frame top.kept (top.entry.0 == halt.0)

takes : (code : CodeShape) (host : HostState) (from : HostId) (m : Message) (passes : Bool) →
    Rewaits from m host.waiting (after_taking code host from m passes).state.waiting
takes code host from m false = stays refl
takes code host from (message.Get request field index) true = stays refl
takes code host from (message.Set request field index value) true = stays refl
takes code host from (message.Forward request frame x value) true = stays refl
takes code host from (message.Sync request frame entry token) true = stays refl
takes code host from (message.Rgoto frame entry token) true =
    stays (entering_same host (entry_at code entry) frame token).waiting
takes code host from (message.RgotoWith frame entry token riders) true =
    stays ((entering_same (with_variables_set host frame riders) (entry_at code entry) frame token).waiting
    ∙ ap (λ (h : HostState). h.waiting) (sym (riding_is host frame riders)))
takes code host from (message.Lgoto token) true = stays (pop_waiting code host host.entries)
takes code host from (message.Value request value) true =
    answered_waiting host _ (with_temporary value) value_of_field request from _ refl refl
takes code host from (message.Ack request) true =
    answered_waiting host _ (λ thread. thread) acknowledgement request from _ refl refl
takes code host from (message.Token request token) true =
    answered_waiting host _ (with_token (Some token)) token_of_entry request from _ refl refl

pub taking_rewaits : (code : CodeShape) (host : HostState) (from : HostId) (m : Message) (outcome : Outcome) →
    IsTaking code host from m outcome → Rewaits from m host.waiting outcome.state.waiting
taking_rewaits code host from m outcome step =
    subst (λ (o : Outcome). Rewaits from m host.waiting o.state.waiting) step.2 (takes code host from m step.0)
