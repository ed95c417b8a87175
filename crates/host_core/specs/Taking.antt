-- What a host does with a message from another host, while no thread runs: a check, a change and an answer for each
-- message.
--
-- A step of a host takes whether its check passes. The table is a function of the state, the message and one truth
-- value, and a second definition says when that value is true. So a row reads as it stands in the table, and a check
-- that is a relation, as on labels, needs no function.
use Rattle.std.specs.Prelude.{◌≡◌, ℕ, ◌↔◌, Bool, if◌then◌else◌, IsTrue}
use Rattle.std.specs.Prelude.{Option, Some, None, IsSome, slice_get, position, remove}
use Rattle.std.specs.Option.{option_map}
use Rattle.js_base.specs.declared.ids.HostId.{HostId}
use Rattle.js_base.specs.declared.ids.RequestId.{RequestId}
use Rattle.jif_tree.specs.Store.{row_of, element_at}
use Rattle.ics_stack.specs.Stack.{top_token}
use Rattle.host_code.specs.declared.message.Message.{Message}
use Rattle.host_code.specs.declared.message.Message.TheVariants as message
use Rattle.host_code.specs.Thread.{ThreadShape, Awaited}
use Rattle.host_code.specs.Thread.Awaited.{value_of_field, acknowledgement, token_of_entry}
use Rattle.host_code.specs.Riders.{names_of}
use Rattle.host_code.specs.Code.{CodeShape, entry_at}
use Rattle.entry_check.specs.declared.ask.Ask.TheVariants as ask
use Rattle.entry_check.specs.Checks.{May, MayRide}
use Rattle.host_core.specs.Awaiting.{awaits}
use Rattle.host_core.specs.Host.{HostState, Outcome, without_message, with_message, with_one_ignored, with_row_written}
use Rattle.host_core.specs.Host.{with_variable_set, with_variables_set}
use Rattle.host_core.specs.Host.{new_token, after_push, after_entering, after_pop, with_temporary, with_token}

-- ---- the checks

-- the place of the thread that waits for such an answer to this request from this host
abbrev pub place_of_awaiting : HostState → Awaited → RequestId → HostId → Option ℕ
place_of_awaiting host awaited request from = position (awaits awaited request from) host.waiting

abbrev pub PassesCheck : CodeShape → HostState → HostId → Message → Type 0
PassesCheck code host from (message.Get request field index) = May code host.me (ask.Get field) from
PassesCheck code host from (message.Set request field index value) = May code host.me (ask.Set field) from
PassesCheck code host from (message.Forward request frame variable value) = May code host.me (ask.Forward variable) from
PassesCheck code host from (message.Sync request frame entry token) = May code host.me (ask.Enter entry) from
PassesCheck code host from (message.Rgoto frame entry token) = May code host.me (ask.Enter entry) from
PassesCheck code host from (message.RgotoWith frame entry token riders) =
    May code host.me (ask.Enter entry) from × MayRide code host.me from (names_of riders)
PassesCheck code host from (message.Lgoto token) = top_token host.entries ≡ Some token
PassesCheck code host from (message.Value request value) = IsSome (place_of_awaiting host value_of_field request from)
PassesCheck code host from (message.Ack request) = IsSome (place_of_awaiting host acknowledgement request from)
PassesCheck code host from (message.Token request token) = IsSome (place_of_awaiting host token_of_entry request from)

-- ---- the changes and answers

-- the thread that waits at this place runs again, as it is after the answer
abbrev pub after_answer : HostState → Option ℕ → (ThreadShape → ThreadShape) → HostState
after_answer host None answered = host
after_answer host (Some place) answered =
    record host {
      running = option_map (λ waiting. answered waiting.thread) (slice_get host.waiting place);
      waiting = remove host.waiting place;
    }

-- what a message does that passes its check
abbrev pub after_passing : CodeShape → HostState → HostId → Message → Outcome
after_passing code host from (message.Get request field index) =
    with_message host from (message.Value request (element_at (row_of host.rows field.0) index))
after_passing code host from (message.Set request field index value) =
    with_message (with_row_written host field index value) from (message.Ack request)
after_passing code host from (message.Forward request frame variable value) =
    with_message (with_variable_set host frame variable value) from (message.Ack request)
after_passing code host from (message.Sync request frame entry token) =
    with_message (after_push host entry frame token) from (message.Token request (new_token host entry frame))
after_passing code host from (message.Rgoto frame entry token) =
    without_message (after_entering host (entry_at code entry) frame token)
after_passing code host from (message.RgotoWith frame entry token riders) =
    without_message (after_entering (with_variables_set host frame riders) (entry_at code entry) frame token)
after_passing code host from (message.Lgoto token) = without_message (after_pop code host host.entries)
after_passing code host from (message.Value request value) =
    without_message (after_answer host (place_of_awaiting host value_of_field request from) (with_temporary value))
after_passing code host from (message.Ack request) =
    without_message (after_answer host (place_of_awaiting host acknowledgement request from) (λ thread. thread))
after_passing code host from (message.Token request token) =
    without_message (after_answer host (place_of_awaiting host token_of_entry request from) (with_token (Some token)))

-- What taking a message leaves, where its check passes or fails. A failed check counts one more message as ignored, and
-- does nothing else.
abbrev pub after_taking : CodeShape → HostState → HostId → Message → Bool → Outcome
after_taking code host from message passes =
    if passes then after_passing code host from message else without_message (with_one_ignored host)

-- this is what taking the message leaves and sends
abbrev pub IsTaking : CodeShape → HostState → HostId → Message → Outcome → Type 0
IsTaking code host from message outcome =
    (passes : Bool) × (IsTrue passes ↔ PassesCheck code host from message)
    × (after_taking code host from message passes ≡ outcome)
