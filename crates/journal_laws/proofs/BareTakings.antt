-- Taking a message does not look at tags, but for the check.
use Rattle.std.proofs.Common.{◌≡◌, ℕ, suc, Bool, true, false, refl, sym, ap, List, [], ◌∷◌}
use Rattle.std.proofs.lemmas.List.{take-map, drop-map, map-append, length-map}
use Rattle.std.proofs.lemmas.Option.{slice_get-map}
use Rattle.std.specs.List.{prefix_len}
use Rattle.std.specs.Prelude.{not, cond, take, drop, ◌+◌, Option, Some, None, map, slice_get, remove, position}
use Rattle.std.specs.Option.{option_map}
use Rattle.js_base.specs.declared.ids.HostId.{HostId}
use Rattle.js_base.specs.declared.ids.RequestId.{RequestId}
use Rattle.host_code.specs.declared.message.Message.{Message}
use Rattle.host_code.specs.declared.message.Message.TheVariants as message
use Rattle.host_code.specs.Thread.{ThreadShape, WaitingShape, Awaited}
use Rattle.host_code.specs.Thread.Awaited.{value_of_field, acknowledgement, token_of_entry}
use Rattle.host_code.specs.Code.{CodeShape, entry_at}
use Rattle.host_code.specs.MessageText.{message_text}
use Rattle.host_core.specs.Awaiting.{awaits}
use Rattle.host_core.specs.Host.{HostState, after_push, with_row_written}
use Rattle.host_core.specs.Host.{with_temporary, with_token, with_variable_set, with_variables_set}
use Rattle.host_core.specs.Taking.{after_taking, after_answer, place_of_awaiting}
use Rattle.journal_laws.specs.Bare.{bare_token, bare_message, bare_thread, bare_waiting, bare_host, bare_outcome}
use Rattle.journal_laws.proofs.BareHosts.{host_twice, held_twice, thread_twice, sends, leaves}
use Rattle.journal_laws.proofs.BareHosts.{running_bare, entering_bare, popped_bare, riders_bare}

-- ---- answers

-- Which thread waits for an answer is not told by its token.
prefix_bare : (awaited : Awaited) (request : RequestId) (from : HostId) (waiting : List WaitingShape) →
    prefix_len (λ one. not (awaits awaited request from one)) (map bare_waiting waiting)
    ≡ prefix_len (λ one. not (awaits awaited request from one)) waiting
prefix_bare awaited request from [] = refl
prefix_bare awaited request from (first ∷ others) =
    ap (λ count. cond (not (awaits awaited request from first)) (1 + count) 0) (prefix_bare awaited request from others)

pub position_bare : (awaited : Awaited) (request : RequestId) (from : HostId) (waiting : List WaitingShape) →
    position (awaits awaited request from) (map bare_waiting waiting) ≡ position (awaits awaited request from) waiting
position_bare awaited request from waiting =
    rw (prefix_bare awaited request from waiting) (rw (length-map waiting bare_waiting) refl)

pub remove_map : {X Y : Type 0} (f : X → Y) (xs : List X) (place : ℕ) →
    remove (map f xs) place ≡ map f (remove xs place)
remove_map f xs place =
    rw (take-map f place xs) (rw (drop-map f (suc place) xs) (sym (map-append f (take place xs) (drop (suc place) xs))))

woken_bare : (other answered : ThreadShape → ThreadShape) →
    ((thread : ThreadShape) → bare_thread (other (bare_thread thread)) ≡ bare_thread (answered thread)) →
    (found : Option WaitingShape) →
    option_map bare_thread (option_map (λ waiting. other waiting.thread) (option_map bare_waiting found))
    ≡ option_map bare_thread (option_map (λ waiting. answered waiting.thread) found)
woken_bare other answered same None = refl
woken_bare other answered same (Some waiting) = ap Some (same waiting.thread)

answer_bare : (host : HostState) (place : Option ℕ) (other answered : ThreadShape → ThreadShape) →
    ((thread : ThreadShape) → bare_thread (other (bare_thread thread)) ≡ bare_thread (answered thread)) →
    bare_host (after_answer (bare_host host) place other) ≡ bare_host (after_answer host place answered)
answer_bare host None other answered same = host_twice host
answer_bare host (Some place) other answered same =
    rw (slice_get-map bare_waiting host.waiting place)
    (rw (remove_map bare_waiting host.waiting place)
    (running_bare (record host { waiting = remove host.waiting place })
    (option_map (λ waiting. other waiting.thread) (option_map bare_waiting (slice_get host.waiting place)))
    (option_map (λ waiting. answered waiting.thread) (slice_get host.waiting place))
    (woken_bare other answered same (slice_get host.waiting place))))

answered_bare : (host : HostState) (awaited : Awaited) (request : RequestId) (from : HostId)
    (other answered : ThreadShape → ThreadShape) →
    ((thread : ThreadShape) → bare_thread (other (bare_thread thread)) ≡ bare_thread (answered thread)) →
    bare_host (after_answer (bare_host host) (place_of_awaiting (bare_host host) awaited request from) other)
    ≡ bare_host (after_answer host (place_of_awaiting host awaited request from) answered)
answered_bare host awaited request from other answered same =
    rw (position_bare awaited request from host.waiting)
    (answer_bare host (place_of_awaiting host awaited request from) other answered same)

-- ---- messages

pub takes_bare : (code : CodeShape) (host : HostState) (from : HostId) (message : Message) (passes : Bool) →
    bare_outcome (after_taking code (bare_host host) from (bare_message message) passes)
    ≡ bare_outcome (after_taking code host from message passes)
takes_bare code host from message false = leaves (host_twice host)
takes_bare code host from (message.Get request field index) true = sends (host_twice host) refl
takes_bare code host from (message.Set request field index value) true =
    sends (host_twice (with_row_written host field index value)) refl
takes_bare code host from (message.Forward request frame variable value) true =
    sends (host_twice (with_variable_set host frame variable value)) refl
takes_bare code host from (message.Sync request frame entry token) true =
    sends (host_twice (after_push host entry frame token)) refl
takes_bare code host from (message.Rgoto frame entry token) true =
    leaves (entering_bare host (entry_at code entry) frame token)
takes_bare code host from (message.RgotoWith frame entry token riders) true =
    rw (riders_bare host frame riders)
    (leaves (entering_bare (with_variables_set host frame riders) (entry_at code entry) frame token))
takes_bare code host from (message.Lgoto token) true = leaves (popped_bare code host host.entries)
takes_bare code host from (message.Value request value) true =
    leaves (answered_bare host value_of_field request from (with_temporary value) (with_temporary value)
    (λ thread. rw (held_twice thread.held) refl))
takes_bare code host from (message.Ack request) true =
    leaves (answered_bare host acknowledgement request from (λ thread. thread) (λ thread. thread) thread_twice)
takes_bare code host from (message.Token request token) true =
    leaves (answered_bare host token_of_entry request from (with_token (Some (bare_token token)))
    (with_token (Some token)) (λ thread. refl))

-- a message is printed as without its tag
pub printed_bare : (code : CodeShape) (letter : Message) →
    message_text code (bare_message letter) ≡ message_text code letter
printed_bare code (message.Get request field index) = refl
printed_bare code (message.Set request field index value) = refl
printed_bare code (message.Forward request frame variable value) = refl
printed_bare code (message.Sync request frame entry token) = refl
printed_bare code (message.Rgoto frame entry token) = refl
printed_bare code (message.RgotoWith frame entry token riders) = refl
printed_bare code (message.Lgoto token) = refl
printed_bare code (message.Value request value) = refl
printed_bare code (message.Ack request) = refl
printed_bare code (message.Token request token) = refl
