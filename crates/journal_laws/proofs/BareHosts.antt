-- What is bare is the same once more, and changes of a bare host are those of the host.
--
-- A change of what has no tag, as of a row or a variable, makes of a bare host the bare one of the changed host: both
-- are the same by computation. So `host_twice` of the changed host tells what is left.
use Rattle.std.proofs.Common.{◌≡◌, ◌∙◌, Bool, true, false, refl, ap, List, [], ◌∷◌, ◌++◌}
use Rattle.std.specs.Prelude.{◌==◌, Option, Some, None, map, slice_index, slice_set, ◌+◌, ℕ, if◌then◌else◌}
use Rattle.std.specs.Option.{option_map}
use Rattle.js_base.specs.declared.ids.HostId.{HostId}
use Rattle.js_base.specs.declared.ids.FrameId.{FrameId}
use Rattle.capability.specs.declared.token.Token.{Token}
use Rattle.ics_stack.specs.declared.stack.StackEntry.{StackEntry}
use Rattle.host_code.specs.declared.code.Entry.{Entry}
use Rattle.host_code.specs.declared.message.Message.{Message}
use Rattle.host_code.specs.Riders.{Rider}
use Rattle.host_code.specs.Thread.{ThreadShape, WaitingShape, Awaited}
use Rattle.host_code.specs.Code.{CodeShape, entry_at, halt}
use Rattle.host_core.specs.Host.{HostState, Outcome, after_asking, after_entering, after_pop, next_request}
use Rattle.host_core.specs.Host.{thread_at, with_running, with_variable_set, with_variables_set}
use Rattle.journal_laws.specs.Bare.{bare_token, bare_thread, bare_waiting, bare_entry, bare_host}

-- ---- once more

map_twice : {X : Type 0} (f : X → X) → ((x : X) → f (f x) ≡ f x) → (xs : List X) → map f (map f xs) ≡ map f xs
map_twice f same [] = refl
map_twice f same (x ∷ xs) = rw (same x) (rw (map_twice f same xs) refl)

pub held_twice : (held : Option Token) → option_map bare_token (option_map bare_token held) ≡ option_map bare_token held
held_twice None = refl
held_twice (Some held) = refl

pub thread_twice : (thread : ThreadShape) → bare_thread (bare_thread thread) ≡ bare_thread thread
thread_twice thread = rw (held_twice thread.held) refl

running_twice : (running : Option ThreadShape) →
    option_map bare_thread (option_map bare_thread running) ≡ option_map bare_thread running
running_twice None = refl
running_twice (Some thread) = ap Some (thread_twice thread)

waiting_twice : (waiting : WaitingShape) → bare_waiting (bare_waiting waiting) ≡ bare_waiting waiting
waiting_twice waiting = rw (thread_twice waiting.thread) refl

pub host_twice : (host : HostState) → bare_host (bare_host host) ≡ bare_host host
host_twice host =
    rw (running_twice host.running)
    (rw (map_twice bare_waiting waiting_twice host.waiting)
    (rw (map_twice bare_entry (λ entry. refl) host.entries) refl))

-- ---- what a host leaves and sends

abbrev leaving : HostState → Option (HostId × Message) → Outcome
leaving state sent = record { state = state; sent = sent }

pub sends : {other one : HostState} {sent told : Option (HostId × Message)} → other ≡ one → sent ≡ told →
    leaving other sent ≡ leaving one told
sends {other} {one} {sent} {told} same alike = ap (λ state. leaving state sent) same ∙ ap (leaving one) alike

pub leaves : {other one : HostState} → other ≡ one → leaving other None ≡ leaving one None
leaves same = ap (λ state. leaving state None) same

-- ---- threads

pub running_bare : (host : HostState) (other one : Option ThreadShape) →
    option_map bare_thread other ≡ option_map bare_thread one →
    bare_host (with_running (bare_host host) other) ≡ bare_host (with_running host one)
running_bare host other one same =
    let runs : HostState → Option ThreadShape → HostState = λ host running. record host { running = running } in
    ap (λ host. runs host (option_map bare_thread other)) (host_twice host) ∙ ap (runs (bare_host host)) same

-- a thread more that waits
appended_bare : (waiting : List WaitingShape) (other one : WaitingShape) → bare_waiting other ≡ bare_waiting one →
    map bare_waiting (map bare_waiting waiting ++ other ∷ []) ≡ map bare_waiting (waiting ++ one ∷ [])
appended_bare [] other one same = ap (λ waiting. waiting ∷ []) same
appended_bare (first ∷ waiting) other one same =
    rw (waiting_twice first) (ap (λ waiting. bare_waiting first ∷ waiting) (appended_bare waiting other one same))

pub asking_bare : (host : HostState) (at : ℕ) (other one : ThreadShape) (awaited : Awaited) (asked : HostId) →
    bare_thread other ≡ bare_thread one →
    bare_host (after_asking (bare_host host) at other awaited asked)
    ≡ bare_host (after_asking host at one awaited asked)
asking_bare host at other one awaited asked same =
    let waits : ThreadShape → WaitingShape =
    λ thread. record { thread = thread; awaited = awaited; request = next_request host at; asked = asked } in
    let asks : HostState → List WaitingShape → HostState = λ after waiting. record after {
      running = None;
      waiting = waiting;
      requests = slice_set host.requests at (slice_index host.requests at + 1);
    } in
    ap (λ after. asks after (map bare_waiting (map bare_waiting host.waiting ++ waits other ∷ []))) (host_twice host)
    ∙ ap (asks (bare_host host)) (appended_bare host.waiting (waits other) (waits one) (ap waits same))

pub entering_bare : (host : HostState) (found : Option Entry) (frame : FrameId) (token : Token) →
    bare_host (after_entering (bare_host host) found frame (bare_token token))
    ≡ bare_host (after_entering host found frame token)
entering_bare host None frame token = running_bare host None None refl
entering_bare host (Some entry) frame token =
    running_bare host (Some (thread_at entry frame (bare_token token))) (Some (thread_at entry frame token)) refl

-- ---- the stack and the variables

pub popped_bare : (code : CodeShape) (host : HostState) (entries : List StackEntry) →
    bare_host (after_pop code (bare_host host) (map bare_entry entries)) ≡ bare_host (after_pop code host entries)
popped_bare code host [] = host_twice host
popped_bare code host (top ∷ below) = by (top.entry.0 == halt.0)
  where
    left : HostState
    left = record host { entries = below }

    by : (ends : Bool) →
        bare_host (if ends
        then record (bare_host left) { running = None; halted = true }
        else after_entering (bare_host left) (entry_at code top.entry) top.frame (bare_token top.kept))
        ≡ bare_host (if ends
        then record left { running = None; halted = true }
        else after_entering left (entry_at code top.entry) top.frame top.kept)
    by true = running_bare left None None refl
    by false = entering_bare left (entry_at code top.entry) top.frame top.kept

pub riders_bare : (host : HostState) (frame : FrameId) (riders : List Rider) →
    with_variables_set (bare_host host) frame riders ≡ bare_host (with_variables_set host frame riders)
riders_bare host frame [] = refl
riders_bare host frame (rider ∷ riders) = riders_bare (with_variable_set host frame rider.0 rider.1) frame riders
