-- What a step of one host makes of requests: a turn makes one at most, and its thread waits for the answer; a message
-- is answered once, and ends one wait for it at most.
use Rattle.std.proofs.Common.{◌≡◌, ◌∙◌, ◌⊎◌, ℕ, ◌+◌, ◌<◌, ◌≤◌, inl, inr, Bool, true, false, List, [], ◌∷◌}
use Rattle.std.proofs.Common.{◌++◌, length, refl, sym, ap, subst, arith, Option, Some, None}
use Rattle.std.specs.Prelude.{if◌then◌else◌, ◌==◌, ◌&&◌, slice_get, slice_set, slice_index, remove, sum_by}
use Rattle.std.specs.Prelude.{position}
use Rattle.std.proofs.lemmas.List.Quantifiers.{position-Some}
use Rattle.std.proofs.lemmas.Option.{slice_get_within, get_or_from_slice_get}
use Rattle.js_base.specs.declared.ids.HostId.{HostId}
use Rattle.js_base.specs.declared.ids.FieldId.{FieldId}
use Rattle.js_base.specs.declared.ids.EntryId.{EntryId}
use Rattle.js_base.specs.declared.ids.FrameId.{FrameId}
use Rattle.js_base.specs.declared.ids.VarId.{VarId}
use Rattle.js_base.specs.declared.ids.RequestId.{RequestId}
use Rattle.capability.specs.declared.token.Token.{Token}
use Rattle.ics_stack.specs.declared.stack.StackEntry.{StackEntry}
use Rattle.host_code.specs.declared.code.Entry.{Entry}
use Rattle.host_code.specs.declared.code_expr.Node.{Node}
use Rattle.host_code.specs.declared.instruction.Instr.{Instr}
use Rattle.host_code.specs.declared.instruction.Op.{Op}
use Rattle.host_code.specs.declared.instruction.Op.TheVariants as op
use Rattle.host_code.specs.declared.message.Message.{Message}
use Rattle.host_code.specs.declared.message.Message.TheVariants as message
use Rattle.host_code.specs.Thread.{ThreadShape, WaitingShape, Awaited}
use Rattle.host_code.specs.Thread.Awaited.{value_of_field, acknowledgement, token_of_entry}
use Rattle.host_code.specs.Code.{CodeShape, CodeFieldShape, halt, field_at, entry_at, instruction_at}
use Rattle.host_core.specs.Awaiting.{awaits}
use Rattle.host_core.specs.Fits.{StateFits}
use Rattle.host_core.proofs.Kept.{kept_at_rest}
use Rattle.host_core.specs.Host.{HostState, Outcome, with_running, with_one_ignored, with_token, with_temporary}
use Rattle.host_core.specs.Host.{after_pop, after_entering, after_asking, next_request, without_message}
use Rattle.host_core.specs.Host.{with_variables_set}
use Rattle.host_core.specs.Taking.{IsTaking, after_taking, after_answer, place_of_awaiting}
use Rattle.host_core.specs.Turn.{IsTurn, IsTurnOf, IsRunning, after_operation, after_read, after_put, after_own_push}
use Rattle.host_core.specs.Turn.{after_ask, after_go, after_go_with, after_own_call, after_return, after_back}
use Rattle.host_core.specs.Turn.{with_thread}
use Rattle.token_laws.proofs.Counting.{one_if}
use Rattle.token_laws.proofs.Counting.{is_request, asks, answers, waiting_for_from}
use Rattle.token_laws.proofs.Riding.{riding_is}
use Rattle.token_laws.proofs.Sums.{removed_le, removed_at, removed_none}
use Rattle.token_laws.proofs.Tests.{parts_same, number_same, either_way}

-- how many messages of a kind are sent
abbrev pub letters : (Message → Bool) → Option (HostId × Message) → ℕ
letters kind None = 0
letters kind (Some letter) = one_if (kind letter.1)

-- ---- a turn

-- nothing is asked
pub record IsQuiet (old : HostState) (outcome : Outcome) : Type 0 where
  pub waiting : outcome.state.waiting ≡ old.waiting
  pub requests : outcome.state.requests ≡ old.requests
  pub asks : (request : RequestId) → letters (asks request) outcome.sent ≡ 0
  pub answers : (request : RequestId) → letters (answers request) outcome.sent ≡ 0

-- the instruction at a place sends its next request, and its thread waits for the answer
pub record Requests (old : HostState) (outcome : Outcome) : Type 0 where
  pub at : ℕ
  pub within : at < length old.requests
  pub to : HostId
  pub message : Message
  pub thread : WaitingShape
  pub sent : outcome.sent ≡ Some (to, message)
  pub waiting : outcome.state.waiting ≡ old.waiting ++ thread ∷ []
  pub requests : outcome.state.requests ≡ slice_set old.requests at (slice_index old.requests at + 1)
  pub number : thread.request ≡ next_request old at
  pub asked : thread.asked ≡ to
  pub asks : (request : RequestId) → asks request message ≡ is_request (next_request old at) request
  pub answers : (request : RequestId) → answers request message ≡ false

abbrev pub Turns : HostState → Outcome → Type 0
Turns old outcome = IsQuiet old outcome ⊎ Requests old outcome

either : (b : Bool) (old : HostState) (first second : Outcome) → Turns old first → Turns old second →
    Turns old (if b then first else second)
either true old first second one other = one
either false old first second one other = other

goes_on : (host : HostState) (thread : ThreadShape) → Turns host (with_thread host thread)
goes_on host thread =
    inl (record { waiting = refl; requests = refl; asks = λ request. refl; answers = λ request. refl })

requests : (host : HostState) (at : ℕ) (thread : ThreadShape) (awaited : Awaited) (to : HostId) (m : Message) →
    at < length host.requests →
    ((request : RequestId) → asks request m ≡ is_request (next_request host at) request) →
    ((request : RequestId) → answers request m ≡ false) →
    Turns host (record { state = after_asking host at thread awaited to; sent = Some (to, m) })
requests host at thread awaited to m within is_asked no_answer =
    inr (record {
      at = at;
      within = within;
      to = to;
      message = m;
      thread = record { thread = thread; awaited = awaited; request = next_request host at; asked = to };
      sent = refl;
      waiting = refl;
      requests = refl;
      number = refl;
      asked = refl;
      asks = is_asked;
      answers = no_answer;
    })

-- an entry that is taken off changes neither
pub record IsSame (old state : HostState) : Type 0 where
  pub waiting : state.waiting ≡ old.waiting
  pub requests : state.requests ≡ old.requests

pub entering_same : (host : HostState) (there : Option Entry) (frame : FrameId) (token : Token) →
    IsSame host (after_entering host there frame token)
entering_same host None frame token = record { waiting = refl; requests = refl }
entering_same host (Some entry) frame token = record { waiting = refl; requests = refl }

popped_same : (code : CodeShape) (host : HostState) (entry : EntryId) (frame : FrameId) (kept : Token)
    (halts : Bool) → IsSame host (if halts then record host { running = None; halted = true }
    else after_entering host (entry_at code entry) frame kept)
popped_same code host entry frame kept true = record { waiting = refl; requests = refl }
popped_same code host entry frame kept false = entering_same host (entry_at code entry) frame kept

pop_same : (code : CodeShape) (host : HostState) (entries : List StackEntry) →
    IsSame host (after_pop code host entries)
pop_same code host [] = record { waiting = refl; requests = refl }
pop_same code host (top ∷ below) =
    let same =
    popped_same code (record host { entries = below }) top.entry top.frame top.kept (top.entry.0 == halt.0) in
    record { waiting = same.waiting; requests = same.requests }

reads : (host : HostState) (thread : ThreadShape) (field : FieldId) (index : List Node)
    (there : Option CodeFieldShape) →
    thread.at < length host.requests → Turns host (after_read host thread field index there)
reads host thread field index None within = goes_on host thread
reads host thread field index (Some there) within =
    either (there.host.0 == host.me.0) host _ _ (goes_on host _)
    (requests host thread.at _ value_of_field there.host _ within (λ request. refl) (λ request. refl))

puts : (host : HostState) (thread : ThreadShape) (field : FieldId) (index value : List Node)
    (there : Option CodeFieldShape) → thread.at < length host.requests →
    Turns host (after_put host thread field index value there)
puts host thread field index value None within = goes_on host thread
puts host thread field index value (Some there) within =
    either (there.host.0 == host.me.0) host _ _
    (inl (record { waiting = refl; requests = refl; asks = λ request. refl; answers = λ request. refl }))
    (requests host thread.at _ acknowledgement there.host _ within (λ request. refl) (λ request. refl))

pushes : (host : HostState) (thread : ThreadShape) (entry : EntryId) (held : Option Token) →
    Turns host (after_own_push host thread entry held)
pushes host thread entry None = goes_on host thread
pushes host thread entry (Some held) =
    inl (record { waiting = refl; requests = refl; asks = λ request. refl; answers = λ request. refl })

asks_for : (host : HostState) (thread : ThreadShape) (entry : EntryId) (on : HostId) (held : Option Token) →
    thread.at < length host.requests → Turns host (after_ask host thread entry on held)
asks_for host thread entry on None within = goes_on host thread
asks_for host thread entry on (Some held) within =
    requests host thread.at _ token_of_entry on _ within (λ request. refl) (λ request. refl)

goes : (host : HostState) (thread : ThreadShape) (frame : FrameId) (entry : EntryId) (on : HostId)
    (held : Option Token) → Turns host (after_go host thread frame entry on held)
goes host thread frame entry on None = goes_on host thread
goes host thread frame entry on (Some held) =
    inl (record { waiting = refl; requests = refl; asks = λ request. refl; answers = λ request. refl })

goes_with : (host : HostState) (thread : ThreadShape) (frame : FrameId) (entry : EntryId) (on : HostId)
    (riders : List VarId) (held : Option Token) → Turns host (after_go_with host thread frame entry on riders held)
goes_with host thread frame entry on riders None = goes_on host thread
goes_with host thread frame entry on riders (Some held) =
    inl (record { waiting = refl; requests = refl; asks = λ request. refl; answers = λ request. refl })

calls_own : (host : HostState) (thread : ThreadShape) (there : Option Entry) →
    Turns host (after_own_call host thread there)
calls_own host thread None = goes_on host thread
calls_own host thread (Some there) = goes_on host _

gives_result : (host : HostState) (thread : ThreadShape) (variable : VarId) (value : List Node) (held : Option Token)
    (passes : Bool) → thread.at < length host.requests →
    Turns host (after_return host thread variable value held passes)
gives_result host thread variable value None passes within = goes_on host thread
gives_result host thread variable value (Some held) passes within =
    either (held.host.0 == host.me.0) host _ _
    (inl (record { waiting = refl; requests = refl; asks = λ request. refl; answers = λ request. refl }))
    (either passes host _ _
    (requests host thread.at _ acknowledgement held.host _ within (λ request. refl) (λ request. refl))
    (goes_on host _))

gives_back_here : (code : CodeShape) (host : HostState) (passes : Bool) →
    Turns host (without_message (if passes
    then after_pop code (with_running host None) host.entries
    else with_one_ignored (with_running host None)))
gives_back_here code host true =
    let same = pop_same code (with_running host None) host.entries in
    inl (record {
      waiting = same.waiting;
      requests = same.requests;
      asks = λ request. refl;
      answers = λ request. refl;
    })
gives_back_here code host false =
    inl (record { waiting = refl; requests = refl; asks = λ request. refl; answers = λ request. refl })

gives_back : (code : CodeShape) (host : HostState) (thread : ThreadShape) (held : Option Token) (passes : Bool) →
    Turns host (after_back code host thread held passes)
gives_back code host thread None passes = goes_on host thread
gives_back code host thread (Some held) passes =
    either (held.host.0 == host.me.0) host _ _ (gives_back_here code host passes)
    (inl (record { waiting = refl; requests = refl; asks = λ request. refl; answers = λ request. refl }))

operation : (code : CodeShape) (host : HostState) (thread : ThreadShape) (operation : Op) (passes : Bool) →
    thread.at < length host.requests → Turns host (after_operation code host thread operation passes)
operation code host thread (op.Read field index) passes within =
    reads host thread field index (field_at code field) within
operation code host thread (op.Let variable value) passes within =
    inl (record { waiting = refl; requests = refl; asks = λ request. refl; answers = λ request. refl })
operation code host thread (op.Put field index value) passes within =
    puts host thread field index value (field_at code field) within
operation code host thread (op.Send variable to) passes within =
    requests host thread.at _ acknowledgement to _ within (λ request. refl) (λ request. refl)
operation code host thread (op.Frame site) passes within =
    inl (record { waiting = refl; requests = refl; asks = λ request. refl; answers = λ request. refl })
operation code host thread (op.Arg variable value) passes within =
    inl (record { waiting = refl; requests = refl; asks = λ request. refl; answers = λ request. refl })
operation code host thread (op.Pass variable to) passes within =
    requests host thread.at _ acknowledgement to _ within (λ request. refl) (λ request. refl)
operation code host thread (op.Push entry) passes within = pushes host thread entry thread.held
operation code host thread (op.Ask entry on) passes within = asks_for host thread entry on thread.held within
operation code host thread (op.Go entry on) passes within = goes host thread thread.frame entry on thread.held
operation code host thread (op.Call entry on) passes within =
    either (on.0 == host.me.0) host _ _ (calls_own host thread (entry_at code entry))
    (goes host thread thread.new_frame entry on thread.held)
operation code host thread (op.Ret variable value) passes within =
    gives_result host thread variable value thread.held passes within
operation code host thread op.Back passes within = gives_back code host thread thread.held passes
operation code host thread (op.Branch guard target) passes within =
    either _ host _ _ (goes_on host _) (goes_on host _)
operation code host thread (op.GoWith entry on riders) passes within =
    goes_with host thread thread.frame entry on riders thread.held
operation code host thread (op.CallWith entry on riders) passes within =
    goes_with host thread thread.new_frame entry on riders thread.held

running_turns : (code : CodeShape) (host : HostState) (thread : ThreadShape) (there : Option Instr)
    (outcome : Outcome) → StateFits code host → instruction_at code host.me thread.at ≡ there →
    IsRunning code host thread there outcome → Turns host outcome
running_turns code host thread None outcome fits is runs = subst (Turns host) runs (goes_on host thread)
running_turns code host thread (Some instruction) outcome fits is runs =
    subst (Turns host) runs.2
    (operation code host thread instruction.op runs.0
    (subst (λ (n : ℕ). thread.at < n) (sym fits.requests) (slice_get_within _ thread.at instruction is)))

-- what a host at rest has of requests, the host has
rested : (host : HostState) (outcome : Outcome) → Turns (with_running host None) outcome → Turns host outcome
rested host outcome (inl quiet) =
    inl (record {
      waiting = quiet.waiting;
      requests = quiet.requests;
      asks = quiet.asks;
      answers = quiet.answers;
    })
rested host outcome (inr one) =
    inr (record {
      at = one.at;
      within = one.within;
      to = one.to;
      message = one.message;
      thread = one.thread;
      sent = one.sent;
      waiting = one.waiting;
      requests = one.requests;
      number = one.number;
      asked = one.asked;
      asks = one.asks;
      answers = one.answers;
    })

turn_of : (code : CodeShape) (host : HostState) (running : Option ThreadShape) (outcome : Outcome) →
    StateFits code host → IsTurnOf code host running outcome → Turns host outcome
turn_of code host None outcome fits turns =
    subst (Turns host) turns
    (inl (record { waiting = refl; requests = refl; asks = λ request. refl; answers = λ request. refl }))
turn_of code host (Some thread) outcome fits turns =
    rested host outcome
    (running_turns code (with_running host None) thread (instruction_at code host.me thread.at) outcome
    (kept_at_rest code host fits) refl turns)

pub turn_requests : (code : CodeShape) (host : HostState) (outcome : Outcome) → StateFits code host →
    IsTurn code host outcome → Turns host outcome
turn_requests code host outcome fits turns = turn_of code host host.running outcome fits turns

-- ---- a message

-- what taking a message of another host makes of requests
pub record Replies (old : HostState) (from : HostId) (m : Message) (outcome : Outcome) : Type 0 where
  pub requests : outcome.state.requests ≡ old.requests
  pub fewer : (f : WaitingShape → ℕ) → sum_by f outcome.state.waiting ≤ sum_by f old.waiting
  pub ends : (request : RequestId) (other : HostId) → waiting_for_from request other old.waiting
      ≤ waiting_for_from request other outcome.state.waiting + one_if (other.0 == from.0 && answers request m)
  pub none_asked : (request : RequestId) → letters (asks request) outcome.sent ≡ 0
  pub answered : (request : RequestId) → letters (answers request) outcome.sent ≤ one_if (asks request m)

-- no wait ends, and what is sent is an answer
keeps : (old : HostState) (from : HostId) (m : Message) (outcome : Outcome) → outcome.state.requests ≡ old.requests →
    outcome.state.waiting ≡ old.waiting → ((request : RequestId) → letters (asks request) outcome.sent ≡ 0) →
    ((request : RequestId) → letters (answers request) outcome.sent ≤ one_if (asks request m)) →
    Replies old from m outcome
keeps old from m outcome counts waiting no_request answered = record {
  requests = counts;
  fewer = λ f. let same = ap (sum_by f) waiting in omega arith;
  ends = λ request other. let same = ap (waiting_for_from request other) waiting in omega arith;
  none_asked = no_request;
  answered = answered;
}

-- equal numbers
pub request_is : (one other : RequestId) → is_request one other ≡ true → one ≡ other
request_is one other is =
    let parts = parts_same _ _ is in
    let make : ℕ → ℕ → RequestId = λ at count. record { at = at; count = count } in
    ap (λ (n : ℕ). make n one.count) (number_same one.at other.at parts.0)
    ∙ ap (make other.at) (number_same one.count other.count parts.1)

-- a thread that was found waits for this number from this host
found_is : (threads : List WaitingShape) (awaited : Awaited) (request : RequestId) (from : HostId) (place : ℕ)
    (found : WaitingShape) → position (awaits awaited request from) threads ≡ Some place →
    slice_get threads place ≡ Some found → (found.request ≡ request) × (found.asked.0 ≡ from.0)
found_is threads awaited request from place found is there =
    let passes : awaits awaited request from found ≡ true =
    subst (λ (w : WaitingShape). awaits awaited request from w ≡ true)
    (get_or_from_slice_get threads place found found there)
    (position-Some (awaits awaited request from) threads place found is).1 in
    let halves = parts_same _ _ passes in (
      request_is found.request request (parts_same _ _ halves.0).1,
      number_same found.asked.0 from.0 halves.1,
    )

swaps : (b c d : Bool) → c ≡ d → one_if (b && c) ≤ one_if (d && b)
swaps true true true same = omega arith
swaps true false d same = omega arith
swaps true true false same = absurd (cc)
swaps false c d same = omega arith

ends_one : (b : Bool) (asked from other : ℕ) → asked ≡ from →
    one_if (b && asked == other) ≤ one_if (other == from && b)
ends_one b asked from other same =
    let turned = either_way asked other in
    subst (λ (n : ℕ). one_if (b && asked == other) ≤ one_if (other == n && b)) same
    (swaps b (asked == other) (other == asked) turned)

woken : (threads : List WaitingShape) (place : ℕ) (found : Option WaitingShape) (awaited : Awaited)
    (number request : RequestId) (from other : HostId) → position (awaits awaited number from) threads ≡ Some place →
    slice_get threads place ≡ found →
    waiting_for_from request other threads
    ≤ waiting_for_from request other (remove threads place) + one_if (other.0 == from.0 && is_request number request)
woken threads place None awaited number request from other is there =
    let f : WaitingShape → ℕ = λ w. one_if (is_request w.request request && w.asked.0 == other.0) in
    let same = removed_none f threads place there in
    omega arith
woken threads place (Some found) awaited number request from other is there =
    let f : WaitingShape → ℕ = λ w. one_if (is_request w.request request && w.asked.0 == other.0) in
    let all = removed_at f threads place found there in
    let its = found_is threads awaited number from place found is there in
    let number_is : f found ≡ one_if (is_request number request && found.asked.0 == other.0) =
    ap (λ (r : RequestId). one_if (is_request r request && found.asked.0 == other.0)) its.0 in
    let le = ends_one (is_request number request) found.asked.0 from.0 other.0 its.1 in
    omega arith

wakes : (old : HostState) (from : HostId) (m : Message) (number : RequestId) (awaited : Awaited) (place : Option ℕ)
    (answered : ThreadShape → ThreadShape) → place_of_awaiting old awaited number from ≡ place →
    ((request : RequestId) → answers request m ≡ is_request number request) →
    Replies old from m (without_message (after_answer old place answered))
wakes old from m number awaited None answered is answer =
    keeps old from m (without_message old) refl refl (λ request. refl) (λ request. omega arith)
wakes old from m number awaited (Some place) answered is answer = record {
  requests = refl;
  fewer = λ f. removed_le f old.waiting place;
  ends = λ request other.
      let le =
      woken old.waiting place (slice_get old.waiting place) awaited number request from other is refl in
      let same : one_if (other.0 == from.0 && answers request m)
      ≡ one_if (other.0 == from.0 && is_request number request) =
      ap (λ (b : Bool). one_if (other.0 == from.0 && b)) (answer request) in
      omega arith;
  none_asked = λ request. refl;
  answered = λ request. omega arith;
}

takes : (code : CodeShape) (host : HostState) (from : HostId) (m : Message) (passes : Bool) →
    Replies host from m (after_taking code host from m passes)
takes code host from m false = keeps host from m _ refl refl (λ request. refl) (λ request. omega arith)
takes code host from (message.Get request field index) true =
    keeps host from _ _ refl refl (λ number. refl) (λ number. omega arith)
takes code host from (message.Set request field index value) true =
    keeps host from _ _ refl refl (λ number. refl) (λ number. omega arith)
takes code host from (message.Forward request frame variable value) true =
    keeps host from _ _ refl refl (λ number. refl) (λ number. omega arith)
takes code host from (message.Sync request frame entry token) true =
    keeps host from _ _ refl refl (λ number. refl) (λ number. omega arith)
takes code host from (message.Rgoto frame entry token) true =
    let same = entering_same host (entry_at code entry) frame token in
    keeps host from _ _ same.requests same.waiting (λ number. refl) (λ number. omega arith)
takes code host from (message.RgotoWith frame entry token riders) true =
    let same = entering_same (with_variables_set host frame riders) (entry_at code entry) frame token in
    let rode = riding_is host frame riders in
    keeps host from _ _ (same.requests ∙ ap (λ (h : HostState). h.requests) (sym rode))
    (same.waiting ∙ ap (λ (h : HostState). h.waiting) (sym rode)) (λ number. refl) (λ number. omega arith)
takes code host from (message.Lgoto token) true =
    let same = pop_same code host host.entries in
    keeps host from _ _ same.requests same.waiting (λ number. refl) (λ number. omega arith)
takes code host from (message.Value request value) true =
    wakes host from _ request value_of_field _ (with_temporary value) refl (λ number. refl)
takes code host from (message.Ack request) true =
    wakes host from _ request acknowledgement _ (λ thread. thread) refl (λ number. refl)
takes code host from (message.Token request token) true =
    wakes host from _ request token_of_entry _ (with_token (Some token)) refl (λ number. refl)

pub taking_requests : (code : CodeShape) (host : HostState) (from : HostId) (m : Message) (outcome : Outcome) →
    IsTaking code host from m outcome → Replies host from m outcome
taking_requests code host from m outcome step = subst (Replies host from m) step.2 (takes code host from m step.0)
