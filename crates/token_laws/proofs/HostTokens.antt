-- What a step of one host makes of tokens: it keeps or passes on what it had and was given, and makes one at most.
use Rattle.std.proofs.Common.{◌≡◌, ◌≢◌, ℕ, ◌+◌, ◌<◌, ◌≤◌, Bool, true, false, List, [], ◌∷◌, length, ℤ}
use Rattle.std.proofs.Common.{refl, sym, ap, subst, ◌∙◌, arith, Option, Some, None}
use Rattle.std.specs.Prelude.{if◌then◌else◌, ◌==◌, slice_get, slice_index, remove, sum_by, IsTrue, IsSomeAnd}
use Rattle.std.specs.Option.{option_map}
use Rattle.std.proofs.lemmas.List.Sums.{sum_by_push, sum_by-cons}
use Rattle.js_base.specs.declared.ids.HostId.{HostId}
use Rattle.js_base.specs.declared.ids.FieldId.{FieldId}
use Rattle.js_base.specs.declared.ids.EntryId.{EntryId}
use Rattle.js_base.specs.declared.ids.FrameId.{FrameId}
use Rattle.js_base.specs.declared.ids.VarId.{VarId}
use Rattle.capability.specs.declared.token.Token.{Token}
use Rattle.ics_stack.specs.declared.stack.StackEntry.{StackEntry}
use Rattle.ics_stack.specs.Stack.{serials_after_push}
use Rattle.host_code.specs.declared.code.Entry.{Entry}
use Rattle.host_code.specs.declared.code_expr.Node.{Node}
use Rattle.host_code.specs.declared.instruction.Instr.{Instr}
use Rattle.host_code.specs.declared.instruction.Op.{Op}
use Rattle.host_code.specs.declared.instruction.Op.TheVariants as op
use Rattle.host_code.specs.declared.message.Message.{Message}
use Rattle.host_code.specs.declared.message.Message.TheVariants as message
use Rattle.host_code.specs.Riders.{Rider}
use Rattle.host_code.specs.Thread.{ThreadShape, WaitingShape, Awaited}
use Rattle.host_code.specs.Thread.Awaited.{value_of_field, acknowledgement, token_of_entry}
use Rattle.host_code.specs.Code.{CodeShape, CodeFieldShape, halt, field_at, entry_at, instruction_at, part_of}
use Rattle.host_code.specs.Sound.{IsSoundCode, IsEntryOn, OperationFits, temporaries_at}
use Rattle.host_core.specs.Fits.{StateFits}
use Rattle.host_core.specs.Host.{HostState, Outcome, with_running, with_one_ignored, with_token, with_temporary}
use Rattle.host_core.specs.Host.{new_token, stack_of, after_pop, after_entering, after_asking}
use Rattle.host_core.specs.Host.{without_message, with_variables_set}
use Rattle.host_core.specs.Taking.{IsTaking, PassesCheck, after_taking, after_answer}
use Rattle.host_core.specs.Turn.{IsTurn, IsTurnOf, IsRunning, after_operation, after_read, after_put, after_own_push}
use Rattle.host_core.specs.Turn.{after_ask, after_go, after_go_with, after_own_call, after_return, after_back}
use Rattle.host_core.specs.Turn.{with_thread}
use Rattle.host_core.proofs.CodeFacts.{some_within}
use Rattle.host_core.proofs.Kept.{kept_at_rest}
use Rattle.net_world.specs.Told.{token_in}
use Rattle.token_laws.proofs.Riding.{riding_is}
use Rattle.token_laws.proofs.Worth.{worth_held, worth_running, worth_state}
use Rattle.token_laws.proofs.Sums.{removed_le, removed_at}

-- what a message that is sent is worth
abbrev pub worth_letter : (Token → ℕ) → Option (HostId × Message) → ℕ
worth_letter worth None = 0
worth_letter worth (Some letter) = worth_held worth (token_in letter.1)

-- the counts are as they were, or one entry was pushed, which is not the one that ends the program
abbrev pub Counts : HostState → List ℕ → Option Token → Type 0
Counts old serials None = serials ≡ old.serials
Counts old serials (Some token) =
    (entry : EntryId) × (frame : FrameId) × (entry ≢ halt) × (entry.0 < length old.serials)
    × (token ≡ new_token old entry frame) × (serials ≡ serials_after_push (stack_of old) entry)

-- A host steps from a state, with the token of the thread that runs or of the message that it takes.
pub record Handles (old : HostState) (taken : Option Token) (outcome : Outcome) : Type 0 where
  pub fresh : Option Token
  pub held : (worth : Token → ℕ) →
      worth_state worth outcome.state + worth_letter worth outcome.sent
      ≤ worth_state worth old + worth_held worth taken + worth_held worth fresh
  pub counts : Counts old outcome.state.serials fresh

-- nothing is made
makes_none : (old : HostState) (taken : Option Token) (outcome : Outcome) → outcome.state.serials ≡ old.serials →
    ((worth : Token → ℕ) → worth_state worth outcome.state + worth_letter worth outcome.sent
    ≤ worth_state worth old + worth_held worth taken) → Handles old taken outcome
makes_none old taken outcome same held = record {
  fresh = None;
  held = λ worth. let le = held worth in omega arith;
  counts = same;
}

either : (b : Bool) (old : HostState) (taken : Option Token) (first second : Outcome) → Handles old taken first →
    Handles old taken second → Handles old taken (if b then first else second)
either true old taken first second one other = one
either false old taken first second one other = other

-- ---- the changes

-- the thread goes on with its token
goes_on : (host : HostState) (thread : ThreadShape) (held : Option Token) → thread.held ≡ held →
    Handles host held (with_thread host thread)
goes_on host thread held same = makes_none host held (with_thread host thread) refl (λ worth.
    let is : worth_held worth thread.held ≡ worth_held worth held = ap (worth_held worth) same in
    omega arith)

-- it waits with the token, or without it where the message has it
asks : (host : HostState) (at : ℕ) (thread : ThreadShape) (awaited : Awaited) (to : HostId) (m : Message)
    (held : Option Token) → ((worth : Token → ℕ) →
    worth_held worth thread.held + worth_held worth (token_in m) ≤ worth_held worth held) →
    Handles host held (record { state = after_asking host at thread awaited to; sent = Some (to, m) })
asks host at thread awaited to m held le =
    makes_none host held (record { state = after_asking host at thread awaited to; sent = Some (to, m) }) refl
    (λ worth.
    let push =
    sum_by_push (λ (waiting : WaitingShape). worth_held worth waiting.thread.held) host.waiting
    (record {
      thread = thread;
      awaited = awaited;
      request = record { at = at; count = slice_index host.requests at };
      asked = to;
    }) in
    let part = le worth in
    omega arith)

-- the entry is pushed with the token, and another is made
pushes : (code : CodeShape) (host : HostState) (entry : EntryId) (frame : FrameId) (kept : Token) (outcome : Outcome) →
    StateFits code host → entry ≢ halt → (P : Entry → Type 0) → IsSomeAnd (entry_at code entry) P →
    outcome.state.serials ≡ serials_after_push (stack_of host) entry →
    ((worth : Token → ℕ) → worth_state worth outcome.state + worth_letter worth outcome.sent
    ≤ worth_state worth host + worth kept + worth (new_token host entry frame)) →
    Handles host (Some kept) outcome
pushes code host entry frame kept outcome fits named P there counted held = record {
  fresh = Some (new_token host entry frame);
  held = held;
  counts = (
    entry,
    frame,
    named,
    subst (λ (n : ℕ). entry.0 < n) (sym fits.serials) (some_within P code.entries entry.0 there),
    refl,
    counted,
  );
}

-- a thread starts, whatever the host's variables are by then
enters : (host : HostState) (variables : FrameId → VarId → ℤ) (there : Option Entry) (frame : FrameId)
    (token : Token) →
    Handles host (Some token)
    (without_message (after_entering (record host { variables = variables }) there frame token))
enters host variables None frame token = makes_none host (Some token) _ refl (λ worth. omega arith)
enters host variables (Some entry) frame token = makes_none host (Some token) _ refl (λ worth. omega arith)

-- it starts where values ride with it
enters_with : (host : HostState) (there : Option Entry) (frame : FrameId) (token : Token) (riders : List Rider) →
    Handles host (Some token)
    (without_message (after_entering (with_variables_set host frame riders) there frame token))
enters_with host there frame token riders =
    subst (λ (h : HostState). Handles host (Some token) (without_message (after_entering h there frame token)))
    (riding_is host frame riders)
    (enters host (with_variables_set host frame riders).variables there frame token)

-- ---- an entry that is taken off

pub entering_worth : (host : HostState) (there : Option Entry) (frame : FrameId) (token : Token) (worth : Token → ℕ) →
    worth_state worth (after_entering host there frame token)
    ≤ worth token + worth_state worth (with_running host None)
entering_worth host None frame token worth = omega arith
entering_worth host (Some entry) frame token worth = omega arith

popped_worth : (code : CodeShape) (host : HostState) (entry : EntryId) (frame : FrameId) (kept : Token) (halts : Bool)
    (worth : Token → ℕ) → worth_state worth (if halts then record host { running = None; halted = true }
    else after_entering host (entry_at code entry) frame kept) ≤ worth kept + worth_state worth (with_running host None)
popped_worth code host entry frame kept true worth = omega arith
popped_worth code host entry frame kept false worth =
    entering_worth host (entry_at code entry) frame kept worth

pop_worth : (code : CodeShape) (host : HostState) (entries : List StackEntry) (worth : Token → ℕ) →
    host.entries ≡ entries → worth_state worth (after_pop code host entries) ≤ worth_state worth host
pop_worth code host [] worth are = omega arith
pop_worth code host (top ∷ below) worth are =
    let all : sum_by (λ (e : StackEntry). worth e.kept) host.entries
    ≡ worth top.kept + sum_by (λ (e : StackEntry). worth e.kept) below =
    ap (sum_by (λ (e : StackEntry). worth e.kept)) are ∙ sum_by-cons (λ (e : StackEntry). worth e.kept) top below in
    let le =
    popped_worth code (record host { entries = below }) top.entry top.frame top.kept (top.entry.0 == halt.0) worth in
    omega arith

entering_serials : (host : HostState) (there : Option Entry) (frame : FrameId) (token : Token) →
    (after_entering host there frame token).serials ≡ host.serials
entering_serials host None frame token = refl
entering_serials host (Some entry) frame token = refl

popped_serials : (code : CodeShape) (host : HostState) (entry : EntryId) (frame : FrameId) (kept : Token)
    (halts : Bool) → (if halts then record host { running = None; halted = true }
    else after_entering host (entry_at code entry) frame kept).serials ≡ host.serials
popped_serials code host entry frame kept true = refl
popped_serials code host entry frame kept false = entering_serials host (entry_at code entry) frame kept

pop_serials : (code : CodeShape) (host : HostState) (entries : List StackEntry) →
    (after_pop code host entries).serials ≡ host.serials
pop_serials code host [] = refl
pop_serials code host (top ∷ below) =
    popped_serials code (record host { entries = below }) top.entry top.frame top.kept (top.entry.0 == halt.0)

pops : (code : CodeShape) (host : HostState) (taken : Option Token) →
    Handles host taken (without_message (after_pop code host host.entries))
pops code host taken =
    makes_none host taken (without_message (after_pop code host host.entries)) (pop_serials code host host.entries)
    (λ worth. let le = pop_worth code host host.entries worth refl in omega arith)

-- ---- the instructions

reads : (host : HostState) (thread : ThreadShape) (field : FieldId) (index : List Node)
    (there : Option CodeFieldShape) →
    Handles host thread.held (after_read host thread field index there)
reads host thread field index None = goes_on host thread thread.held refl
reads host thread field index (Some there) =
    either (there.host.0 == host.me.0) host thread.held _ _ (goes_on host _ thread.held refl)
    (asks host thread.at _ value_of_field there.host _ thread.held (λ worth. omega arith))

puts : (host : HostState) (thread : ThreadShape) (field : FieldId) (index value : List Node)
    (there : Option CodeFieldShape) → Handles host thread.held (after_put host thread field index value there)
puts host thread field index value None = goes_on host thread thread.held refl
puts host thread field index value (Some there) =
    either (there.host.0 == host.me.0) host thread.held _ _
    (makes_none host thread.held _ refl (λ worth. omega arith))
    (asks host thread.at _ acknowledgement there.host _ thread.held (λ worth. omega arith))

pushes_own : (code : CodeShape) (host : HostState) (thread : ThreadShape) (entry : EntryId) (held : Option Token) →
    StateFits code host → IsEntryOn code host.me entry → thread.held ≡ held →
    Handles host held (after_own_push host thread entry held)
pushes_own code host thread entry None fits on same = goes_on host thread None same
pushes_own code host thread entry (Some held) fits on same =
    pushes code host entry thread.frame held (after_own_push host thread entry (Some held)) fits on.0
    (λ there. there.host ≡ host.me) on.1 refl (λ worth.
    let cons =
    sum_by-cons (λ (e : StackEntry). worth e.kept)
    (record {
      token = new_token host entry thread.frame;
      entry = entry;
      frame = thread.frame;
      kept = held;
    }) host.entries in
    omega arith)

asks_for : (host : HostState) (thread : ThreadShape) (entry : EntryId) (on : HostId) (held : Option Token) →
    thread.held ≡ held → Handles host held (after_ask host thread entry on held)
asks_for host thread entry on None same = goes_on host thread None same
asks_for host thread entry on (Some held) same =
    asks host thread.at _ token_of_entry on _ (Some held) (λ worth. omega arith)

goes : (host : HostState) (thread : ThreadShape) (frame : FrameId) (entry : EntryId) (on : HostId)
    (held : Option Token) → thread.held ≡ held → Handles host held (after_go host thread frame entry on held)
goes host thread frame entry on None same = goes_on host thread None same
goes host thread frame entry on (Some held) same =
    makes_none host (Some held) (after_go host thread frame entry on (Some held)) refl (λ worth. omega arith)

goes_with : (host : HostState) (thread : ThreadShape) (frame : FrameId) (entry : EntryId) (on : HostId)
    (riders : List VarId) (held : Option Token) → thread.held ≡ held →
    Handles host held (after_go_with host thread frame entry on riders held)
goes_with host thread frame entry on riders None same = goes_on host thread None same
goes_with host thread frame entry on riders (Some held) same =
    makes_none host (Some held) (after_go_with host thread frame entry on riders (Some held)) refl
    (λ worth. omega arith)

calls_own : (host : HostState) (thread : ThreadShape) (there : Option Entry) →
    Handles host thread.held (after_own_call host thread there)
calls_own host thread None = goes_on host thread thread.held refl
calls_own host thread (Some there) = goes_on host _ thread.held refl

gives_result : (host : HostState) (thread : ThreadShape) (variable : VarId) (value : List Node) (held : Option Token)
    (passes : Bool) → thread.held ≡ held → Handles host held (after_return host thread variable value held passes)
gives_result host thread variable value None passes same = goes_on host thread None same
gives_result host thread variable value (Some held) passes same =
    let worth_same : (worth : Token → ℕ) → worth_held worth thread.held ≡ worth held =
    λ worth. ap (worth_held worth) same in
    either (held.host.0 == host.me.0) host (Some held) _ _
    (makes_none host (Some held) _ refl (λ worth. let is = worth_same worth in omega arith))
    (either passes host (Some held) _ _
    (asks host thread.at _ acknowledgement held.host _ (Some held) (λ worth. let is = worth_same worth in omega arith))
    (goes_on host _ (Some held) same))

pops_if : (code : CodeShape) (host : HostState) (taken : Option Token) (passes : Bool) →
    Handles host taken (without_message (if passes
    then after_pop code (with_running host None) host.entries
    else with_one_ignored (with_running host None)))
pops_if code host taken true =
    makes_none host taken (without_message (after_pop code (with_running host None) host.entries))
    (pop_serials code (with_running host None) host.entries) (λ worth.
    let le = pop_worth code (with_running host None) host.entries worth refl in
    omega arith)
pops_if code host taken false =
    makes_none host taken (without_message (with_one_ignored (with_running host None))) refl (λ worth. omega arith)

gives_back : (code : CodeShape) (host : HostState) (thread : ThreadShape) (held : Option Token) (passes : Bool) →
    thread.held ≡ held → Handles host held (after_back code host thread held passes)
gives_back code host thread None passes same = goes_on host thread None same
gives_back code host thread (Some held) passes same =
    either (held.host.0 == host.me.0) host (Some held) _ _ (pops_if code host (Some held) passes)
    (makes_none host (Some held) _ refl (λ worth. omega arith))

operation : (code : CodeShape) (host : HostState) (thread : ThreadShape) (operation : Op) (count : ℕ) (passes : Bool) →
    StateFits code host → OperationFits code host.me count operation →
    Handles host thread.held (after_operation code host thread operation passes)
operation code host thread (op.Read field index) count passes fits names =
    reads host thread field index (field_at code field)
operation code host thread (op.Let variable value) count passes fits names =
    makes_none host thread.held _ refl (λ worth. omega arith)
operation code host thread (op.Put field index value) count passes fits names =
    puts host thread field index value (field_at code field)
operation code host thread (op.Send variable to) count passes fits names =
    asks host thread.at _ acknowledgement to _ thread.held (λ worth. omega arith)
operation code host thread (op.Frame site) count passes fits names =
    makes_none host thread.held _ refl (λ worth. omega arith)
operation code host thread (op.Arg variable value) count passes fits names =
    makes_none host thread.held _ refl (λ worth. omega arith)
operation code host thread (op.Pass variable to) count passes fits names =
    asks host thread.at _ acknowledgement to _ thread.held (λ worth. omega arith)
operation code host thread (op.Push entry) count passes fits names =
    pushes_own code host thread entry thread.held fits names refl
operation code host thread (op.Ask entry on) count passes fits names =
    asks_for host thread entry on thread.held refl
operation code host thread (op.Go entry on) count passes fits names =
    goes host thread thread.frame entry on thread.held refl
operation code host thread (op.Call entry on) count passes fits names =
    either (on.0 == host.me.0) host thread.held _ _ (calls_own host thread (entry_at code entry))
    (goes host thread thread.new_frame entry on thread.held refl)
operation code host thread (op.Ret variable value) count passes fits names =
    gives_result host thread variable value thread.held passes refl
operation code host thread op.Back count passes fits names =
    gives_back code host thread thread.held passes refl
operation code host thread (op.Branch guard target) count passes fits names =
    either _ host thread.held _ _ (goes_on host _ thread.held refl) (goes_on host _ thread.held refl)
operation code host thread (op.GoWith entry on riders) count passes fits names =
    goes_with host thread thread.frame entry on riders thread.held refl
operation code host thread (op.CallWith entry on riders) count passes fits names =
    goes_with host thread thread.new_frame entry on riders thread.held refl

-- ---- a turn

running_handles : (code : CodeShape) (host : HostState) (thread : ThreadShape) (there : Option Instr)
    (outcome : Outcome) → IsSoundCode code → StateFits code host → instruction_at code host.me thread.at ≡ there →
    IsRunning code host thread there outcome → Handles host thread.held outcome
running_handles code host thread None outcome sound fits is runs =
    subst (Handles host thread.held) runs (goes_on host thread thread.held refl)
running_handles code host thread (Some instruction) outcome sound fits is runs =
    subst (Handles host thread.held) runs.2
    (operation code host thread instruction.op
    (temporaries_at code.entries host.me (part_of code host.me) thread.at) runs.0 fits
    ((sound.parts host.me fits.me).instructions thread.at instruction is).operation)

-- a thread's token is one of its host's
whole : (host : HostState) (thread : ThreadShape) (outcome : Outcome) → host.running ≡ Some thread →
    Handles (with_running host None) thread.held outcome → Handles host None outcome
whole host thread outcome runs part = record {
  fresh = part.fresh;
  held = λ worth.
      let le = part.held worth in
      let has : worth_running worth host.running ≡ worth_held worth thread.held = ap (worth_running worth) runs in
      omega arith;
  counts = part.counts;
}

turn_of : (code : CodeShape) (host : HostState) (running : Option ThreadShape) (outcome : Outcome) →
    IsSoundCode code → StateFits code host → host.running ≡ running → IsTurnOf code host running outcome →
    Handles host None outcome
turn_of code host None outcome sound fits is turns =
    subst (Handles host None) turns (makes_none host None _ refl (λ worth. omega arith))
turn_of code host (Some thread) outcome sound fits is turns =
    whole host thread outcome is
    (running_handles code (with_running host None) thread (instruction_at code host.me thread.at) outcome sound
    (kept_at_rest code host fits) refl turns)

pub turn_handles : (code : CodeShape) (host : HostState) (outcome : Outcome) → IsSoundCode code →
    StateFits code host → IsTurn code host outcome → Handles host None outcome
turn_handles code host outcome sound fits turns = turn_of code host host.running outcome sound fits refl turns

-- ---- a message

-- a thread that waits runs again
woken : (waiting : List WaitingShape) (place : ℕ) (found : Option WaitingShape)
    (answered : ThreadShape → ThreadShape) (worth : Token → ℕ) (more : ℕ) → slice_get waiting place ≡ found →
    ((thread : ThreadShape) → worth_held worth (answered thread).held ≤ worth_held worth thread.held + more) →
    worth_running worth (option_map (λ (w : WaitingShape). answered w.thread) found)
    + sum_by (λ (w : WaitingShape). worth_held worth w.thread.held) (remove waiting place)
    ≤ sum_by (λ (w : WaitingShape). worth_held worth w.thread.held) waiting + more
woken waiting place None answered worth more is le =
    let left = removed_le (λ (w : WaitingShape). worth_held worth w.thread.held) waiting place in
    omega arith
woken waiting place (Some found) answered worth more is le =
    let left = removed_at (λ (w : WaitingShape). worth_held worth w.thread.held) waiting place found is in
    let goes = le found.thread in
    omega arith

wakes : (host : HostState) (place : Option ℕ) (answered : ThreadShape → ThreadShape) (taken : Option Token) →
    ((worth : Token → ℕ) (thread : ThreadShape) →
    worth_held worth (answered thread).held ≤ worth_held worth thread.held + worth_held worth taken) →
    Handles host taken (without_message (after_answer host place answered))
wakes host None answered taken le = makes_none host taken (without_message host) refl (λ worth. omega arith)
wakes host (Some place) answered taken le =
    makes_none host taken (without_message (after_answer host (Some place) answered)) refl (λ worth.
    let more =
    woken host.waiting place (slice_get host.waiting place) answered worth (worth_held worth taken) refl (le worth) in
    omega arith)

takes : (code : CodeShape) (host : HostState) (from : HostId) (m : Message) (passes : Bool) → StateFits code host →
    (IsTrue passes → PassesCheck code host from m) → Handles host (token_in m) (after_taking code host from m passes)
takes code host from m false fits check = makes_none host (token_in m) _ refl (λ worth. omega arith)
takes code host from (message.Get request field index) true fits check =
    makes_none host None _ refl (λ worth. omega arith)
takes code host from (message.Set request field index value) true fits check =
    makes_none host None _ refl (λ worth. omega arith)
takes code host from (message.Forward request frame variable value) true fits check =
    makes_none host None _ refl (λ worth. omega arith)
takes code host from (message.Sync request frame entry token) true fits check =
    pushes code host entry frame token _ fits (check refl).0 _ (check refl).1 refl (λ worth.
    let cons =
    sum_by-cons (λ (e : StackEntry). worth e.kept)
    (record { token = new_token host entry frame; entry = entry; frame = frame; kept = token }) host.entries in
    omega arith)
takes code host from (message.Rgoto frame entry token) true fits check =
    enters host host.variables (entry_at code entry) frame token
takes code host from (message.RgotoWith frame entry token riders) true fits check =
    enters_with host (entry_at code entry) frame token riders
takes code host from (message.Lgoto token) true fits check = pops code host (Some token)
takes code host from (message.Value request value) true fits check =
    wakes host _ (with_temporary value) None (λ worth thread. omega arith)
takes code host from (message.Ack request) true fits check =
    wakes host _ (λ thread. thread) None (λ worth thread. omega arith)
takes code host from (message.Token request token) true fits check =
    wakes host _ (with_token (Some token)) (Some token) (λ worth thread. omega arith)

pub taking_handles : (code : CodeShape) (host : HostState) (from : HostId) (m : Message) (outcome : Outcome) →
    StateFits code host → IsTaking code host from m outcome → Handles host (token_in m) outcome
taking_handles code host from m outcome fits step =
    subst (Handles host (token_in m)) step.2 (takes code host from m step.0 fits step.1.0)
