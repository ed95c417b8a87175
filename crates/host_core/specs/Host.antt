-- The state of one host, and the changes of which the rows of its table are made.
use Rattle.std.specs.Prelude.{◌≡◌, ℕ, ◌+◌, ◌<◌, ◌≤◌, ◌⊎◌, ℤ, pos, Bool, true, ◌==◌}
use Rattle.std.specs.Prelude.{List, [], ◌∷◌, ◌++◌, All, IsTrue}
use Rattle.std.specs.Prelude.{if◌then◌else◌, Option, Some, None, slice_index, slice_set}
use Rattle.js_base.specs.declared.ids.HostId.{HostId}
use Rattle.js_base.specs.declared.ids.FieldId.{FieldId}
use Rattle.js_base.specs.declared.ids.FrameId.{FrameId}
use Rattle.js_base.specs.declared.ids.VarId.{VarId}
use Rattle.js_base.specs.declared.ids.EntryId.{EntryId}
use Rattle.js_base.specs.declared.ids.RequestId.{RequestId}
use Rattle.jif_tree.specs.Store.{store_after_write}
use Rattle.capability.specs.declared.token.Token.{Token}
use Rattle.ics_stack.specs.declared.stack.StackEntry.{StackEntry}
use Rattle.ics_stack.specs.Stack.{StackShape, next_token, entries_after_push, serials_after_push}
use Rattle.host_code.specs.declared.code.Entry.{Entry}
use Rattle.host_code.specs.declared.message.Message.{Message}
use Rattle.host_code.specs.declared.code_expr.Node.{Node}
use Rattle.host_code.specs.declared.riders.TheConstants.{MOST_RIDERS}
use Rattle.host_code.specs.Riders.{Rider}
use Rattle.host_code.specs.Thread.{ThreadShape, Awaited, WaitingShape}
use Rattle.host_code.specs.Code.{CodeShape, halt, entry_at}
use Rattle.host_stores.specs.Stores.{StoresShape, with_variable, variable_of}
use Rattle.entry_check.specs.Checks.{ChecksShape}
use Rattle.host_core.specs.declared.host.TheConstants.{MOST_CALLS}
use Rattle.host_core.specs.Values.{value_of_nodes}

-- The state of a host with a number and a key. It has a row of elements for each field of the code, which is empty
-- where the field is elsewhere, and a value for each variable of a frame. The top of the control stack stands first.
-- Beside it are counted: for each entry its pushes, for each call site (by its number) its frames, and for each
-- instruction its requests.
pub record HostState : Type 0 where
  pub me : HostId
  pub key : List ℕ
  pub rows : List (List ℤ)
  pub variables : FrameId → VarId → ℤ
  pub running : Option ThreadShape
  pub waiting : List WaitingShape
  pub entries : List StackEntry
  pub serials : List ℕ
  pub frames : List ℕ
  pub requests : List ℕ
  pub ignored : ℕ
  pub halted : Bool

-- what a step of a host leaves, and what it sends to whom
pub record Outcome : Type 0 where
  pub state : HostState
  pub sent : Option (HostId × Message)

abbrev pub without_message : HostState → Outcome
without_message host = record { state = host; sent = None }

abbrev pub with_message : HostState → HostId → Message → Outcome
with_message host to message = record { state = host; sent = Some (to, message) }

-- What is sent carries the place of a label among the code's labels: for what a turn sends that of the instruction that
-- ran, and for an answer that of the request, which is the label of the instruction that asked.
pub record Letter : Type 0 where
  pub to : HostId
  pub message : Message
  pub label : ℕ

abbrev pub with_label : ℕ → Option (HostId × Message) → Option Letter
with_label label None = None
with_label label (Some sent) = Some (record { to = sent.0; message = sent.1; label = label })

-- ---- changes

abbrev pub with_one_ignored : HostState → HostState
with_one_ignored host = record host { ignored = host.ignored + 1 }

abbrev pub with_row_written : HostState → FieldId → ℤ → ℤ → HostState
with_row_written host field index value = record host { rows = store_after_write host.rows field.0 index value }

abbrev pub with_variable_set : HostState → FrameId → VarId → ℤ → HostState
with_variable_set host frame variable value =
    record host { variables = with_variable host.variables frame variable value }

-- each of some variables of a frame becomes a value, in order; of a variable that comes twice the last one counts
abbrev pub with_variables_set : HostState → FrameId → List Rider → HostState
with_variables_set host frame [] = host
with_variables_set host frame (rider ∷ riders) =
    with_variables_set (with_variable_set host frame rider.0 rider.1) frame riders

abbrev pub with_running : HostState → Option ThreadShape → HostState
with_running host thread = record host { running = thread }

-- ---- the control stack

abbrev pub stack_of : HostState → StackShape
stack_of host =
    record { host = host.me; key = host.key; entries = host.entries; serials = host.serials; pushes = 0; room = 0 }

-- the token of the next push of an entry in a frame
abbrev pub new_token : HostState → EntryId → FrameId → Token
new_token host entry frame = next_token (stack_of host) entry frame

-- the entry is pushed in its frame, with the token that is kept for its thread
abbrev pub after_push : HostState → EntryId → FrameId → Token → HostState
after_push host entry frame kept =
    record host {
      entries = entries_after_push (stack_of host) entry frame kept;
      serials = serials_after_push (stack_of host) entry;
    }

-- a thread at the place of an entry, in a frame and with a token
abbrev pub thread_at : Entry → FrameId → Token → ThreadShape
thread_at entry frame token =
    record { at = entry.at; frame = frame; new_frame = frame; temporaries = []; held = Some token }

-- a thread starts at an entry; none does where the code lacks the entry
abbrev pub after_entering : HostState → Option Entry → FrameId → Token → HostState
after_entering host None frame token = with_running host None
after_entering host (Some entry) frame token = with_running host (Some (thread_at entry frame token))

-- the thread of an entry that was taken off the stack starts, and the entry that ends the program halts the host
abbrev pub after_popped : CodeShape → HostState → EntryId → FrameId → Token → HostState
after_popped code host entry frame kept =
    if entry.0 == halt.0
    then record host { running = None; halted = true }
    else after_entering host (entry_at code entry) frame kept

-- the top entry is taken off the stack, and its thread starts
abbrev pub after_pop : CodeShape → HostState → List StackEntry → HostState
after_pop code host [] = host
after_pop code host (top ∷ below) = after_popped code (record host { entries = below }) top.entry top.frame top.kept

-- ---- threads

-- the thread goes on at the next instruction
abbrev pub after_step : ThreadShape → ThreadShape
after_step thread = record thread { at = thread.at + 1 }

-- it goes on at the next instruction, and drops its temporaries
abbrev pub after_clearing : ThreadShape → ThreadShape
after_clearing thread = record thread { at = thread.at + 1; temporaries = [] }

abbrev pub with_temporary : ℤ → ThreadShape → ThreadShape
with_temporary value thread = record thread { temporaries = thread.temporaries ++ value ∷ [] }

abbrev pub with_token : Option Token → ThreadShape → ThreadShape
with_token token thread = record thread { held = token }

-- the value of an expression in the thread
abbrev pub value_in_thread : HostState → ThreadShape → List Node → ℤ
value_in_thread host thread nodes = value_of_nodes (host.variables thread.frame) thread.temporaries nodes

-- the value of an expression in the running thread, 0 where none runs
abbrev pub value_in_running : HostState → Option ThreadShape → List Node → ℤ
value_in_running host None nodes = pos 0
value_in_running host (Some thread) nodes = value_in_thread host thread nodes

-- the next request of an instruction
abbrev pub next_request : HostState → ℕ → RequestId
next_request host at = record { at = at; count = slice_index host.requests at }

-- A thread waits for the answer to the next request of an instruction, from the host that was asked. It is kept as it
-- goes on when the answer comes.
abbrev pub after_asking : HostState → ℕ → ThreadShape → Awaited → HostId → HostState
after_asking host at thread awaited asked =
    record host {
      running = None;
      waiting = host.waiting
          ++ record { thread = thread; awaited = awaited; request = next_request host at; asked = asked } ∷ [];
      requests = slice_set host.requests at (slice_index host.requests at + 1);
    }

-- ---- a host in the program

-- A host as the program has it: what it is made of, its checks, for how many more threads that wait there is room, how
-- many calls it has answered, and whether it stopped for want of memory.
pub record HostModel : Type 0 where
  pub me : HostId
  pub stores : StoresShape
  pub stack : StackShape
  pub running : Option ThreadShape
  pub waiting : List WaitingShape
  pub room : ℕ
  pub frames : List ℕ
  pub requests : List ℕ
  pub ignored : ℕ
  pub halted : Bool
  pub checks : ChecksShape
  pub calls : ℕ
  pub stopped : Bool

-- the state of a host, of which the table speaks
abbrev pub state_of : HostModel → HostState
state_of host =
    record {
      me = host.me;
      key = host.stack.key;
      rows = host.stores.rows;
      variables = variable_of host.stores;
      running = host.running;
      waiting = host.waiting;
      entries = host.stack.entries;
      serials = host.stack.serials;
      frames = host.frames;
      requests = host.requests;
      ignored = host.ignored;
      halted = host.halted;
    }

-- the host answers no more
abbrev pub IsStopped : HostModel → Type 0
IsStopped host = IsTrue host.stopped ⊎ (MOST_CALLS ≤ host.calls)

-- a step changes neither the host's number and checks nor whether it answers
pub record IsSameHost (before after : HostModel) : Type 0 where
  pub me : after.me ≡ before.me
  pub checks : after.checks ≡ before.checks
  pub calls : after.calls ≡ before.calls
  pub stopped : after.stopped ≡ before.stopped

-- what no step touches is the same, and this is the state of the host
pub record Becomes (old new : HostModel) (state : HostState) : Type 0 where
  pub same : IsSameHost old new
  pub state_is : state_of new ≡ state

-- what no step touches is the same, and this is the state of the host with what it sends
pub record StepsTo (old new : HostModel) (sent : Option (HostId × Message)) (outcome : Outcome) : Type 0 where
  pub same : IsSameHost old new
  pub outcome_is : outcome ≡ record { state = state_of new; sent = sent }

-- what no step touches is the same, and the state of the host with what it sends is what such a step leaves
pub record StepsBy (old new : HostModel) (sent : Option (HostId × Message)) (IsStep : Outcome → Type 0) : Type 0 where
  pub same : IsSameHost old new
  pub step : IsStep (record { state = state_of new; sent = sent })

-- A call was counted, and there is room for one more of each thing, and for as many variables as may ride. So no other
-- count comes to its end.
pub record IsReady (host : HostModel) : Type 0 where
  pub frames : All (λ count. count < host.calls) host.frames
  pub requests : All (λ count. count < host.calls) host.requests
  pub pushes : host.stack.pushes ≤ host.calls
  pub ignored : host.ignored < host.calls
  pub calls : host.calls ≤ MOST_CALLS
  pub waiting : 0 < host.room
  pub variables : MOST_RIDERS ≤ host.stores.spare
  pub stack : 0 < host.stack.room
