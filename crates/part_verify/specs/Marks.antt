-- At which entry each thread of a host started, told by the steps of the host, whatever is delivered to it.
use Rattle.std.specs.Prelude.{◌≡◌, ◌==◌, ℕ, List, [], ◌∷◌, ◌++◌, Option, Some}
use Rattle.std.specs.Prelude.{None, IsSome, if◌then◌else◌, slice_get, remove}
use Rattle.js_base.specs.declared.ids.HostId.{HostId}
use Rattle.js_base.specs.declared.ids.EntryId.{EntryId}
use Rattle.ics_stack.specs.declared.stack.StackEntry.{StackEntry}
use Rattle.host_code.specs.declared.instruction.Instr.{Instr}
use Rattle.host_code.specs.declared.instruction.Op.{Op}
use Rattle.host_code.specs.declared.instruction.Op.TheVariants as op
use Rattle.host_code.specs.declared.message.Message.{Message}
use Rattle.host_code.specs.declared.message.Message.TheVariants as message
use Rattle.host_code.specs.Thread.{ThreadShape}
use Rattle.host_code.specs.Thread.Awaited.{value_of_field, acknowledgement, token_of_entry}
use Rattle.host_code.specs.Code.{CodeShape, instruction_at}
use Rattle.host_code.specs.Sound.{IsOther}
use Rattle.host_core.specs.Host.{HostState, Outcome}
use Rattle.host_core.specs.Fits.{TokensFit}
use Rattle.host_core.specs.Taking.{IsTaking, place_of_awaiting}
use Rattle.host_core.specs.Turn.{IsTurn}

-- the entry at which the running thread started, and those of the threads that wait, in their order
pub record Marks : Type 0 where
  pub running : Option EntryId
  pub waiting : List EntryId

-- a message comes from another host, or the running thread runs an instruction
pub data HostEvent : Type 0 where
  Comes : HostId → Message → HostEvent
  Runs : HostEvent

abbrev pub IsHostStep : CodeShape → HostEvent → HostState → Outcome → Type 0
IsHostStep code (Comes from message) host outcome = (host.running ≡ None) × IsOther code host.me from
    × TokensFit code message × IsTaking code host from message outcome
IsHostStep code Runs host outcome = IsSome host.running × IsTurn code host outcome

-- ---- marks

-- a thread that runs has the mark, and where none runs there is no mark
abbrev pub mark_of : Option ThreadShape → Option EntryId → Option EntryId
mark_of None mark = None
mark_of (Some thread) mark = mark

abbrev pub top_entry : List StackEntry → Option EntryId
top_entry [] = None
top_entry (top ∷ below) = Some top.entry

abbrev pub with_waiting : List EntryId → Option EntryId → List EntryId
with_waiting waiting None = waiting
with_waiting waiting (Some mark) = waiting ++ mark ∷ []

-- A thread that has sent a request waits with its mark. Other messages end the thread.
abbrev pub marks_sent : Marks → Option ThreadShape → Option EntryId → Option (HostId × Message) → Marks
marks_sent marks running mark None = record { running = mark_of running mark; waiting = marks.waiting }
marks_sent marks running mark (Some (to, message.Get request field index)) =
    record { running = None; waiting = with_waiting marks.waiting marks.running }
marks_sent marks running mark (Some (to, message.Set request field index value)) =
    record { running = None; waiting = with_waiting marks.waiting marks.running }
marks_sent marks running mark (Some (to, message.Forward request frame variable value)) =
    record { running = None; waiting = with_waiting marks.waiting marks.running }
marks_sent marks running mark (Some (to, message.Sync request frame entry token)) =
    record { running = None; waiting = with_waiting marks.waiting marks.running }
marks_sent marks running mark (Some other) = record { running = None; waiting = marks.waiting }

-- a token that is given back on its own host starts the thread of the top entry
abbrev pub mark_behind : List StackEntry → Option EntryId → Op → Option EntryId
mark_behind entries mark op.Back = top_entry entries
mark_behind entries mark other = mark

abbrev pub mark_behind_place : List StackEntry → Option EntryId → Option Instr → Option EntryId
mark_behind_place entries mark None = mark
mark_behind_place entries mark (Some one) = mark_behind entries mark one.op

abbrev pub marks_after_turn : CodeShape → HostState → Option ThreadShape → Outcome → Marks → Marks
marks_after_turn code host None outcome marks = marks
marks_after_turn code host (Some thread) outcome marks =
    marks_sent marks outcome.state.running
    (mark_behind_place host.entries marks.running (instruction_at code host.me thread.at)) outcome.sent

-- the thread that waits at this place runs again
abbrev pub marks_answered : Marks → Option ℕ → Marks
marks_answered marks None = marks
marks_answered marks (Some place) =
    record { running = slice_get marks.waiting place; waiting = remove marks.waiting place }

abbrev pub marks_after_message : HostState → HostId → Message → Outcome → Marks → Marks
marks_after_message host from (message.Rgoto frame entry token) outcome marks =
    record marks { running = mark_of outcome.state.running (Some entry) }
marks_after_message host from (message.RgotoWith frame entry token riders) outcome marks =
    record marks { running = mark_of outcome.state.running (Some entry) }
marks_after_message host from (message.Lgoto token) outcome marks =
    record marks { running = mark_of outcome.state.running (top_entry host.entries) }
marks_after_message host from (message.Value request value) outcome marks =
    marks_answered marks (place_of_awaiting host value_of_field request from)
marks_after_message host from (message.Ack request) outcome marks =
    marks_answered marks (place_of_awaiting host acknowledgement request from)
marks_after_message host from (message.Token request token) outcome marks =
    marks_answered marks (place_of_awaiting host token_of_entry request from)
marks_after_message host from other outcome marks = marks

abbrev pub marks_after : CodeShape → HostEvent → HostState → Outcome → Marks → Marks
marks_after code (Comes from message) host outcome marks = marks_after_message host from message outcome marks
marks_after code Runs host outcome marks = marks_after_turn code host host.running outcome marks

-- the thread at `main` started at its entry
abbrev pub marks_at_start : CodeShape → HostId → Marks
marks_at_start code me =
    if me.0 == code.root.0
    then record { running = Some code.main; waiting = [] }
    else record { running = None; waiting = [] }

-- these events lead a host and its marks there
abbrev pub HostRun : CodeShape → HostState → Marks → List HostEvent → HostState → Marks → Type 0
HostRun code host marks [] later marked = (host ≡ later) × (marks ≡ marked)
HostRun code host marks (event ∷ events) later marked = (outcome : Outcome) × IsHostStep code event host outcome
    × HostRun code outcome.state (marks_after code event host outcome marks) events later marked
