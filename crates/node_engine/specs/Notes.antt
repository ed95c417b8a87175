-- What the lines of a journal tell of the steps of its host.
use Rattle.std.specs.Prelude.{◌≡◌, ◌⊎◌, ℕ, ◌<◌, List, [], ◌∷◌, ◌++◌, length, take}
use Rattle.js_base.specs.declared.ids.HostId.{HostId}
use Rattle.host_code.specs.declared.message.Message.{Message}
use Rattle.host_code.specs.Code.{CodeShape}
use Rattle.host_core.specs.Host.{HostState, Outcome}
use Rattle.host_core.specs.Taking.{IsTaking}
use Rattle.host_core.specs.Turn.{IsTurn}
use Rattle.node_seals.specs.declared.arrivals.DropReason.{DropReason}
use Rattle.node_engine.specs.JournalLines.{turn_line, take_line, send_line, done_line, drop_line}

-- ---- lines

-- what a line notes
pub data Note : Type 0 where
  turned : Note
  took : HostId → Message → Note
  sent : HostId → Message → Note
  done : HostId → Note
  dropped : DropReason → Note

abbrev pub note_line : CodeShape → Note → List ℕ
note_line code turned = turn_line
note_line code (took from message) = take_line code from message
note_line code (sent to message) = send_line code to message
note_line code (done from) = done_line code from
note_line code (dropped why) = drop_line why

-- the lines of all of them
abbrev pub note_lines : CodeShape → List Note → List ℕ
note_lines code [] = []
note_lines code (note ∷ notes) = note_line code note ++ note_lines code notes

-- what was put of a line that was not put whole, which may be nothing
abbrev pub IsPartOfLine : CodeShape → List ℕ → Type 0
IsPartOfLine code front =
    (note : Note) × (n : ℕ) × (n < length (note_line code note)) × (front ≡ take n (note_line code note))

-- ---- steps

-- a host runs an instruction, or takes a message from a host
pub data HostStep : Type 0 where
  turn : HostStep
  take_from : HostId → Message → HostStep

abbrev pub IsNodeStep : CodeShape → HostState → HostStep → Outcome → Type 0
IsNodeStep code host turn outcome = IsTurn code host outcome
IsNodeStep code host (take_from from message) outcome = IsTaking code host from message outcome

-- it makes these steps, one after the other
abbrev pub MakesHostSteps : CodeShape → HostState → List HostStep → HostState → Type 0
MakesHostSteps code host [] later = later ≡ host
MakesHostSteps code host (step ∷ steps) later =
    (outcome : Outcome) × IsNodeStep code host step outcome × MakesHostSteps code outcome.state steps later

-- the step that a line tells: `turn` and `take` tell one
abbrev pub step_told : Note → List HostStep
step_told turned = turn ∷ []
step_told (took from message) = take_from from message ∷ []
step_told (sent to message) = []
step_told (done from) = []
step_told (dropped why) = []

-- the steps that lines tell
abbrev pub steps_told : List Note → List HostStep
steps_told [] = []
steps_told (note ∷ notes) = step_told note ++ steps_told notes

-- The journal took these lines whole and no more than a part of another, and the host made the steps that the whole
-- lines tell, or these and one more.
pub record IsNoted (code : CodeShape) (host later : HostState) (before after : List ℕ) : Type 0 where
  pub notes : List Note
  pub front : List ℕ
  pub journal_is : after ≡ before ++ (note_lines code notes ++ front)
  pub cut : IsPartOfLine code front
  pub steps : List HostStep
  pub made : MakesHostSteps code host steps later
  pub told : (steps ≡ steps_told notes) ⊎ ((last : HostStep) × (steps ≡ steps_told notes ++ last ∷ []))
