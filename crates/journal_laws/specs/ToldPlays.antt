-- A host that is played from its journal. Where a token is presented that is printed as that of the top entry, the
-- lines so far do not say whether it is that one. Such a step is open: it may pass, and it may be ignored.
use Rattle.std.specs.Prelude.{◌≡◌, ◌≢◌, ◌⊎◌, ◌↔◌, ⊤, Bool, IsTrue, List, [], ◌∷◌, ◌++◌, Option}
use Rattle.js_base.specs.declared.ids.HostId.{HostId}
use Rattle.host_code.specs.declared.message.Message.{Message}
use Rattle.host_code.specs.Code.{CodeShape}
use Rattle.host_core.specs.Host.{HostState, Outcome}
use Rattle.host_core.specs.Taking.{IsTaking, after_taking}
use Rattle.host_core.specs.Told.{IsOpenTaking, IsOpenTurn, after_told_back, with_wrong_tags}
use Rattle.host_core.specs.Turn.{IsTurn}
use Rattle.event_text.specs.JournalText.{IsSendLine, sent_words, turn_words}
use Rattle.event_text.specs.Words.{Word}
use Rattle.journal_laws.specs.Plays.{AreNotedOf, MayMakeStep, step_words}
use Rattle.journal_laws.specs.Steps.{Step, turns, takes}

-- an open step leaves and sends what one truth value gives, and any other what it does on every host
abbrev pub IsToldStep : CodeShape → HostState → Step → Outcome → Type 0
IsToldStep code host turns outcome =
    ((passes : Bool) × IsOpenTurn code host × (after_told_back code host host.running passes ≡ outcome))
    ⊎ ((¬ IsOpenTurn code host) × IsTurn code host outcome)
IsToldStep code host (takes from message) outcome =
    ((passes : Bool) × IsOpenTaking host (with_wrong_tags message)
    × (after_taking code host from (with_wrong_tags message) passes ≡ outcome))
    ⊎ ((¬ IsOpenTaking host (with_wrong_tags message))
    × IsTaking code host from (with_wrong_tags message) outcome)

-- such steps lead from one state to another, and leave these lines
abbrev pub ToldPlays : CodeShape → HostState → List Step → HostState → List (List Word) → Type 0
ToldPlays code start [] last lines = (start ≡ last) × (lines ≡ [])
ToldPlays code start (step ∷ steps) last lines =
    (outcome : Outcome) × (later : List (List Word)) × MayMakeStep code start step × IsToldStep code start step outcome
    × ToldPlays code outcome.state steps last later
    × (lines ≡ step_words code step ∷ (sent_words code outcome.sent ++ later))

-- a journal was played from one state to another
abbrev pub IsPlayed : CodeShape → HostState → List (List Word) → HostState → Type 0
IsPlayed code start lines last =
    (steps : List Step) × (all : List (List Word)) × ToldPlays code start steps last all × AreNotedOf lines all

-- ---- the host that a player leaves, and lines by which it does not go on

-- the next line is that of a turn, or there is none
abbrev pub TurnsNext : List (List Word) → Type 0
TurnsNext [] = ⊤
TurnsNext (line ∷ lines) = line ≡ turn_words

-- such a step, where it was chosen so whether an open one passes
abbrev pub IsChosenStep : (Bool → Type 0) → CodeShape → HostState → Step → Outcome → Type 0
IsChosenStep chosen code host turns outcome =
    ((passes : Bool) × chosen passes × IsOpenTurn code host
    × (after_told_back code host host.running passes ≡ outcome))
    ⊎ ((¬ IsOpenTurn code host) × IsTurn code host outcome)
IsChosenStep chosen code host (takes from message) outcome =
    ((passes : Bool) × chosen passes × IsOpenTaking host (with_wrong_tags message)
    × (after_taking code host from (with_wrong_tags message) passes ≡ outcome))
    ⊎ ((¬ IsOpenTaking host (with_wrong_tags message))
    × IsTaking code host from (with_wrong_tags message) outcome)

-- an open step passes just where a turn comes next
abbrev pub ByNext : List (List Word) → Bool → Type 0
ByNext behind passes = IsTrue passes ↔ TurnsNext behind

-- These lines were played, and the last of the steps was chosen by the line behind them.
pub record PlaysLast (code : CodeShape) (start : HostState) (lines behind : List (List Word)) (last : HostState) :
    Type 0 where
  pub steps : List Step
  pub front : List (List Word)
  pub before : HostState
  pub plays : ToldPlays code start steps before front
  pub step : Step
  pub may : MayMakeStep code before step
  pub sent : Option (HostId × Message)
  pub is : IsChosenStep (ByNext behind) code before step (record { state = last; sent = sent })
  pub lines_are : lines ≡ front ++ step_words code step ∷ sent_words code sent

-- the same, where there may be no lines yet
abbrev pub IsPlayedBefore : CodeShape → HostState → List (List Word) → List (List Word) → HostState → Type 0
IsPlayedBefore code start lines behind last =
    ((lines ≡ []) × (start ≡ last)) ⊎ PlaysLast code start lines behind last

-- the host makes no step of which this is the line
abbrev pub HasNoStep : CodeShape → HostState → List Word → Type 0
HasNoStep code host line = (step : Step) → MayMakeStep code host step → line ≢ step_words code step

-- The lines in front were played, and the host does not go on by the line: it makes no step of it, or its last step
-- sent what has another line.
abbrev pub IsBarred : CodeShape → HostState → List (List Word) → List Word → Type 0
IsBarred code start front line =
    ((last : HostState) × IsPlayedBefore code start front (line ∷ []) last × HasNoStep code last line)
    ⊎ ((steps : List Step) × (last : HostState) × (sent : List Word)
    × ToldPlays code start steps last (front ++ sent ∷ []) × IsSendLine sent × (line ≢ sent))
