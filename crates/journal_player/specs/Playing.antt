-- One line of a journal that is played.
use Rattle.std.specs.Prelude.{◌≡◌, ◌≢◌, ◌<◌, ◌⊎◌, ⊤, ℕ, ℤ, List, [], ◌∷◌, ◌++◌, Option, IsSome, None, false}
use Rattle.event_text.specs.declared.lines.Line.{Line}
use Rattle.event_text.specs.Lines.{words}
use Rattle.record_merge.specs.JournalLines.{journal_of}
use Rattle.journal_player.specs.declared.player.PlayError.{PlayError}
use Rattle.journal_player.specs.declared.player.PlayError.TheVariants as error
use Rattle.js_base.specs.declared.ids.HostId.{HostId}
use Rattle.host_code.specs.declared.message.Message.{Message}
use Rattle.host_code.specs.Code.{CodeShape}
use Rattle.host_code.specs.Messages.{MessageFits}
use Rattle.host_code.specs.Sound.{IsOther}
use Rattle.host_core.specs.declared.host.TheConstants.{MOST_CALLS}
use Rattle.host_core.specs.Host.{HostModel, HostState}
use Rattle.host_core.specs.Start.{host_at_start}
use Rattle.event_text.specs.JournalText.{IsSendLine, sent_words, take_words}
use Rattle.event_text.specs.Words.{Word}
use Rattle.journal_laws.specs.Plays.{HaveOwnNames, IsJournalOf, MayMakeStep, MayTake, step_words}
use Rattle.journal_laws.specs.Steps.{Step, takes, turns}
use Rattle.journal_laws.specs.ToldPlays.{ByNext, HasNoStep, IsBarred, IsChosenStep, IsPlayed}

-- the host answers one call more
pub record AnswersOn (host : HostModel) : Type 0 where
  pub few : host.calls < MOST_CALLS
  pub stopped : host.stopped ≡ false

-- The host makes a step of which this is the line, and sends this. Where the step is open, it passes just where the
-- lines behind it begin with that of a turn.
pub record Makes (code : CodeShape) (host : HostState) (line : List Word) (sent : Option (HostId × Message))
    (after : HostState) (others : List (List Word)) : Type 0 where
  pub step : Step
  pub line_is : line ≡ step_words code step
  pub may : MayMakeStep code host step
  pub told : IsChosenStep (ByNext others) code host step (record { state = after; sent = sent })

-- the same of a turn, and of a message that is taken
pub record MakesTurn (code : CodeShape) (host : HostState) (sent : Option (HostId × Message)) (after : HostState)
    (others : List (List Word)) : Type 0 where
  pub runs : IsSome host.running
  pub told : IsChosenStep (ByNext others) code host turns (record { state = after; sent = sent })

pub record MakesTake (code : CodeShape) (host : HostState) (line : List Word) (sent : Option (HostId × Message))
    (after : HostState) (others : List (List Word)) : Type 0 where
  pub from : HostId
  pub message : Message
  pub line_is : line ≡ take_words code from message
  pub may : MayTake code host from message
  pub told : IsChosenStep (ByNext others) code host (takes from message) (record { state = after; sent = sent })

-- these are left of the lines behind a step: what is said of what was sent comes before, or is missing at the end
abbrev pub IsLeftBehindStep : List (List Word) → List (List Word) → List (List Word) → Type 0
IsLeftBehindStep said others left =
    (others ≡ said ++ left)
    ⊎ ((others ≡ []) × (left ≡ []) × ((sent : List Word) × IsSendLine sent × (said ≡ sent ∷ [])))

-- no thread runs, another host of the code sent the message, and what it names is in the code
pub record CanTake (code : CodeShape) (host : HostState) (from : HostId) (message : Message) : Type 0 where
  pub rest : host.running ≡ None
  pub other : IsOther code host.me from
  pub fits : MessageFits code message

-- ---- lines by which a host does not go on

-- the host makes no step of which this is the line, where a line tells which names are meant
abbrev pub LacksStep : CodeShape → HostState → List Word → Type 0
LacksStep code host line = HaveOwnNames code → HasNoStep code host line

-- the line that comes next has this number, and another was said
pub record IsUnsaid (said : List (List Word)) (others : List Line) (number : ℕ) : Type 0 where
  pub next : Line
  pub behind : List Line
  pub others_are : others ≡ next ∷ behind
  pub number_is : next.number ≡ number
  pub sent : List Word
  pub said_is : said ≡ sent ∷ []
  pub other : words next.bytes.now ≢ sent

abbrev pub IsBadNext : List (List Word) → List Line → PlayError → Type 0
IsBadNext said others error.OutOfMemory = ⊤
IsBadNext said others (error.NoRun number) = IsUnsaid said others number

abbrev pub IsBadStep : CodeShape → HostState → Line → PlayError → Type 0
IsBadStep code host line error.OutOfMemory = ⊤
IsBadStep code host line (error.NoRun number) =
    (line.number ≡ number) × LacksStep code host (words line.bytes.now)

-- either of both
abbrev pub IsBadLine : CodeShape → HostState → Line → List Line → PlayError → Type 0
IsBadLine code host line others error.OutOfMemory = ⊤
IsBadLine code host line others (error.NoRun number) =
    ((line.number ≡ number) × LacksStep code host (words line.bytes.now))
    ⊎ ((sent : Option (HostId × Message)) × (after : HostState) × Makes code host (words line.bytes.now) sent after
    (journal_of others) × IsUnsaid (sent_words code sent) others number)

-- The lines before one with this number were played, and the host that was played does not go on by the line.
pub record IsRefusedAtLine (code : CodeShape) (start : HostState) (lines : List Line) (number : ℕ) : Type 0 where
  pub front : List Line
  pub line : Line
  pub behind : List Line
  pub lines_are : lines ≡ front ++ line ∷ behind
  pub number_is : line.number ≡ number
  pub last : HostState
  pub played : IsPlayed code start (journal_of front) last
  pub bad : HaveOwnNames code → IsBarred code start (journal_of front) (words line.bytes.now)

abbrev pub IsPlayRefusal : CodeShape → HostState → List Line → PlayError → Type 0
IsPlayRefusal code start lines error.OutOfMemory = ⊤
IsPlayRefusal code start lines (error.NoRun number) = IsRefusedAtLine code start lines number

-- No run of the host has the lines up to the one with this number, and some run has those before it.
pub record HasNoRun (code : CodeShape) (values : List (List ℤ)) (me : HostId) (lines : List Line) (number : ℕ) :
    Type 0 where
  pub front : List Line
  pub line : Line
  pub behind : List Line
  pub lines_are : lines ≡ front ++ line ∷ behind
  pub number_is : line.number ≡ number
  pub some : (key : List ℕ) × (steps : List Step) × (last : HostState)
      × IsJournalOf code (host_at_start code values key me) (journal_of front) steps last
  pub none : (key : List ℕ) (steps : List Step) (last : HostState) →
      ¬ IsJournalOf code (host_at_start code values key me) (journal_of (front ++ line ∷ [])) steps last

-- a line is refused where no name is there twice and no run has the lines up to it
abbrev pub IsPlayError : CodeShape → List (List ℤ) → HostId → List Line → PlayError → Type 0
IsPlayError code values me lines error.OutOfMemory = ⊤
IsPlayError code values me lines (error.NoRun number) =
    HaveOwnNames code → HasNoRun code values me lines number
