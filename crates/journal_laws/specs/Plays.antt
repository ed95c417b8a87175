-- What the journal of a host tells: the steps of the host, and what it sent, line by line.
--
-- A journal is here the list of its lines that tell of a turn, a take or a send, each by its words. A node may have
-- been stopped, or may have ended for a failure, behind a step and before the line of what the step sent. So the last
-- such line may be missing.
use Rattle.std.specs.Prelude.{◌≡◌, ◌⊎◌, List, [], ◌∷◌, ◌++◌, map, IsSome, None}
use Rattle.std.specs.List.{IsDistinct}
use Rattle.std.specs.Str.{bytes_eq}
use Rattle.js_base.specs.declared.ids.HostId.{HostId}
use Rattle.host_code.specs.declared.message.Message.{Message}
use Rattle.host_code.specs.Code.{CodeShape}
use Rattle.host_code.specs.Messages.{MessageFits}
use Rattle.host_code.specs.Sound.{IsOther}
use Rattle.event_text.specs.JournalText.{turn_words, take_words, sent_words, IsSendLine}
use Rattle.event_text.specs.Words.{Word}
use Rattle.wire_msg.specs.Frames.{IsMessage}
use Rattle.host_core.specs.Host.{HostState, Outcome}
use Rattle.journal_laws.specs.Steps.{Step, turns, takes, IsStepOfHost}

-- The host may take the message: no thread runs, another host of the code sent it, and what it names is in the code.
-- Each of its numbers fits its type, as in every message in memory.
pub record MayTake (code : CodeShape) (host : HostState) (from : HostId) (message : Message) : Type 0 where
  pub rest : host.running ≡ None
  pub other : IsOther code host.me from
  pub fits : MessageFits code message
  pub real : IsMessage message

-- a turn of a host on which no thread runs changes nothing, and is no step
abbrev pub MayMakeStep : CodeShape → HostState → Step → Type 0
MayMakeStep code host turns = IsSome host.running
MayMakeStep code host (takes from message) = MayTake code host from message

-- the words of the line of a step
abbrev pub step_words : CodeShape → Step → List Word
step_words code turns = turn_words
step_words code (takes from message) = take_words code from message

-- Steps lead from one state of a host to another. They leave these lines: for each step its own, and behind it that of
-- what was sent, where something was.
abbrev pub Plays : CodeShape → HostState → List Step → HostState → List (List Word) → Type 0
Plays code start [] last lines = (start ≡ last) × (lines ≡ [])
Plays code start (step ∷ steps) last lines =
    (outcome : Outcome) × (later : List (List Word)) × MayMakeStep code start step
    × IsStepOfHost code start step outcome
    × Plays code outcome.state steps last later
    × (lines ≡ step_words code step ∷ (sent_words code outcome.sent ++ later))

-- a journal has all lines, or lacks the last, which is that of what was sent
abbrev pub AreNotedOf : List (List Word) → List (List Word) → Type 0
AreNotedOf lines all = (lines ≡ all) ⊎ ((sent : List Word) × IsSendLine sent × (all ≡ lines ++ sent ∷ []))

-- this is a journal of the host, which began in one state, made these steps, and ended in another
abbrev pub IsJournalOf : CodeShape → HostState → List (List Word) → List Step → HostState → Type 0
IsJournalOf code start lines steps last =
    (all : List (List Word)) × Plays code start steps last all × AreNotedOf lines all

-- no two hosts, fields or variables of the code have one name, so that a line tells which is meant
pub record HaveOwnNames (code : CodeShape) : Type 0 where
  pub hosts : IsDistinct bytes_eq (map (λ host. host.name) code.hosts)
  pub fields : IsDistinct bytes_eq (map (λ field. field.name) code.fields)
  pub variables : IsDistinct bytes_eq (map (λ variable. variable.name) code.variables)
