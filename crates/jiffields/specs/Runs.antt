-- What is due for the lines of a journal: the fields of the host that has this journal, or the first line up to which
-- no run of the host has these lines.
use Rattle.std.specs.Prelude.{◌≡◌, ℕ, ℤ, List, [], ◌∷◌, ◌++◌, map}
use Rattle.js_base.specs.declared.ids.HostId.{HostId}
use Rattle.js_base.specs.declared.status.Status.TheVariants.{Done}
use Rattle.event_text.specs.Lines.{LineShape}
use Rattle.event_text.specs.Words.{Word}
use Rattle.host_code.specs.Code.{CodeShape}
use Rattle.host_core.specs.Host.{HostState}
use Rattle.host_core.specs.Start.{host_at_start}
use Rattle.journal_laws.specs.Plays.{IsJournalOf}
use Rattle.journal_laws.specs.Steps.{Step}
use Rattle.front_end.specs.Refusals as refusals
use Rattle.front_end.specs.Verdicts.{VerdictShape, Print, Refuse}
use Rattle.node_starts.specs.NodeSources.{NodeStart}
use Rattle.jiffields.specs.Fields.{fields_text}

abbrev pub words_in : List LineShape → List (List Word)
words_in lines = map (λ line. line.words) lines

-- some run of the host, under some key, has this journal
abbrev pub HasRun : CodeShape → (values : List (List ℤ)) → HostId → List (List Word) → Type 0
HasRun code values me lines =
    (key : List ℕ) × (steps : List Step) × (last : HostState)
    × IsJournalOf code (host_at_start code values key me) lines steps last

-- The line of this number is the first up to which no run has the journal.
pub record RunsEndAt (code : CodeShape) (values : List (List ℤ)) (me : HostId) (lines : List LineShape) (number : ℕ) :
    Type 0 where
  pub front : List LineShape
  pub line : LineShape
  pub behind : List LineShape
  pub lines_are : lines ≡ front ++ line ∷ behind
  pub number_is : line.number ≡ number
  pub run : HasRun code values me (words_in front)
  pub none : ¬ HasRun code values me (words_in front ++ line.words ∷ [])

-- no run of the host has this line of the file here
abbrev pub no_run : (file : List ℕ) (line : ℕ) (host : List ℕ) → VerdictShape
no_run file line host = Refuse (refusals.NoRun file line host)

-- what is due for the lines of the journal of this name, of the host of this name
pub data DueForLines (file host : List ℕ) (node : NodeStart) (lines : List LineShape) : VerdictShape → Type 0 where
  printed : (key : List ℕ) (steps : List Step) (last : HostState) →
      IsJournalOf node.source.code (host_at_start node.source.code node.source.values key node.me) (words_in lines)
      steps last →
      DueForLines file host node lines (Print Done (fields_text node.source.code node.me last.rows))
  refused : (number : ℕ) → RunsEndAt node.source.code node.source.values node.me lines number →
      DueForLines file host node lines (no_run file number host)
