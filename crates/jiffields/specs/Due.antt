-- What is due for the words, by what the files hold and did. A word, a line and a file are lists of bytes.
use Rattle.std.specs.Prelude.{◌≡◌, ◌≢◌, ℕ, ◌+◌, ◌⊎◌, List, codes, Option, Some}
use Rattle.node_starts.specs.NodeSources.{NodeSources, NodeStart, OfHost}
use Rattle.node_starts.specs.SourceNames.{name_of}
use Rattle.front_end.specs.Loads.{FilesChange, Told, LoadsWell, IsFirstAbsent, IsFileFault}
use Rattle.front_end.specs.Stages.{DueThen, StageEnd, Then}
use Rattle.front_end.specs.Verdicts.{VerdictShape, no_such_file, usage as usage_of}
use Rattle.jiffields.specs.Lines.{LinesRead}
use Rattle.jiffields.specs.Names.{NamesRead}
use Rattle.jiffields.specs.Runs.{DueForLines}
use Rattle.jiffields.specs.Words.{FieldsAsked, files_of, words_of}

abbrev pub usage : VerdictShape
usage = usage_of (codes "CODE HOSTS HOST START JOURNAL / --program P HOSTS HOST START JOURNAL")

-- ---- what is due for bytes

-- the node that is asked for, before it looks at its part: who ran it did so
abbrev pub FieldsHostFound : FieldsAsked → (source hosts start : List ℕ) → StageEnd NodeStart → Type 0
FieldsHostFound asked source hosts start =
    Then (NodeSources asked.source source hosts asked.start start)
    (OfHost asked.host (name_of asked.source) asked.hosts)

-- what is due for a node and the bytes of its journal
abbrev pub DueForNode : FieldsAsked → (journal : List ℕ) → NodeStart → VerdictShape → Type 0
DueForNode asked journal node =
    DueThen (NamesRead (name_of asked.source) node.source.code)
    (λ code. DueThen (LinesRead asked.journal code journal) (DueForLines asked.journal asked.host node))

-- and for the bytes of all files
abbrev pub DueForBytes : FieldsAsked → (source hosts start journal : List ℕ) → VerdictShape → Type 0
DueForBytes asked source hosts start journal =
    DueThen (FieldsHostFound asked source hosts start) (DueForNode asked journal)

-- ---- what is due for words

-- What is due for what is asked for where no load fails, and the number of loads that come before it: those up to the
-- first file that is absent, or those of all. Where files do not tell what they hold, they hold some bytes.
pub data DueForAsked (asked : FieldsAsked) (held : Option (List ℕ → Option (List ℕ))) : ℕ → VerdictShape → Type 0 where
  absent : (place : ℕ) (file : List ℕ) → IsFirstAbsent held (files_of asked) place file →
      DueForAsked asked held (place + 1) (no_such_file file)
  loaded : (source hosts start journal : List ℕ) (verdict : VerdictShape) →
      Told held (name_of asked.source) (Some source) → Told held asked.hosts (Some hosts) →
      Told held asked.start (Some start) → Told held asked.journal (Some journal) →
      DueForBytes asked source hosts start journal verdict → DueForAsked asked held 4 verdict

-- the same for words, which ask for the fields of a host or for nothing
pub data Due (words : List (List ℕ)) (held : Option (List ℕ → Option (List ℕ))) : ℕ → VerdictShape → Type 0 where
  no_words : ((asked : FieldsAsked) → words ≢ words_of asked) → Due words held 0 usage
  asks : (asked : FieldsAsked) (number : ℕ) (verdict : VerdictShape) → words ≡ words_of asked →
      DueForAsked asked held number verdict → Due words held number verdict

-- what is due for what is asked for and for what the files did: what is due by what they hold, or a file fault
abbrev pub IsDueForAsked : FieldsAsked → FilesChange → VerdictShape → Type 0
IsDueForAsked asked files verdict =
    ((number : ℕ) × DueForAsked asked files.held number verdict × LoadsWell number files)
    ⊎ IsFileFault (files_of asked) files verdict

-- the load of a file of the words failed
abbrev pub IsFaultOf : List (List ℕ) → FilesChange → VerdictShape → Type 0
IsFaultOf words files verdict =
    (asked : FieldsAsked) × (words ≡ words_of asked) × IsFileFault (files_of asked) files verdict

-- what is due for the words and for what the files did
abbrev pub IsDue : List (List ℕ) → FilesChange → VerdictShape → Type 0
IsDue words files verdict =
    ((number : ℕ) × Due words files.held number verdict × LoadsWell number files) ⊎ IsFaultOf words files verdict
