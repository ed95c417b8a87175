-- What is due for the words, by what the files hold and did. A word, a line and a file are lists of bytes.
use Rattle.std.specs.Prelude.{◌≡◌, ◌≢◌, ℕ, ◌+◌, ◌⊎◌, List, [], ◌∷◌, codes, length, Option, Some, None}
use Rattle.front_end.specs.Loads.{FilesChange, Told, LoadsWell, IsFirstAbsent, IsFileFault}
use Rattle.front_end.specs.PlacedSources.{PlacedSource, PlacedSources}
use Rattle.front_end.specs.Stages.{given, stopped}
use Rattle.front_end.specs.Verdicts.{VerdictShape, no_such_file, usage as usage_of}
use Rattle.jifexplain.specs.Explained.{ExplainsVerdict}
use Rattle.jifexplain.specs.Places.{PlacesTold}

abbrev pub usage : VerdictShape
usage = usage_of (codes "P H / P H PART")

-- What is due for a program and a host file of these names that hold these bytes, where it is asked about all parts or
-- about those that a word means: what is told of its places, or what explains why they are refused.
abbrev pub DueForBytes : (program hosts : List ℕ) (asked : Option (List ℕ)) (p h : List ℕ) → VerdictShape → Type 0
DueForBytes program hosts asked p h verdict =
    ((placed : PlacedSource) × PlacedSources p h (given placed) × PlacesTold program p h asked None verdict)
    ⊎ ((refused : VerdictShape) × PlacedSources p h (stopped refused)
    × ExplainsVerdict program hosts p h asked refused verdict)

-- What is due for two names where no load fails, and the number of loads that come before it: those up to the first
-- file that is absent, or both. Where files do not tell what they hold, they hold some bytes.
pub data DueForNames
    (held : Option (List ℕ → Option (List ℕ))) (program hosts : List ℕ) (asked : Option (List ℕ)) :
    ℕ → VerdictShape → Type 0 where
  absent : (place : ℕ) (file : List ℕ) → IsFirstAbsent held (program ∷ hosts ∷ []) place file →
      DueForNames held program hosts asked (place + 1) (no_such_file file)
  loaded : (p h : List ℕ) (verdict : VerdictShape) → Told held program (Some p) → Told held hosts (Some h) →
      DueForBytes program hosts asked p h verdict → DueForNames held program hosts asked 2 verdict

-- the words name a program and a host file, and ask about all parts, or about those that a third word means
abbrev pub AskFor : List (List ℕ) → (program hosts : List ℕ) (asked : Option (List ℕ)) → Type 0
AskFor words program hosts None = words ≡ program ∷ hosts ∷ []
AskFor words program hosts (Some word) = words ≡ program ∷ hosts ∷ word ∷ []

-- the same for words, which ask so, or for nothing
pub data Due (words : List (List ℕ)) (held : Option (List ℕ → Option (List ℕ))) : ℕ → VerdictShape → Type 0 where
  no_words : length words ≢ 2 → length words ≢ 3 → Due words held 0 usage
  names : (program hosts : List ℕ) (asked : Option (List ℕ)) (number : ℕ) (verdict : VerdictShape) →
      AskFor words program hosts asked → DueForNames held program hosts asked number verdict →
      Due words held number verdict

-- what is due for two names and for what the files did: what is due by what they hold, or a file fault
abbrev pub IsDueForNames : (program hosts : List ℕ) (asked : Option (List ℕ)) → FilesChange → VerdictShape → Type 0
IsDueForNames program hosts asked files verdict =
    ((number : ℕ) × DueForNames files.held program hosts asked number verdict × LoadsWell number files)
    ⊎ IsFileFault (program ∷ hosts ∷ []) files verdict

-- the load of a file of the words failed
abbrev pub IsFaultOf : List (List ℕ) → FilesChange → VerdictShape → Type 0
IsFaultOf words files verdict =
    (program : List ℕ) × (hosts : List ℕ) × (asked : Option (List ℕ)) × AskFor words program hosts asked
    × IsFileFault (program ∷ hosts ∷ []) files verdict

-- what is due for the words and for what the files did
abbrev pub IsDue : List (List ℕ) → FilesChange → VerdictShape → Type 0
IsDue words files verdict =
    ((number : ℕ) × Due words files.held number verdict × LoadsWell number files) ⊎ IsFaultOf words files verdict
