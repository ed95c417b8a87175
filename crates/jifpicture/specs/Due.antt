-- What is due for the words, by what the files hold and did. A word, a line and a file are lists of bytes.
use Rattle.std.specs.Prelude.{◌≡◌, ◌≢◌, ℕ, ◌+◌, ◌⊎◌, List, [], ◌∷◌, codes, length, Option, Some}
use Rattle.std.specs.List.{AllZip}
use Rattle.front_end.specs.Loads.{FilesChange, Told, LoadsWell, IsFirstAbsent, IsFileFault}
use Rattle.front_end.specs.PlacedSources.{PlacedSources}
use Rattle.front_end.specs.Stages.{DueThen}
use Rattle.front_end.specs.Verdicts.{VerdictShape, no_such_file, usage as usage_of}
use Rattle.run_picture.specs.RunDue.{DueForChart}
use Rattle.jifpicture.specs.Picture.{picture_report}

-- ---- the words

-- `P H`, a program and a host file, or `P H EVENTS`, and a script
abbrev pub usage : VerdictShape
usage = usage_of (codes "P H / P H EVENTS")

abbrev pub HaveForm : (words : List (List ℕ)) → Type 0
HaveForm words = (length words ≡ 2) ⊎ (length words ≡ 3)

abbrev pub HaveNoForm : (words : List (List ℕ)) → Type 0
HaveNoForm words = (length words ≢ 2) × (length words ≢ 3)

-- ---- what is due for bytes

-- what is due for a program and a host file that hold these bytes: the picture of the plan, or why one of them is
-- refused
abbrev pub DueForPlan : (program hosts : List ℕ) → VerdictShape → Type 0
DueForPlan program hosts =
    DueThen (PlacedSources program hosts) (λ placed verdict. verdict ≡ picture_report placed)

-- The same for words that name files which hold these bytes: of two the picture of the plan, and of three the chart of
-- the run.
abbrev pub DueForBytes : (words bytes : List (List ℕ)) → VerdictShape → Type 0
DueForBytes (program ∷ hosts ∷ []) (p ∷ h ∷ []) verdict = DueForPlan p h verdict
DueForBytes (program ∷ hosts ∷ events ∷ []) (p ∷ h ∷ e ∷ []) verdict = DueForChart events p h e verdict
DueForBytes words bytes verdict = ⊥

-- ---- what is due for words

-- What is due for words whose files are all held. Where files do not tell what they hold, they hold some bytes.
pub record DueForFiles
    (held : Option (List ℕ → Option (List ℕ))) (words : List (List ℕ)) (verdict : VerdictShape) : Type 0 where
  pub bytes : List (List ℕ)
  pub told : AllZip (λ file content. Told held file (Some content)) words bytes
  pub due : DueForBytes words bytes verdict

-- What is due for words where no load fails, and the number of loads that come before it: those up to the first file
-- that is absent, or those of all.
pub data Due (words : List (List ℕ)) (held : Option (List ℕ → Option (List ℕ))) : ℕ → VerdictShape → Type 0 where
  no_form : HaveNoForm words → Due words held 0 usage
  absent : (place : ℕ) (file : List ℕ) → HaveForm words → IsFirstAbsent held words place file →
      Due words held (place + 1) (no_such_file file)
  loaded : (verdict : VerdictShape) → DueForFiles held words verdict → Due words held (length words) verdict

-- the load of a file of the words failed
abbrev pub IsFaultOf : List (List ℕ) → FilesChange → VerdictShape → Type 0
IsFaultOf words files verdict = HaveForm words × IsFileFault words files verdict

-- what is due for the words and for what the files did: what is due by what they hold, or a file fault
abbrev pub IsDue : List (List ℕ) → FilesChange → VerdictShape → Type 0
IsDue words files verdict =
    ((number : ℕ) × Due words files.held number verdict × LoadsWell number files) ⊎ IsFaultOf words files verdict
