-- What is due for words, by what the files hold and did.
use Rattle.std.specs.Prelude.{◌≡◌, ℕ, ◌+◌, ◌⊎◌, List, [], ◌∷◌, length, Option, Some}
use Rattle.std.specs.List.{AllZip}
use Rattle.js_base.specs.declared.status.Status.TheVariants.{Done}
use Rattle.split_words.specs.Commands.{CommandShape, Check, Run, Replay, Drive, Compare, Split, Make}
use Rattle.split_words.specs.Commands.{IsCommand, words_of, files_of, forms, HaveNoForm}
use Rattle.front_end.specs.Verdicts.{VerdictShape, Print, usage, no_such_file}
use Rattle.front_end.specs.Loads.{FilesChange, Told, AreKept, LoadsWell, IsFirstAbsent, IsFileFault, counted_by}
use Rattle.split_cli.specs.Saves.{SavesUnder, IsSaved, IsSaveFault}
use Rattle.front_end.specs.Stages.{given, DueThen}
use Rattle.front_end.specs.Sources.{Sources}
use Rattle.front_end.specs.PlacedSources.{PlacedSources}
use Rattle.split_cli.specs.Check.{plan_report}
use Rattle.run_comparison.specs.Compare.{DueForCompare}
use Rattle.split_cli.specs.Making.{DueForMake}
use Rattle.split_cli.specs.PlainRun.{DueForRun}
use Rattle.split_cli.specs.Replay.{DueForReplay}
use Rattle.split_cli.specs.Drive.{DueForDrive}
use Rattle.split_cli.specs.Split.{SplitShape, SplitSources}

-- What is due for a command whose files hold these bytes: each begins with a program and a host file, which `make` has
-- without loading any, and has one end of its own.
abbrev pub DueForBytes : CommandShape → List (List ℕ) → VerdictShape → Type 0
DueForBytes (Check program hosts) (p ∷ h ∷ []) verdict =
    DueThen (PlacedSources p h) (λ placed end. end ≡ plan_report placed) verdict
DueForBytes (Run program hosts start steps) (p ∷ h ∷ s ∷ []) verdict =
    DueThen (Sources p h) (λ source. DueForRun start s steps source.tree) verdict
DueForBytes (Replay program hosts events) (p ∷ h ∷ e ∷ []) verdict =
    DueThen (PlacedSources p h) (DueForReplay events e) verdict
DueForBytes (Drive program hosts start events) (p ∷ h ∷ s ∷ []) verdict =
    DueThen (PlacedSources p h) (DueForDrive start s events) verdict
DueForBytes (Compare program hosts one other) (p ∷ h ∷ s ∷ t ∷ []) verdict =
    DueThen (PlacedSources p h) (DueForCompare one s other t) verdict
DueForBytes (Split program hosts out) (p ∷ h ∷ []) verdict =
    DueThen (SplitSources p h) (λ split end. end ≡ Print Done split.text) verdict
DueForBytes (Make statements) [] verdict = DueForMake statements verdict
DueForBytes command bytes verdict = ⊥

-- What is due for a command whose files are all held. Where files do not tell what they hold, they hold some bytes.
pub record DueForFiles
    (held : Option (List ℕ → Option (List ℕ))) (command : CommandShape) (verdict : VerdictShape) : Type 0 where
  pub bytes : List (List ℕ)
  pub told : AllZip (λ file content. Told held file (Some content)) (files_of command) bytes
  pub due : DueForBytes command bytes verdict

-- What is due for a command where no load fails, and the number of loads that come before it: those up to the first
-- file that is absent, or those of all files.
pub data DueForCommand
    (held : Option (List ℕ → Option (List ℕ))) (command : CommandShape) : ℕ → VerdictShape → Type 0 where
  absent : (place : ℕ) (file : List ℕ) → IsFirstAbsent held (files_of command) place file →
      DueForCommand held command (place + 1) (no_such_file file)
  loaded : (verdict : VerdictShape) → DueForFiles held command verdict →
      DueForCommand held command (length (files_of command)) verdict

-- ---- what the files do

-- What is saved for a command where this verdict is due: by a split its code, where that is reported, and nothing
-- otherwise. Where files do not tell what they hold, they hold some bytes.
abbrev pub SavesFor : CommandShape → VerdictShape → FilesChange → Type 0
SavesFor (Split program hosts out) (Print status text) files =
    (p h : List ℕ) × Told files.held program (Some p) × Told files.held hosts (Some h)
    × (split : SplitShape) × SplitSources p h (given split) × IsSaved out split.bytes files
SavesFor command verdict files = AreKept files

-- the save of a split failed whose report was due
abbrev pub FailsToSave : CommandShape → FilesChange → VerdictShape → Type 0
FailsToSave (Split program hosts out) files verdict =
    (number : ℕ) × (text : List ℕ) × DueForCommand files.held (Split program hosts out) number (Print Done text)
    × IsSaveFault out number files verdict
FailsToSave command files verdict = ⊥

-- the load of a file of the command failed, or its save
abbrev pub IsFault : CommandShape → FilesChange → VerdictShape → Type 0
IsFault command files verdict =
    (IsFileFault (files_of command) files verdict × AreKept files) ⊎ FailsToSave command files verdict

-- what is due for a command, by what the files hold and did
abbrev pub IsDueForCommand : CommandShape → FilesChange → VerdictShape → Type 0
IsDueForCommand command files verdict =
    ((number : ℕ) × DueForCommand files.held command number verdict × LoadsWell number files
    × SavesFor command verdict files)
    ⊎ IsFault command files verdict

-- the report of a split is due, all loads before it were made, and then it asked for one save under its last name
abbrev pub SavesWhenDue : (program hosts out : List ℕ) → FilesChange → Type 0
SavesWhenDue program hosts out files =
    (number : ℕ) × (text : List ℕ) × DueForCommand files.held (Split program hosts out) number (Print Done text)
    × (files.loads_after ≡ counted_by number files.loads_before) × SavesUnder out files

-- what a command may do beside its loads, whatever comes of it: nothing, or a split saves once where its report is due
abbrev pub MaySave : CommandShape → FilesChange → Type 0
MaySave (Split program hosts out) files = AreKept files ⊎ SavesWhenDue program hosts out files
MaySave command files = AreKept files

-- What is due for the words where no load fails, and the number of loads that come before it.
pub data Due (words : List (List ℕ)) (held : Option (List ℕ → Option (List ℕ))) : ℕ → VerdictShape →
    Type 0 where
  no_words : HaveNoForm words → Due words held 0 (usage forms)
  for_command : (command : CommandShape) (number : ℕ) (verdict : VerdictShape) → IsCommand command →
      words ≡ words_of command → DueForCommand held command number verdict → Due words held number verdict

-- this is so of the command that the words ask for, or of files that are kept where they ask for none
abbrev pub OfCommand : (CommandShape → Type 0) → List (List ℕ) → FilesChange → Type 0
OfCommand P words files =
    ((command : CommandShape) × IsCommand command × (words ≡ words_of command) × P command)
    ⊎ (HaveNoForm words × AreKept files)

-- after the loads that come before it, none of which failed, this is due for the words, and what belongs to it is saved
abbrev pub IsDueByFiles : List (List ℕ) → FilesChange → VerdictShape → Type 0
IsDueByFiles words files verdict =
    (number : ℕ) × Due words files.held number verdict × LoadsWell number files
    × OfCommand (λ command. SavesFor command verdict files) words files

-- the load of a file of the words failed, or their save
abbrev pub IsFaultOf : List (List ℕ) → FilesChange → VerdictShape → Type 0
IsFaultOf words files verdict =
    (command : CommandShape) × IsCommand command × (words ≡ words_of command) × IsFault command files verdict

-- what is due for the words and for what the files did: what is due by what they hold, or a file fault
abbrev pub IsDue : List (List ℕ) → FilesChange → VerdictShape → Type 0
IsDue words files verdict = IsDueByFiles words files verdict ⊎ IsFaultOf words files verdict
