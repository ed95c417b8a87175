-- What a save does to files, and how it may fail. A name and a file are lists of bytes.
use Rattle.std.specs.Prelude.{◌≡◌, ℕ, List, Some, IfSome}
use Rattle.js_base.specs.Counts.{counted, Rose}
use Rattle.js_base.specs.Files.{ChangesOnly}
use Rattle.front_end.specs.Loads.{FilesChange, counted_by}
use Rattle.front_end.specs.Verdicts.{VerdictShape, file_fault}

-- one save was asked for, and nothing has changed but what is held under this name
pub record SavesUnder (name : List ℕ) (files : FilesChange) : Type 0 where
  pub saves : files.saves_after ≡ counted files.saves_before
  pub others : ChangesOnly name files.held files.held_after

-- these bytes are held under this name, by one save
pub record IsSaved (name bytes : List ℕ) (files : FilesChange) : Type 0 where
  pub under : SavesUnder name files
  pub holds : IfSome files.held_after (λ holds. holds name ≡ Some bytes)

-- the save under this name failed, after so many loads
pub record IsSaveFault (name : List ℕ) (number : ℕ) (files : FilesChange) (verdict : VerdictShape) : Type 0 where
  pub under : SavesUnder name files
  pub here : files.failed ≡ name
  pub loads : files.loads_after ≡ counted_by number files.loads_before
  pub rose : Rose files.faults_before files.faults_after
  pub verdict_is : verdict ≡ file_fault files.failed
