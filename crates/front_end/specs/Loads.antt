-- What files did in a call, and how the loads of some files in order may end. A name and a file are lists of bytes.
use Rattle.std.specs.Prelude.{◌≡◌, ℕ, ◌+◌, zero, suc, List, take, Option, Some, None, IfSome, IsSome}
use Rattle.std.specs.Prelude.{slice_get}
use Rattle.std.specs.List.{AllByRecursion}
use Rattle.js_base.specs.Counts.{counted, Rose}
use Rattle.js_base.specs.declared.files.Files as files
use Rattle.front_end.specs.Verdicts.{VerdictShape, file_fault}

-- What files hold before and after a call, where they tell, and what they counted: loads, saves, and faults, of which
-- the last was at this name.
pub record FilesChange : Type 0 where
  pub held : Option (List ℕ → Option (List ℕ))
  pub held_after : Option (List ℕ → Option (List ℕ))
  pub loads_before : ℕ
  pub loads_after : ℕ
  pub saves_before : ℕ
  pub saves_after : ℕ
  pub faults_before : ℕ
  pub faults_after : ℕ
  pub failed : List ℕ

-- what files of this kind did between two moments, by what they tell of themselves
abbrev pub files_change : {F : Type 0} → files.Ghosts F → (before after : F) → FilesChange
files_change of before after = record {
  held = of.held before;
  held_after = of.held after;
  loads_before = of.loads before;
  loads_after = of.loads after;
  saves_before = of.saves before;
  saves_after = of.saves after;
  faults_before = of.faults before;
  faults_after = of.faults after;
  failed = of.failed after;
}

-- where the files tell what they hold, this is held under the name
abbrev pub Told : Option (List ℕ → Option (List ℕ)) → List ℕ → Option (List ℕ) → Type 0
Told held name content = IfSome held (λ holds. holds name ≡ content)

-- where the files tell what they hold, something is held under the name
abbrev pub IsHeld : Option (List ℕ → Option (List ℕ)) → List ℕ → Type 0
IsHeld held name = IfSome held (λ holds. IsSome (holds name))

-- a count after so many more
abbrev pub counted_by : ℕ → ℕ → ℕ
counted_by zero count = count
counted_by (suc more) count = counted (counted_by more count)

-- so many loads were asked for, and none of them failed
pub record LoadsWell (number : ℕ) (files : FilesChange) : Type 0 where
  pub loads : files.loads_after ≡ counted_by number files.loads_before
  pub no_fault : files.faults_after ≡ files.faults_before

-- nothing was saved, and what is held stays
pub record AreKept (files : FilesChange) : Type 0 where
  pub saves : files.saves_after ≡ files.saves_before
  pub held : files.held_after ≡ files.held

-- the file at this place is absent, and each before it is held
pub record IsFirstAbsent
    (held : Option (List ℕ → Option (List ℕ))) (names : List (List ℕ)) (place : ℕ) (file : List ℕ)
    : Type 0 where
  pub here : slice_get names place ≡ Some file
  pub absent : Told held file None
  pub before : AllByRecursion (IsHeld held) (take place names)

-- The load of the file at some place failed. It is held and so is each before it, and nothing was loaded after it.
pub record IsFileFault (names : List (List ℕ)) (files : FilesChange) (verdict : VerdictShape) : Type 0 where
  pub place : ℕ
  pub here : slice_get names place ≡ Some files.failed
  pub held : IsHeld files.held files.failed
  pub before : AllByRecursion (IsHeld files.held) (take place names)
  pub loads : files.loads_after ≡ counted_by (place + 1) files.loads_before
  pub rose : Rose files.faults_before files.faults_after
  pub verdict_is : verdict ≡ file_fault files.failed
