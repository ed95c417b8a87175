-- What the load of a file gives, how a load or a stage may stop the command, and what is then due.
use Rattle.std.specs.Prelude.{◌≡◌, ℕ, ◌+◌, ◌<◌, ◌≤◌, ◌⊎◌, List, length, Option, Some, None, Result, Ok, Err, ⊤}
use Rattle.js_base.specs.Counts.{Rose}
use Rattle.front_end.specs.declared.load.LoadStop.{LoadStop}
use Rattle.front_end.specs.declared.load.LoadStop.TheVariants as load_stop
use Rattle.front_end.specs.declared.load.Loaded.{Loaded}
use Rattle.front_end.specs.declared.load.Loaded.TheVariants.{Bytes, TooLong}
use Rattle.front_end.specs.declared.stop.Stop.{Stop}
use Rattle.front_end.specs.declared.stop.Stop.TheVariants as stop
use Rattle.front_end.specs.declared.verdict.Verdict.{Verdict}
use Rattle.front_end.specs.Stages.{StageEnd, given, stopped}
use Rattle.front_end.specs.Verdicts.{VerdictShape, verdict_shape, file_fault, no_such_file}
use Rattle.front_end.specs.Loads.{FilesChange, Told, IsHeld, LoadsWell, IsFirstAbsent, IsFileFault}

-- what was loaded of what is held, where no more than so many bytes are
abbrev pub IsLoaded : ℕ → List ℕ → Loaded → Type 0
IsLoaded most held TooLong = most < length held
IsLoaded most held (Bytes bytes) = (bytes.items ≡ held) × (length held ≤ most)

-- this was loaded of some bytes, which are those that are held where the files tell
abbrev pub Gives : Option (List ℕ → Option (List ℕ)) → List ℕ → ℕ → Loaded → Type 0
Gives held name most loaded = (bytes : List ℕ) × Told held name (Some bytes) × IsLoaded most bytes loaded

-- only what is not held is absent, and only the load of what is held fails
abbrev pub LoadStops : Option (List ℕ → Option (List ℕ)) → List ℕ → LoadStop → Type 0
LoadStops held name load_stop.OutOfMemory = ⊤
LoadStops held name load_stop.Absent = Told held name None
LoadStops held name load_stop.Failed = IsHeld held name

-- only where the files counted a fault at this name did they fail, and otherwise they counted none
abbrev pub StopCounts : List ℕ → ℕ → ℕ → List ℕ → LoadStop → Type 0
StopCounts name before after failed load_stop.OutOfMemory = ⊤
StopCounts name before after failed load_stop.Absent = after ≡ before
StopCounts name before after failed load_stop.Failed = Rose before after × (failed ≡ name)

-- what is due where a file was not loaded
abbrev pub IsStopOf : LoadStop → List ℕ → VerdictShape → Type 0
IsStopOf load_stop.OutOfMemory name verdict = ⊥
IsStopOf load_stop.Absent name verdict = verdict ≡ no_such_file name
IsStopOf load_stop.Failed name verdict = verdict ≡ file_fault name

-- what is due where a command stops, unless memory ran out
abbrev pub StopsWith : (VerdictShape → Type 0) → Stop → Type 0
StopsWith P stop.OutOfMemory = ⊤
StopsWith P (stop.Due verdict) = P (verdict_shape verdict)

-- A result ends a stage: its value, seen so, is what the stage gives, and where it has none the command stops.
abbrev pub EndsAs : {X Y : Type 0} → (X → Y) → (StageEnd Y → Type 0) → Result X Stop → Type 0
EndsAs view P (Ok x) = P (given (view x))
EndsAs view P (Err why) = StopsWith (λ verdict. P (stopped verdict)) why

-- a result ends a command: whether it stops early or not, this is due
abbrev pub EndsIn : (VerdictShape → Type 0) → Result Verdict Stop → Type 0
EndsIn P (Ok verdict) = P (verdict_shape verdict)
EndsIn P (Err why) = StopsWith P why

-- what is due where one of the files was not loaded: it is the first that is absent, or its load failed
abbrev pub StopsLoading : List (List ℕ) → FilesChange → VerdictShape → Type 0
StopsLoading names files verdict =
    ((place : ℕ) × (file : List ℕ) × IsFirstAbsent files.held names place file × LoadsWell (place + 1) files
    × (verdict ≡ no_such_file file))
    ⊎ IsFileFault names files verdict
