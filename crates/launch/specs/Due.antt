-- What is due for the words of `jifrun`, by what the files hold and did, and by what the spawner did.
use Rattle.std.specs.Prelude.{◌≡◌, ◌⊎◌, ℕ, List, [], ◌∷◌, codes, Some}
use Rattle.std.specs.Fmt.{decimal}
use Rattle.host_decl.specs.Hosts.{HostsShape}
use Rattle.front_end.specs.Loading.{StopsLoading}
use Rattle.front_end.specs.Loads.{FilesChange, LoadsWell, Told}
use Rattle.front_end.specs.Sources.{HostsRead}
use Rattle.front_end.specs.Stages.{StageEnd, given, stopped}
use Rattle.front_end.specs.StepCounts.{IsStepCount}
use Rattle.front_end.specs.Verdicts.{VerdictShape, Print, usage as usage_of}
use Rattle.launch.specs.declared.child_end.ChildEnd.{ChildEnd}
use Rattle.launch.specs.Launching.{Launched}
use Rattle.launch.specs.Report.{RunWords, all_words, host_names, report, status_of_ends}
use Rattle.launch.specs.Starts.{SpawnerState}

abbrev pub usage : VerdictShape
usage = usage_of (codes "P H START N")

-- words of the only form: a program, a host file, a file of starting values, and a number of turns
abbrev pub AreRunWords : List (List ℕ) → RunWords → Type 0
AreRunWords words run =
    (words ≡ run.program ∷ run.hosts ∷ run.start ∷ run.turns ∷ [])
    × ((turns : ℕ) × IsStepCount turns × (run.turns ≡ decimal turns))

-- The hosts of a host file of this name, which alone is loaded. Otherwise it is absent, could not be read, or is
-- refused.
abbrev pub HostsOf : List ℕ → FilesChange → StageEnd HostsShape → Type 0
HostsOf name files (given file) =
    (bytes : List ℕ) × Told files.held name (Some bytes) × LoadsWell 1 files × HostsRead bytes (given file)
HostsOf name files (stopped verdict) =
    StopsLoading (name ∷ []) files verdict
    ⊎ ((bytes : List ℕ) × Told files.held name (Some bytes) × LoadsWell 1 files × HostsRead bytes (stopped verdict))

-- nothing is launched: the words have no form, and nothing is loaded, or the host file is refused
abbrev pub IsLaunchRefusal : List (List ℕ) → FilesChange → VerdictShape → Type 0
IsLaunchRefusal words files verdict =
    (((run : RunWords) → AreRunWords words run → ⊥) × LoadsWell 0 files × (verdict ≡ usage))
    ⊎ ((run : RunWords) × AreRunWords words run × HostsOf run.hosts files (stopped verdict))

-- the nodes of the hosts of a host file were launched, and ended so
pub record HasLaunched (words : List (List ℕ)) (files : FilesChange) (old new : SpawnerState) (ends : List ChildEnd)
    (file : HostsShape) : Type 0 where
  pub run : RunWords
  pub words_are : AreRunWords words run
  pub hosts : HostsOf run.hosts files (given file)
  pub launched : Launched (codes "jifhost") (all_words run file) ends old new

-- what is due: a refusal, where the spawner was asked for nothing, or the report of how the nodes ended
abbrev pub IsDue : List (List ℕ) → FilesChange → SpawnerState → SpawnerState → VerdictShape → Type 0
IsDue words files old new verdict =
    (IsLaunchRefusal words files verdict × (new ≡ old))
    ⊎ ((ends : List ChildEnd) × (file : HostsShape) × HasLaunched words files old new ends file
    × (verdict ≡ Print (status_of_ends ends) (report (host_names file) ends)))

-- where memory ran out before that, nothing was launched, or all nodes were
abbrev pub IsUndueLaunch : List (List ℕ) → FilesChange → SpawnerState → SpawnerState → Type 0
IsUndueLaunch words files old new =
    (new ≡ old) ⊎ ((ends : List ChildEnd) × (file : HostsShape) × HasLaunched words files old new ends file)

-- ---- behind the host file

-- the nodes of these hosts were launched, and this is the report
abbrev pub LaunchesTo : RunWords → HostsShape → SpawnerState → SpawnerState → VerdictShape → Type 0
LaunchesTo run file old new verdict =
    (ends : List ChildEnd)
    × Launched (codes "jifhost") (all_words run file) ends old new
    × (verdict ≡ Print (status_of_ends ends) (report (host_names file) ends))

-- nothing was launched, or all nodes of these hosts were
abbrev pub IsUnlaunched : RunWords → HostsShape → SpawnerState → SpawnerState → Type 0
IsUnlaunched run file old new =
    (new ≡ old) ⊎ ((ends : List ChildEnd) × Launched (codes "jifhost") (all_words run file) ends old new)
