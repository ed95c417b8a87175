-- What a node begins with: the code of all hosts, the hosts of a host file, and starting values. The code comes from a
-- program, which is placed on the hosts, or from a split file.
use Rattle.std.specs.Prelude.{◌≡◌, ◌≢◌, ◌⊎◌, ℕ, ◌<◌, ◌≤◌, ℤ, List, length, map, Some}
use Rattle.std.specs.Prelude.{Ok, Err, All}
use Rattle.std.specs.Prelude.{slice_get, take}
use Rattle.js_base.specs.declared.ids.HostId.{HostId}
use Rattle.js_base.specs.declared.ids.EntryId.{EntryId}
use Rattle.js_base.specs.declared.limits.TheConstants.{SPLIT_FILE_BYTES}
use Rattle.host_code.specs.Code.{CodeShape, CodeHostShape}
use Rattle.host_decl.specs.Hosts.{HostsShape, HostShape}
use Rattle.event_text.specs.Settings.{form_of}
use Rattle.part_verify.specs.declared.errors.VerifyError.{VerifyError}
use Rattle.part_verify.specs.declared.errors.VerifyError.TheVariants as unsound
use Rattle.part_verify.specs.Refusing.{IsPartRefusedFor}
use Rattle.part_verify.specs.SoundPart.{IsSoundPart}
use Rattle.split_file.specs.declared.error.SplitError.{SplitError}
use Rattle.split_file.specs.File.{file_code}
use Rattle.front_end.specs.PlacedCode.{code_of}
use Rattle.front_end.specs.PlacedSources.{PlacedSource, PlacedSources}
use Rattle.front_end.specs.Sources.{HostsRead}
use Rattle.front_end.specs.Stages.{StageEnd, given, stopped, Then}
use Rattle.front_end.specs.Starting.{StartingValues}
use Rattle.front_end.specs.Refusals as refusals
use Rattle.front_end.specs.Verdicts.{VerdictShape, Refuse, too_long}
use Rattle.node_starts.specs.declared.node_source.NodeSource as native
use Rattle.node_starts.specs.declared.node_start.NodeStart as native_start
use Rattle.node_starts.specs.SourceNames.{SourceName, Program as from_program, Code as from_code}

-- ---- what a node alone refuses

abbrev pub bad_code : (file : List ℕ) → SplitError → VerdictShape
bad_code file why = Refuse (refusals.BadCode file why)

abbrev pub no_host : (name : List ℕ) → VerdictShape
no_host name = Refuse (refusals.NoHost name)

abbrev pub other_hosts : (code hosts : List ℕ) → VerdictShape
other_hosts code hosts = Refuse (refusals.OtherHosts code hosts)

abbrev pub weak_entry : (file : List ℕ) (entry : EntryId) (place : ℕ) → VerdictShape
weak_entry file entry place = Refuse (refusals.WeakEntry file entry place)

abbrev pub reveals : (file : List ℕ) (place : ℕ) → VerdictShape
reveals file place = Refuse (refusals.Reveals file place)

pub record NodeSource : Type 0 where
  pub code : CodeShape
  pub hosts : HostsShape
  pub values : List (List ℤ)

-- ---- the stages

-- the values that a file of this name gives to the fields of a code, with the code and its hosts
abbrev pub Valued : (file start : List ℕ) → CodeShape → HostsShape → StageEnd NodeSource → Type 0
Valued file start code hosts =
    Then (StartingValues file start (map form_of code.fields))
    (λ values end. end ≡ given (record { code = code; hosts = hosts; values = values }))

-- a program in its places
abbrev pub PlacedNode : (file start : List ℕ) → PlacedSource → StageEnd NodeSource → Type 0
PlacedNode file start placed = Valued file start (code_of placed) placed.source.file

abbrev pub FromProgram : (program hosts file start : List ℕ) → StageEnd NodeSource → Type 0
FromProgram program hosts file start = Then (PlacedSources program hosts) (PlacedNode file start)

-- the code of a split file of this name
abbrev pub CodeRead : (name bytes : List ℕ) → StageEnd CodeShape → Type 0
CodeRead name bytes (given code) = (length bytes ≤ SPLIT_FILE_BYTES) × (file_code bytes ≡ Ok code)
CodeRead name bytes (stopped verdict) =
    ((SPLIT_FILE_BYTES < length bytes) × (verdict ≡ too_long name))
    ⊎ ((why : SplitError) × (length bytes ≤ SPLIT_FILE_BYTES) × (file_code bytes ≡ Err why)
    × (verdict ≡ bad_code name why))

abbrev pub FromCode : (name code hosts file start : List ℕ) → StageEnd NodeSource → Type 0
FromCode name code hosts file start =
    Then (CodeRead name code) (λ code. Then (HostsRead hosts) (Valued file start code))

-- ---- the node's host

-- the number of the first row of this name
abbrev pub IsHostNamed : HostsShape → List ℕ → HostId → Type 0
IsHostNamed hosts name me =
    (row : HostShape) × (slice_get hosts.hosts me.0 ≡ Some row) × (row.name ≡ name)
    × All (λ other. other.name ≢ name) (take me.0 hosts.hosts)

-- the hosts of a code are those of a host file, with their names and labels
abbrev pub named_host : HostShape → CodeHostShape
named_host row = record { name = row.name; label = row.label }

abbrev pub AreHostsOf : CodeShape → List HostShape → Type 0
AreHostsOf code rows = map named_host rows ≡ code.hosts

-- What a node is of a source: the number of the host of a name. It is refused where the host file has no such host, and
-- then where the code's hosts are not those of the host file.
pub record NodeStart : Type 0 where
  pub source : NodeSource
  pub me : HostId

-- the files have the code and the hosts
abbrev pub OfHost : (name code hosts : List ℕ) → NodeSource → StageEnd NodeStart → Type 0
OfHost name code hosts source (given node) =
    (node.source ≡ source) × IsHostNamed source.hosts name node.me × AreHostsOf source.code source.hosts.hosts
OfHost name code hosts source (stopped verdict) =
    (All (λ row. row.name ≢ name) source.hosts.hosts × (verdict ≡ no_host name))
    ⊎ ((me : HostId) × IsHostNamed source.hosts name me × (¬ AreHostsOf source.code source.hosts.hosts)
    × (verdict ≡ other_hosts code hosts))

-- ---- the node's part

-- what is due where a host's part of the code of a file is refused; that memory ran out is said elsewhere
abbrev pub PartRefused : (file : List ℕ) → VerifyError → VerdictShape → Type 0
PartRefused file unsound.OutOfMemory verdict = ⊥
PartRefused file (unsound.WeakEntry entry place) verdict = verdict ≡ weak_entry file entry place
PartRefused file (unsound.Reveals place) verdict = verdict ≡ reveals file place

-- A host that is given the code of a split file looks at its own part first, and does not run a part that is not sound.
-- Of the code of a program it takes its own word.
abbrev pub PartChecked : SourceName → NodeStart → StageEnd NodeStart → Type 0
PartChecked (from_program name) node end = end ≡ given node
PartChecked (from_code name) node (given same) = (same ≡ node) × IsSoundPart node.source.code node.me
PartChecked (from_code name) node (stopped verdict) =
    (why : VerifyError) × IsPartRefusedFor node.source.code node.me why × PartRefused name why verdict

-- ---- all stages, where the files hold these bytes

abbrev pub NodeSources : SourceName → (source hosts file start : List ℕ) → StageEnd NodeSource → Type 0
NodeSources (from_program name) source hosts file start = FromProgram source hosts file start
NodeSources (from_code name) source hosts file start = FromCode name source hosts file start

-- ---- in the program

abbrev pub node_source : native.NodeSource → NodeSource
node_source source = record { code = source.code; hosts = source.hosts; values = source.store }

abbrev pub node_start : native_start.NodeStart → NodeStart
node_start node = record { source = node_source node.source; me = node.me }

-- the node's host is one of the code's
abbrev pub IsStarted : native_start.NodeStart → Type 0
IsStarted node =
    (node.me.0 < length node.source.hosts.hosts) × AreHostsOf node.source.code node.source.hosts.hosts
