-- A node from its words and files to its end: what is due, and what is left of links and journal.
use Rattle.std.specs.Prelude.{◌≡◌, ◌⊎◌, ◌<◌, ℕ, false, List, [], ◌∷◌, length, map, Option, Some, None, slice_get}
use Rattle.std.specs.Option.{option_map, option_to_list}
use Rattle.js_base.specs.Counts.{last_count}
use Rattle.js_base.specs.declared.status.Status.{Status}
use Rattle.js_base.specs.declared.status.Status.TheVariants as status
use Rattle.host_core.specs.Start.{host_at_start}
use Rattle.host_decl.specs.Hosts as declared_hosts
use Rattle.front_end.specs.declared.stop.Stop.{Stop}
use Rattle.front_end.specs.declared.stop.Stop.TheVariants as stop
use Rattle.front_end.specs.Loading.{StopsLoading}
use Rattle.front_end.specs.Loads.{FilesChange, LoadsWell, Told as TellsFile}
use Rattle.front_end.specs.Stages.{StageEnd, given, stopped}
use Rattle.front_end.specs.Refusals.{RefusalShape, refusal_shape, refusal_status}
use Rattle.front_end.specs.Verdicts.{VerdictShape, Refuse, Print, verdict_shape}
use Rattle.node_links.specs.Journals.{JournalIsNamed}
use Rattle.node_engine.specs.declared.node_end.NodeEnd as native
use Rattle.node_engine.specs.Beginnings.{NodeBeginning, BeginsNothing, EndsUnbegun, LinksBegan}
use Rattle.node_starts.specs.NodeSources.{NodeStart}
use Rattle.node_engine.specs.ReadyNodes.{ReadyNode, ReadyNodes}
use Rattle.node_engine.specs.NodeWorlds.{Inside, NodeWorld}
use Rattle.node_engine.specs.Options.{Asked, IsAsked}
use Rattle.node_starts.specs.SourceNames.{name_of}
use Rattle.node_engine.specs.Serving.{Serves}
use Rattle.node_engine.specs.Statuses.{IsEnded, IsServed}
use Rattle.node_engine.specs.Told.{JournalNames, NodeChange, Outside, IsAllTold, TellsOf}

-- ---- files

-- the files that are loaded for a node, in order
abbrev pub files_of : Asked → List (List ℕ)
files_of asked = name_of asked.source ∷ asked.hosts ∷ asked.start ∷ option_to_list asked.seals

-- one of them was not loaded
abbrev pub NotLoaded : Asked → FilesChange → StageEnd ReadyNode → Type 0
NotLoaded asked files (given node) = ⊥
NotLoaded asked files (stopped verdict) = StopsLoading (files_of asked) files verdict

-- what files tell of the file of keys, where one is asked for; otherwise there are none
abbrev pub TellsKeys : Option (List ℕ → Option (List ℕ)) → Option (List ℕ) → List ℕ → Type 0
TellsKeys held None keys = keys ≡ []
TellsKeys held (Some name) keys = TellsFile held name (Some keys)

-- all were, and hold bytes that give this node or are refused
pub record LoadedNode (asked : Asked) (files : FilesChange) (end : StageEnd ReadyNode) : Type 0 where
  pub loads : LoadsWell (length (files_of asked)) files
  pub source : List ℕ
  pub hosts : List ℕ
  pub start : List ℕ
  pub keys : List ℕ
  pub source_told : TellsFile files.held (name_of asked.source) (Some source)
  pub hosts_told : TellsFile files.held asked.hosts (Some hosts)
  pub start_told : TellsFile files.held asked.start (Some start)
  pub keys_told : TellsKeys files.held asked.seals keys
  pub starts : ReadyNodes asked source hosts start keys end

-- the node that is asked for, or what is due where there is none
abbrev pub IsNodeDue : Asked → FilesChange → StageEnd ReadyNode → Type 0
IsNodeDue asked files end = NotLoaded asked files end ⊎ LoadedNode asked files end

-- ---- ends

-- the status with which a node ends, and the refusal, where one was due
pub record End : Type 0 where
  pub status : Status
  pub refusal : Option RefusalShape

abbrev pub without_refusal : Status → End
without_refusal answer = record { status = answer; refusal = None }

-- nothing is printed by a node, so what is due where it stops is a refusal
abbrev pub end_of : VerdictShape → End
end_of (Refuse refusal) = record { status = refusal_status refusal; refusal = Some refusal }
end_of (Print answer text) = without_refusal status.InputRefused

abbrev pub IsEndOf : Stop → End → Type 0
IsEndOf stop.OutOfMemory end = end ≡ without_refusal status.NoMemory
IsEndOf (stop.Due verdict) end = end ≡ end_of (verdict_shape verdict)

-- how a node of the program ends
abbrev pub end_shape : native.NodeEnd → End
end_shape end = record { status = end.status; refusal = option_map refusal_shape end.refusal }

-- ---- the run

-- with what the node of a row begins
abbrev pub beginning_of : NodeStart → declared_hosts.HostShape → NodeBeginning
beginning_of node row = record {
  me = node.me;
  paths = map (λ (other : declared_hosts.HostShape). other.path) node.source.hosts.hosts;
  name = row.name;
}

-- what is inside of the node of a row as it starts: its host, with the key of the row, and its seals
abbrev pub inside_at_start : ReadyNode → declared_hosts.HostShape → Inside
inside_at_start node row = record {
  host = host_at_start node.start.source.code node.start.source.values row.key node.start.me;
  seals = node.seals;
}

-- It began, and then served; and where links and journal tell what they gave and took, it did so from what is
-- inside of it as it starts. A journal says nothing of its names when something is put: so they are said of the moment
-- before the first put. Links keep as whom they began.
pub record ServesNode
    (turns : ℕ) (node : ReadyNode) (row : declared_hosts.HostShape) (answer : Status) (change : NodeChange)
    (reaches : JournalNames → Type 0) : Type 0 where
  pub links : LinksBegan (beginning_of node.start row) change
  pub names : JournalNames
  pub named : JournalIsNamed row.name change.names_before names
  pub reached : reaches names
  pub served : IsServed answer
  pub runs : (world : NodeWorld) →
      IsAllTold world
      (record { inside = inside_at_start node row; outside = change.old }) →
      world.ended ≡ false →
      (later : Inside) × TellsOf (Serves node.start.source.code node.start.me turns answer world)
      (record { inside = later; outside = change.new })

-- a node of a row of the host file does not come to its first unit, or serves
abbrev pub RunsNode : ℕ → ReadyNode → Status → NodeChange → (JournalNames → Type 0) → Type 0
RunsNode turns node answer change reaches =
    (row : declared_hosts.HostShape) × (slice_get node.start.source.hosts.hosts node.start.me.0 ≡ Some row)
    × (EndsUnbegun (beginning_of node.start row) answer change ⊎ ServesNode turns node row answer change reaches)

-- ---- answers

-- a node that is asked for: it is refused or memory runs out before it begins; or it runs
abbrev pub OptionsAnswer : Asked → FilesChange → End → NodeChange → (JournalNames → Type 0) → Type 0
OptionsAnswer asked files end change reaches =
    (((end ≡ without_refusal status.NoMemory)
    ⊎ ((verdict : VerdictShape) × IsNodeDue asked files (stopped verdict) × (end ≡ end_of verdict)))
    × BeginsNothing change)
    ⊎ ((node : ReadyNode) × IsNodeDue asked files (given node)
    × RunsNode asked.turns node end.status change reaches × (end.refusal ≡ None))

-- words ask for a node, or they ask for none, or memory ran out
abbrev pub NodeAnswer : List (List ℕ) → FilesChange → End → NodeChange → (JournalNames → Type 0) → Type 0
NodeAnswer words files end change reaches =
    ((end ≡ without_refusal status.NoMemory) × BeginsNothing change)
    ⊎ ((end ≡ without_refusal status.Usage) × ((asked : Asked) → ¬ IsAsked words asked) × BeginsNothing change)
    ⊎ ((asked : Asked) × IsAsked words asked × OptionsAnswer asked files end change reaches)

-- of the status alone
abbrev pub NodeAnswers : List (List ℕ) → FilesChange → Status → NodeChange → (JournalNames → Type 0) → Type 0
NodeAnswers words files answer change reaches =
    (refusal : Option RefusalShape)
    × NodeAnswer words files (record { status = answer; refusal = refusal }) change reaches

-- ---- files that are accepted

-- these keys are held, where a file of them is asked for
abbrev pub HoldsKeys : (List ℕ → Option (List ℕ)) → Option (List ℕ) → List ℕ → Type 0
HoldsKeys holds None keys = keys ≡ []
HoldsKeys holds (Some name) keys = holds name ≡ Some keys

-- what the files of a node hold gives this node
pub record HoldsNode (asked : Asked) (holds : List ℕ → Option (List ℕ)) (node : ReadyNode) : Type 0 where
  pub source : List ℕ
  pub hosts : List ℕ
  pub start : List ℕ
  pub keys : List ℕ
  pub source_is : holds (name_of asked.source) ≡ Some source
  pub hosts_is : holds asked.hosts ≡ Some hosts
  pub start_is : holds asked.start ≡ Some start
  pub keys_is : HoldsKeys holds asked.seals keys
  pub starts : ReadyNodes asked source hosts start keys (given node)

-- Where the files that the words name are accepted, and neither they nor links nor journal count a fault, the node ends
-- as one does where nothing outside fails.
abbrev pub IsComplete : List (List ℕ) → FilesChange → Status → (old new : Outside) → Type 0
IsComplete words files answer old new =
    (asked : Asked) (node : ReadyNode) (holds : List ℕ → Option (List ℕ)) → IsAsked words asked →
    files.held ≡ Some holds → HoldsNode asked holds node → files.faults_after ≡ files.faults_before →
    files.faults_before < last_count → new.links.faults ≡ old.links.faults → old.links.faults < last_count →
    new.journal.faults ≡ old.journal.faults → old.journal.faults < last_count → IsEnded answer
