-- A node has one beginning, or is refused with one status.
use Rattle.std.proofs.Common.{◌≡◌, ℕ, List, Option, Some}
use Rattle.std.proofs.Common.{sym, ◌∙◌}
use Rattle.std.proofs.Common.{subst, None, Result, Ok, Err}
use Rattle.js_base.proofs.Options.{some_same}
use Rattle.front_end.specs.Loads.{FilesChange, Told}
use Rattle.front_end.specs.Stages.{StageEnd}
use Rattle.front_end.proofs.Stages.{IsOne, one_then}
use Rattle.node_seals.specs.declared.seals_file.SealsError.{SealsError}
use Rattle.node_seals.specs.declared.seals_file.SealsError.TheVariants as error
use Rattle.node_starts.specs.NodeSources.{NodeSources, NodeStart}
use Rattle.node_engine.specs.ReadyNodes.{HostFound}
use Rattle.node_engine.specs.ReadyNodes.{NodeStarts, ReadyNode}
use Rattle.node_starts.specs.NodeSources.{OfHost, PartChecked}
use Rattle.node_engine.specs.ReadyNodes.{ReadyNodes, Sealed, SealedBy}
use Rattle.node_engine.specs.Nodes.{LoadedNode, TellsKeys}
use Rattle.node_seals.specs.Seals.{SealsShape}
use Rattle.node_seals.specs.SealsFile.{seals_of}
use Rattle.node_engine.specs.Options.{Asked}
use Rattle.node_starts.specs.SourceNames.{name_of}
use Rattle.node_starts.proofs.OneSource.{OneSources, source_once, host_once, part_once}

-- ---- nodes

found_once : OneSources → (asked : Asked) (source hosts start : List ℕ) →
    IsOne (HostFound asked source hosts start)
found_once laws asked source hosts start =
    one_then (NodeSources asked.source source hosts asked.start start)
    (OfHost asked.host (name_of asked.source) asked.hosts)
    (source_once laws asked.source source hosts asked.start start)
    (λ it was. host_once asked.host (name_of asked.source) asked.hosts it)

pub node_once : OneSources → (asked : Asked) (source hosts start : List ℕ) →
    IsOne (NodeStarts asked source hosts start)
node_once laws asked source hosts start =
    one_then (HostFound asked source hosts start) (PartChecked asked.source) (found_once laws asked source hosts start)
    (λ it was. part_once laws asked.source it)

-- the same bytes are held where files tell them
told_once : (holds : List ℕ → Option (List ℕ)) (held : Option (List ℕ → Option (List ℕ))) (name first second : List ℕ) →
    held ≡ Some holds → Told held name (Some first) → Told held name (Some second) → first ≡ second
told_once holds held name first second is one two =
    some_same (holds name) first second
    (subst (λ (it : Option (List ℕ → Option (List ℕ))). Told it name (Some first)) is one)
    (subst (λ (it : Option (List ℕ → Option (List ℕ))). Told it name (Some second)) is two)

-- one outcome of what a file of keys gives
seals_once : (file : List ℕ) (node : NodeStart) (keys : Result SealsShape SealsError) → IsOne (SealedBy file node keys)
seals_once file node (Ok seals) first second one two = one ∙ sym two
seals_once file node (Err error.OutOfMemory) first second one two = absurd one
seals_once file node (Err error.TooLong) first second one two = one ∙ sym two
seals_once file node (Err (error.BadLine line)) first second one two = one ∙ sym two
seals_once file node (Err (error.NoKey host)) first second one two = one ∙ sym two

sealed_once : (seals : Option (List ℕ)) (keys : List ℕ) (node : NodeStart) → IsOne (Sealed seals keys node)
sealed_once None keys node first second one two = one ∙ sym two
sealed_once (Some file) keys node first second one two =
    seals_once file node (seals_of node.source.code node.me keys) first second one two

pub ready_once : OneSources → (asked : Asked) (source hosts start keys : List ℕ) →
    IsOne (ReadyNodes asked source hosts start keys)
ready_once laws asked source hosts start keys =
    one_then (NodeStarts asked source hosts start) (Sealed asked.seals keys) (node_once laws asked source hosts start)
    (λ it was. sealed_once asked.seals keys it)

keys_once : (holds : List ℕ → Option (List ℕ)) (held : Option (List ℕ → Option (List ℕ))) (seals : Option (List ℕ))
    (first second : List ℕ) → held ≡ Some holds → TellsKeys held seals first → TellsKeys held seals second →
    first ≡ second
keys_once holds held None first second is one two = one ∙ sym two
keys_once holds held (Some name) first second is one two = told_once holds held name first second is one two

pub loaded_once : OneSources → (asked : Asked) (files : FilesChange) (holds : List ℕ → Option (List ℕ))
    (first second : StageEnd ReadyNode) → files.held ≡ Some holds → LoadedNode asked files first →
    LoadedNode asked files second → first ≡ second
loaded_once laws asked files holds first second is one two =
    let source = told_once holds files.held (name_of asked.source) one.source two.source is one.source_told
    two.source_told in
    let hosts = told_once holds files.held asked.hosts one.hosts two.hosts is one.hosts_told two.hosts_told in
    let start = told_once holds files.held asked.start one.start two.start is one.start_told two.start_told in
    let keys = keys_once holds files.held asked.seals one.keys two.keys is one.keys_told two.keys_told in
    ready_once laws asked two.source two.hosts two.start two.keys first second
    (subst (λ (bytes : List ℕ). ReadyNodes asked bytes two.hosts two.start two.keys first) source
    (subst (λ (bytes : List ℕ). ReadyNodes asked one.source bytes two.start two.keys first) hosts
    (subst (λ (bytes : List ℕ). ReadyNodes asked one.source one.hosts bytes two.keys first) start
    (subst (λ (bytes : List ℕ). ReadyNodes asked one.source one.hosts one.start bytes first) keys one.starts))))
    two.starts
