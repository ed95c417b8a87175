-- Where a node is not given its beginning, a refusal is due, and never a report.
use Rattle.std.proofs.Common.{◌≡◌, ℕ, List, Option, Some, None, Result, Ok, Err, refl}
use Rattle.front_end.specs.Stages.{StageEnd, given, stopped}
use Rattle.front_end.specs.Verdicts.{VerdictShape}
use Rattle.node_seals.specs.declared.seals_file.SealsError.{SealsError}
use Rattle.node_seals.specs.declared.seals_file.SealsError.TheVariants as error
use Rattle.node_starts.specs.NodeSources.{NodeSources, NodeStart, OfHost}
use Rattle.node_engine.specs.ReadyNodes.{HostFound, NodeStarts}
use Rattle.node_starts.specs.NodeSources.{PartChecked}
use Rattle.node_engine.specs.ReadyNodes.{ReadyNode, ReadyNodes, Sealed}
use Rattle.node_engine.specs.ReadyNodes.{SealedBy}
use Rattle.node_seals.specs.Seals.{SealsShape}
use Rattle.node_seals.specs.SealsFile.{seals_of}
use Rattle.node_engine.specs.Options.{Asked}
use Rattle.node_starts.specs.SourceNames.{name_of}
use Rattle.node_starts.proofs.SourceRefusals.{Refuses, is_refused, then_refuses, source_refuses, host_refuses}
use Rattle.node_starts.proofs.SourceRefusals.{checked_refuses}

found_refuses : (asked : Asked) (source hosts start : List ℕ) → Refuses (HostFound asked source hosts start)
found_refuses asked source hosts start =
    then_refuses (NodeSources asked.source source hosts asked.start start)
    (OfHost asked.host (name_of asked.source) asked.hosts)
    (source_refuses asked.source source hosts asked.start start)
    (λ it. host_refuses asked.host (name_of asked.source) asked.hosts it)

pub node_refuses : (asked : Asked) (source hosts start : List ℕ) → Refuses (NodeStarts asked source hosts start)
node_refuses asked source hosts start =
    then_refuses (HostFound asked source hosts start) (PartChecked asked.source)
    (found_refuses asked source hosts start) (λ it. checked_refuses asked.source it)

-- a node that stops with what it stops with
stopped_once : (verdict other : VerdictShape) (first second : StageEnd ReadyNode) → first ≡ stopped verdict →
    second ≡ stopped other → first ≡ second → verdict ≡ other
stopped_once verdict other first second one two is = cc

seals_refuse : (file : List ℕ) (node : NodeStart) (keys : Result SealsShape SealsError) →
    Refuses (SealedBy file node keys)
seals_refuse file node (Ok seals) verdict is = absurd (let never : ⊥ = cc in never)
seals_refuse file node (Err error.OutOfMemory) verdict is = absurd is
seals_refuse file node (Err error.TooLong) verdict is = is_refused verdict _ (stopped_once verdict _ _ _ refl refl is)
seals_refuse file node (Err (error.BadLine line)) verdict is = is_refused verdict _
    (stopped_once verdict _ _ _ refl refl is)
seals_refuse file node (Err (error.NoKey host)) verdict is = is_refused verdict _
    (stopped_once verdict _ _ _ refl refl is)

sealed_refuses : (seals : Option (List ℕ)) (keys : List ℕ) (node : NodeStart) → Refuses (Sealed seals keys node)
sealed_refuses None keys node verdict is = absurd (let never : ⊥ = cc in never)
sealed_refuses (Some file) keys node verdict is =
    seals_refuse file node (seals_of node.source.code node.me keys) verdict is

pub ready_refuses : (asked : Asked) (source hosts start keys : List ℕ) →
    Refuses (ReadyNodes asked source hosts start keys)
ready_refuses asked source hosts start keys =
    then_refuses (NodeStarts asked source hosts start) (Sealed asked.seals keys)
    (node_refuses asked source hosts start) (λ it. sealed_refuses asked.seals keys it)
