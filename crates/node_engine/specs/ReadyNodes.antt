-- A node that is ready to run: what it begins with, which host it is, and its seals.
use Rattle.std.specs.Prelude.{◌≡◌, ℕ, List, Option, Some, None}
use Rattle.std.specs.Prelude.{Result, Ok, Err}
use Rattle.host_code.specs.MessageText.{host_text}
use Rattle.front_end.specs.Stages.{StageEnd, given, stopped, Then}
use Rattle.front_end.specs.Refusals as refusals
use Rattle.front_end.specs.Verdicts.{VerdictShape, Refuse, no_form, too_long}
use Rattle.node_engine.specs.declared.node_files.ReadyNode as native_ready
use Rattle.node_seals.specs.declared.seals_file.SealsError.{SealsError}
use Rattle.node_seals.specs.declared.seals_file.SealsError.TheVariants as error
use Rattle.node_seals.specs.Seals.{SealsShape}
use Rattle.node_seals.specs.SealsFile.{seals_of}
use Rattle.node_starts.specs.SourceNames.{name_of}
use Rattle.node_engine.specs.Options.{Asked}
use Rattle.node_starts.specs.NodeSources.{NodeSources, NodeStart, OfHost, PartChecked, node_start}

-- the file of keys has none for the link to this host, or none for the link from it
abbrev pub no_key : (file host : List ℕ) → VerdictShape
no_key file host = Refuse (refusals.NoKey file host)

-- with the number of the node's host, before this has looked at its part
abbrev pub HostFound : Asked → (source hosts start : List ℕ) → StageEnd NodeStart → Type 0
HostFound asked source hosts start =
    Then (NodeSources asked.source source hosts asked.start start)
    (OfHost asked.host (name_of asked.source) asked.hosts)

abbrev pub NodeStarts : Asked → (source hosts start : List ℕ) → StageEnd NodeStart → Type 0
NodeStarts asked source hosts start = Then (HostFound asked source hosts start) (PartChecked asked.source)

-- ---- the seals

-- a node that is ready to run: what it is, and its seals
pub record ReadyNode : Type 0 where
  pub start : NodeStart
  pub seals : SealsShape

-- by what a file of keys gives
abbrev pub SealedBy : (file : List ℕ) → NodeStart → Result SealsShape SealsError → StageEnd ReadyNode → Type 0
SealedBy file node (Ok seals) end = end ≡ given (record { start = node; seals = seals })
SealedBy file node (Err error.TooLong) end = end ≡ stopped (too_long file)
SealedBy file node (Err (error.BadLine line)) end = end ≡ stopped (no_form file line)
SealedBy file node (Err (error.NoKey host)) end = end ≡ stopped (no_key file (host_text node.source.code host))
SealedBy file node (Err error.OutOfMemory) end = ⊥

-- the file of keys gives the seals where one is asked for, and otherwise nothing is sealed
abbrev pub Sealed : Option (List ℕ) → (keys : List ℕ) → NodeStart → StageEnd ReadyNode → Type 0
Sealed None keys node end = end ≡ given (record { start = node; seals = None })
Sealed (Some file) keys node end = SealedBy file node (seals_of node.source.code node.me keys) end

abbrev pub ReadyNodes : Asked → (source hosts start keys : List ℕ) → StageEnd ReadyNode → Type 0
ReadyNodes asked source hosts start keys = Then (NodeStarts asked source hosts start) (Sealed asked.seals keys)

-- ---- in the program

abbrev pub ready_node : native_ready.ReadyNode → ReadyNode
ready_node node = record { start = node_start node.start; seals = node.seals }
