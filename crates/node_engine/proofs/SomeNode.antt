-- Whatever the files of a node hold, a node is due, or a refusal.
use Rattle.std.proofs.Common.{◌≢◌, ℕ, List, [], ◌∷◌, length, Some, Ok, Err}
use Rattle.std.proofs.Common.{Bool, true, false, if◌then◌else◌, Option, None, Result, refl}
use Rattle.std.specs.Prelude.{⊤, nat_lt}
use Rattle.event_text.specs.Lines.{LineShape, said_lines}
use Rattle.js_base.specs.declared.ids.HostId.{HostId}
use Rattle.host_code.specs.Code.{CodeShape}
use Rattle.front_end.proofs.SomeStages.{HasOutcome, some_then}
use Rattle.node_seals.specs.declared.seals_file.SealsError.{SealsError}
use Rattle.node_seals.specs.declared.seals_file.SealsError.TheVariants as error
use Rattle.node_seals.specs.declared.seals_file.TheConstants.{SEALS_BYTES}
use Rattle.node_starts.specs.NodeSources.{NodeSources, NodeStart, OfHost}
use Rattle.node_engine.specs.ReadyNodes.{HostFound, NodeStarts}
use Rattle.node_starts.specs.NodeSources.{PartChecked}
use Rattle.node_engine.specs.ReadyNodes.{ReadyNodes, Sealed, SealedBy}
use Rattle.node_seals.specs.Seals.{SealedLinks, SealsShape}
use Rattle.node_seals.specs.SealsFile.{behind_line, behind_lines, first_lacking, no_links, or_bad_line, seals_of}
use Rattle.node_seals.specs.SealsFile.{unless_lacking, whole_links, with_line}
use Rattle.node_engine.specs.Options.{Asked}
use Rattle.node_starts.specs.SourceNames.{name_of}
use Rattle.node_starts.proofs.SomeSource.{SomeSources, source_some, host_some, part_some}

found_some : SomeSources → (asked : Asked) (source hosts start : List ℕ) →
    HasOutcome (HostFound asked source hosts start)
found_some laws asked source hosts start =
    some_then (NodeSources asked.source source hosts asked.start start)
    (OfHost asked.host (name_of asked.source) asked.hosts)
    (source_some laws asked.source source hosts asked.start start)
    (λ it was. host_some asked.host (name_of asked.source) asked.hosts it)

pub node_some : SomeSources → (asked : Asked) (source hosts start : List ℕ) →
    HasOutcome (NodeStarts asked source hosts start)
node_some laws asked source hosts start =
    some_then (HostFound asked source hosts start) (PartChecked asked.source) (found_some laws asked source hosts start)
    (λ it was. part_some laws asked.source it)

-- ---- seals

-- no want of memory is told of what a file says
abbrev NotMemory : {X : Type 0} → Result X SealsError → Type 0
NotMemory (Ok x) = ⊤
NotMemory (Err why) = why ≢ error.OutOfMemory

line_not : (number : ℕ) (links : Option SealedLinks) → NotMemory (or_bad_line number links)
line_not number None = λ same. cc
line_not number (Some links) = tt

behind_not : (code : CodeShape) (me : HostId) (line : LineShape) (links : Result SealedLinks SealsError) →
    NotMemory links → NotMemory (behind_line code me links line)
behind_not code me line (Ok links) not = line_not line.number (with_line code me line.words links)
behind_not code me line (Err why) not = not

lines_not : (code : CodeShape) (me : HostId) (lines : List LineShape) (links : Result SealedLinks SealsError) →
    NotMemory links → NotMemory (behind_lines code me lines links)
lines_not code me [] links not = not
lines_not code me (line ∷ others) links not =
    lines_not code me others (behind_line code me links line) (behind_not code me line links not)

lacking_not : (links : SealedLinks) (host : Option HostId) → NotMemory (unless_lacking links host)
lacking_not links None = tt
lacking_not links (Some host) = λ same. cc

whole_not : (code : CodeShape) (me : HostId) (links : Result SealedLinks SealsError) → NotMemory links →
    NotMemory (whole_links code me links)
whole_not code me (Ok links) not = lacking_not links (first_lacking links me 0 (length code.hosts))
whole_not code me (Err why) not = not

unless_long : (long : Bool) (keys : Result SealsShape SealsError) → NotMemory keys →
    NotMemory (if long then Err error.TooLong else keys)
unless_long true keys not = λ same. cc
unless_long false keys not = not

seals_not : (code : CodeShape) (me : HostId) (bytes : List ℕ) → NotMemory (seals_of code me bytes)
seals_not code me bytes =
    unless_long (nat_lt SEALS_BYTES (length bytes)) _
    (whole_not code me _ (lines_not code me (said_lines bytes) (Ok (no_links (length code.hosts))) tt))

seals_some : (file : List ℕ) (node : NodeStart) (keys : Result SealsShape SealsError) → NotMemory keys →
    HasOutcome (SealedBy file node keys)
seals_some file node (Ok seals) not = (_, refl)
seals_some file node (Err error.OutOfMemory) not = absurd (not refl)
seals_some file node (Err error.TooLong) not = (_, refl)
seals_some file node (Err (error.BadLine line)) not = (_, refl)
seals_some file node (Err (error.NoKey host)) not = (_, refl)

sealed_some : (seals : Option (List ℕ)) (keys : List ℕ) (node : NodeStart) → HasOutcome (Sealed seals keys node)
sealed_some None keys node = (_, refl)
sealed_some (Some file) keys node =
    seals_some file node (seals_of node.source.code node.me keys) (seals_not node.source.code node.me keys)

pub ready_some : SomeSources → (asked : Asked) (source hosts start keys : List ℕ) →
    HasOutcome (ReadyNodes asked source hosts start keys)
ready_some laws asked source hosts start keys =
    some_then (NodeStarts asked source hosts start) (Sealed asked.seals keys)
    (node_some laws asked source hosts start) (λ it was. sealed_some asked.seals keys it)
