-- What is due for an accepted program in its places, for starting values and for the journals of its hosts. No host
-- misbehaves. A file and its name are lists of bytes.
use Rattle.std.specs.Prelude.{◌≡◌, ◌≢◌, ◌<◌, ℕ, ℤ, List, [], length, map, slice_get, unwrap_or}
use Rattle.js_base.specs.declared.ids.HostId.{HostId}
use Rattle.js_base.specs.declared.limits.TheConstants.{SCRIPT_BYTES}
use Rattle.js_base.specs.declared.status.Status.TheVariants.{Done}
use Rattle.jif_tree.specs.declared.program.Program.{Program}
use Rattle.jif_tree.specs.Trees.{program_tree}
use Rattle.event_text.specs.declared.event.Event.{Event}
use Rattle.event_text.specs.ScriptText.{script_text}
use Rattle.event_text.specs.Start.{program_form}
use Rattle.front_end.specs.declared.load.Loaded.{Loaded}
use Rattle.front_end.specs.declared.load.Loaded.TheVariants.{Bytes, TooLong}
use Rattle.front_end.specs.PlacedCode.{code_of}
use Rattle.front_end.specs.PlacedSources.{PlacedSource}
use Rattle.front_end.specs.Refusals as refusals
use Rattle.front_end.specs.Stages.{DueThen}
use Rattle.front_end.specs.Starting.{StartingValues}
use Rattle.front_end.specs.Verdicts.{VerdictShape, Print, Refuse, no_form, no_match, too_long}
use Rattle.net_world.specs.World.{WorldShape, world_at_start}
use Rattle.record_merge.specs.declared.journal.MergeError.{MergeError}
use Rattle.record_merge.specs.declared.journal.MergeError.TheVariants as error
use Rattle.record_merge.specs.Merging.{IsMerged, IsMergeRefusedFor}

-- the world before the first event
abbrev pub first_world : PlacedSource → List (List ℤ) → WorldShape
first_world placed values = world_at_start (code_of placed) placed.source.file.hosts 0 values

-- the name of the journal of a host
abbrev pub name_of : List (List ℕ) → HostId → List ℕ
name_of names host = unwrap_or (slice_get names host.0) []

-- what is due for journals of these names that are not merged
abbrev pub refusal_for : List (List ℕ) → MergeError → VerdictShape
refusal_for names error.OutOfMemory = Refuse refusals.WrongJournals
refusal_for names (error.TooLong host) = too_long (name_of names host)
refusal_for names (error.BadLine host line) = no_form (name_of names host) line
refusal_for names (error.NoMatch host line) = no_match (name_of names host) line

-- What is due for starting values and journals: the script of these values and of the events that the journals tell, or
-- why they tell none.
pub data DueForValues (names journals : List (List ℕ)) (placed : PlacedSource) (values : List (List ℤ)) :
    VerdictShape → Type 0 where
  merged : (events : List Event) → IsMerged (code_of placed) (first_world placed values) journals events →
      DueForValues names journals placed values (Print Done (script_text (code_of placed) 0 values events))
  refused : (why : MergeError) → why ≢ error.OutOfMemory →
      IsMergeRefusedFor (code_of placed) (first_world placed values) journals why →
      DueForValues names journals placed values (refusal_for names why)

-- The same for a file of starting values of this name. All programs with the same tree are told alike.
abbrev pub DueForPlaced : (name : List ℕ) (names : List (List ℕ)) (start : List ℕ) (journals : List (List ℕ)) →
    PlacedSource → VerdictShape → Type 0
DueForPlaced name names start journals placed verdict =
    (program : Program) × (program_tree program ≡ placed.source.tree)
    × DueThen (StartingValues name start (map program_form program.fields.items))
    (DueForValues names journals placed) verdict

-- ---- in the program

-- These bytes stand for what was loaded of a journal: for one that has more than are read, any bytes that are too many.
abbrev pub StandsForJournal : Loaded → List ℕ → Type 0
StandsForJournal (Bytes bytes) held = held ≡ bytes.items
StandsForJournal TooLong held = SCRIPT_BYTES < length held
