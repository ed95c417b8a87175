-- A table of what names entries has a place for each of them.
use Rattle.std.proofs.Common.{◌≡◌, ℕ, List, [], ◌∷◌, Option, Some, None, length, replicate, refl, ◌∙◌}
use Rattle.std.specs.Prelude.{slice_get}
use Rattle.std.proofs.lemmas.List.{length-replicate, length-set}
use Rattle.js_base.specs.declared.ids.EntryId.{EntryId}
use Rattle.js_base.specs.declared.ids.StmtId.{StmtId}
use Rattle.host_code.specs.Code.{CodeShape, instruction_at}
use Rattle.host_code.specs.declared.instruction.Instr.{Instr}
use Rattle.plan_ways.specs.Levels.{named_by, naming_noted, namings_of, note_named, with_naming, with_namings}
use Rattle.plan_ways.specs.Tables.{noted_at}
use Rattle.plan_ways.specs.declared.levels.Naming.{Naming}
use Rattle.plan_ways.specs.declared.stands.Place.{Place}
use Rattle.plan_ways.specs.declared.stands.Stand.{Stand}

noted_count : {A : Type 0} (table : List (Option A)) (place : ℕ) (value : A) (found : Option (Option A)) →
    length (noted_at table place value found) ≡ length table
noted_count table place value (Some None) = length-set table place (Some value)
noted_count table place value (Some (Some earlier)) = refl
noted_count table place value None = refl

named_count : (table : List (Option Naming)) (stand : Stand) (statement : StmtId) (entry : Option EntryId) →
    length (note_named table stand statement entry) ≡ length table
named_count table stand statement None = refl
named_count table stand statement (Some entry) =
    noted_count table entry.0 (record { statement = statement; stand = stand }) (slice_get table entry.0)

naming_count : (table : List (Option Naming)) (stand : Stand) (found : Option Instr) →
    length (naming_noted table stand found) ≡ length table
naming_count table stand None = refl
naming_count table stand (Some instruction) =
    named_count table stand instruction.statement (named_by instruction.op)

all_counts : (code : CodeShape) (table : List (Option Naming)) (places : List Place) →
    length (with_namings code table places) ≡ length table
all_counts code table [] = refl
all_counts code table (place ∷ places) =
    all_counts code (with_naming code table place) places
    ∙ naming_count table place.stand (instruction_at code place.host place.at)

pub namings_count : (code : CodeShape) (places : List Place) → length (namings_of code places) ≡ length code.entries
namings_count code places =
    all_counts code (replicate (length code.entries) None) places ∙ length-replicate (length code.entries) None
