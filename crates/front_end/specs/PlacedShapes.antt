-- A program with its places, as contracts see it, and what holds of it always.
use Rattle.std.specs.Prelude.{◌≡◌, length}
use Rattle.jif_tree.specs.Numbering.{CountsFrom, statement_numbers}
use Rattle.jif_tree.specs.Trees.{program_tree}
use Rattle.need_labels.specs.Needs.{NeedsShape}
use Rattle.need_labels.specs.Plan.{PlanShape}
use Rattle.place_rules.specs.Allowed.{AllowedShape}
use Rattle.split_rules.specs.Splittable.{IsSplittable}
use Rattle.front_end.specs.PlacedCode.{program_of}
use Rattle.front_end.specs.PlacedSources.{PlacedSource}
use Rattle.front_end.specs.SourceShapes.{SourceModel, source_shape}

-- an accepted program with its hosts, what it needs of them, which of them may hold what, and where it stands
pub record PlacedModel : Type 0 where
  pub source : SourceModel
  pub needs : NeedsShape
  pub allowed : AllowedShape
  pub plan : PlanShape

abbrev pub placed_shape : PlacedModel → PlacedSource
placed_shape placed = record {
  source = source_shape placed.source;
  needs = placed.needs;
  allowed = placed.allowed;
  plan = placed.plan;
}

-- its plan has a host for each field, its statements are numbered in the order of the text, and its code can be made
pub record IsWellPlaced (placed : PlacedModel) : Type 0 where
  pub each : length placed.plan.fields ≡ length placed.source.checked.program.fields.items
  pub statements : CountsFrom 0 (statement_numbers (program_tree placed.source.checked.program))
  pub splittable : IsSplittable (program_of (placed_shape placed))
