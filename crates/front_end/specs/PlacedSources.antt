-- An accepted program with its hosts, and what is chosen for it: which hosts may hold what, and a plan.
use Rattle.std.specs.Prelude.{◌≡◌, ◌≢◌, ℕ, List, map}
use Rattle.jif_tree.specs.LabelRules.{program_labels, variable_labels}
use Rattle.need_labels.specs.Labelled as needs
use Rattle.need_labels.specs.Needs.{NeedsShape, AreNeedsOf}
use Rattle.need_labels.specs.Plan.{PlanShape}
use Rattle.place_rules.specs.Allowed.{AllowedShape}
use Rattle.place_rules.specs.Refusal.{IsPlaceRefused}
use Rattle.place_rules.specs.declared.place_error.PlaceError.{PlaceError}
use Rattle.place_rules.specs.declared.place_error.PlaceError.TheVariants as place
use Rattle.placement.specs.Placing.{IsPlaced}
use Rattle.front_end.specs.Sources.{Source, Sources}
use Rattle.front_end.specs.Stages.{StageEnd, given, stopped, Then}
use Rattle.front_end.specs.Verdicts.{places_refused}

-- the program with the labels that the label check finds
abbrev pub labelled_source : Source → needs.Labelled
labelled_source source = record {
  program = source.tree;
  var_labels = variable_labels source.file.principals source.tree;
  pc = map (λ statement. statement.pc) (program_labels source.file.principals source.tree);
}

pub record PlacedSource : Type 0 where
  pub source : Source
  pub needs : NeedsShape
  pub allowed : AllowedShape
  pub plan : PlanShape

-- these are what the program needs, which hosts may hold its parts, and the plan that is chosen for it
pub record AreChosen (source : Source) (placed : PlacedSource) : Type 0 where
  pub same : placed.source ≡ source
  pub needs : AreNeedsOf source.file.principals (labelled_source source) placed.needs
  pub plan : IsPlaced (labelled_source source) placed.needs source.file placed.allowed placed.plan

-- no host may hold some part of the program
pub record HasNoPlace (source : Source) (why : PlaceError) : Type 0 where
  pub needs : NeedsShape
  pub needs_are : AreNeedsOf source.file.principals (labelled_source source) needs
  pub refused : IsPlaceRefused (labelled_source source) needs source.file why
  pub not_memory : why ≢ place.OutOfMemory

-- a program gets places on its hosts
abbrev pub OnHosts : Source → StageEnd PlacedSource → Type 0
OnHosts source (given placed) = AreChosen source placed
OnHosts source (stopped verdict) =
    (why : PlaceError) × HasNoPlace source why × (verdict ≡ places_refused source.tree why)

-- a program and a host file, up to the places
abbrev pub PlacedSources : List ℕ → List ℕ → StageEnd PlacedSource → Type 0
PlacedSources program hosts = Then (Sources program hosts) OnHosts
