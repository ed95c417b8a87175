-- What hosts that all obey promise together, where they run the code of a split program: their fields follow the plain
-- run of the program.
use Rattle.std.specs.Prelude.{◌≡◌, ◌⊎◌, ℕ, ℤ, List, Some, slice_get}
use Rattle.js_base.specs.declared.ids.HostId.{HostId}
use Rattle.host_decl.specs.Hosts as declared_hosts
use Rattle.jif_tree.specs.declared.program.Program.{Program}
use Rattle.jif_tree.specs.Store.{row_of}
use Rattle.jif_tree.specs.SourceRun.{Configuration, IsAtEnd, step, configuration_at_start, prefix, HasLength}
use Rattle.jif_tree.specs.Results.{AreGivenBack, AreUnread}
use Rattle.jif_tree.specs.Trees.{program_tree}
use Rattle.host_code.specs.Code.{CodeShape, CodeFieldShape}
use Rattle.host_core.specs.Host.{HostState}
use Rattle.event_text.specs.declared.event.Event.{Event}
use Rattle.need_labels.specs.Needs.{AreNeedsOf}
use Rattle.split_rules.specs.Placed.{PlacedProgram}
use Rattle.split_rules.specs.Allowed.{IsAllowed}
use Rattle.split_rules.specs.Asking.{AreGranted}
use Rattle.split_rules.specs.Held.{IsWellHeld}
use Rattle.split_rules.specs.SplitCode.{split_code}
use Rattle.split_rules.specs.Splittable.{IsSplittable}
use Rattle.net_world.specs.Choice.{NoneRuns, NothingFlies}
use Rattle.net_world.specs.Together.{Together}
use Rattle.net_world.specs.World.{WorldShape, world_at_start, state_at, has_halted}
use Rattle.simulation.specs.Programs.{AreParamsInOrder}

-- A program, its needs, and a plan by which it can be split, so that hosts may hold what stands on them, are trusted
-- for it, and grant each other's requests. Methods give their results back at their end, and nothing else reads these.
pub record IsSet (program : Program) (placed : PlacedProgram)
    : Type 0 where
  pub is : program_tree program ≡ placed.labelled.program
  pub splittable : IsSplittable placed
  pub needs_of : AreNeedsOf placed.hosts.principals placed.labelled placed.needs
  pub allowed : IsAllowed placed
  pub held : IsWellHeld placed
  pub granted : AreGranted (split_code placed)
  pub given_back : AreGivenBack placed.labelled.program
  pub unread : AreUnread placed.labelled.program
  pub in_order : AreParamsInOrder placed.labelled.program

-- each field has on its host what the store has
abbrev pub FieldsAre : CodeShape → WorldShape → List (List ℤ) → Type 0
FieldsAre code world store =
    (number : ℕ) (field : CodeFieldShape) (state : HostState) → slice_get code.fields number ≡ Some field →
    state_at world field.host ≡ Some state → row_of state.rows number ≡ row_of store number

-- The fields are those of the configuration, which is at its end where the program has halted. Where no thread runs and
-- nothing is in flight the program has halted. No message was ignored.
pub record StandsPlainly (code : CodeShape) (world : WorldShape) (c : Configuration) : Type 0 where
  pub fields : FieldsAre code world c.store
  pub halted : has_halted code.root world → IsAtEnd c
  pub idle : NoneRuns world → NothingFlies world → has_halted code.root world
  pub none_ignored : (host : HostId) (state : HostState) → state_at world host ≡ Some state → state.ignored ≡ 0

-- the plain run makes no step, or its next one
abbrev pub GoesOnPlainly : Program → Configuration → Configuration → Type 0
GoesOnPlainly program c now = (now ≡ c) ⊎ ((¬ IsAtEnd c) × (now ≡ step program c))

-- Where nobody misbehaves, events leave a world, and all along the hosts stand for what the plain run has come to.
abbrev pub FollowsPlainRun : Program → CodeShape → List declared_hosts.HostShape → List (List ℤ) → List Event →
    WorldShape →
    Type 0
FollowsPlainRun program code rows store events last =
    Together (StandsPlainly code) (GoesOnPlainly program) code (world_at_start code rows 0 store)
    (configuration_at_start program store) events last

-- The fields of a world are those after so many steps of the plain run, which is at its end then, and not before, where
-- the program has halted.
pub record CountedSteps (program : Program) (code : CodeShape) (store : List (List ℤ)) (world : WorldShape) : Type 0
  where
    pub steps : ℕ
    pub fields : FieldsAre code world (prefix program store steps).store
    pub halted : has_halted code.root world → HasLength program store steps
