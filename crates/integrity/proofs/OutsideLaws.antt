-- The laws of worlds in which all that goes on could be the doing of misbehaving hosts.
use Rattle.std.proofs.Common.{ℕ, ℤ, List, refl, sym, subst, Option, Some, None}
use Rattle.std.specs.Prelude.{All, IsSomeAnd, slice_get}
use Rattle.std.specs.Option.{option_map}
use Rattle.std.proofs.lemmas.Option.{slice_get-map}
use Rattle.label_lattice.specs.declared.label.Label.{Label}
use Rattle.label_lattice.specs.Label.{IntegFlows}
use Rattle.jif_tree.specs.Trees.{FieldTree}
use Rattle.host_code.specs.Sound.{IsSoundCode}
use Rattle.event_text.specs.declared.event.Event.{Event}
use Rattle.net_world.specs.Fits.{HasOwnToken}
use Rattle.net_world.specs.World.{WorldShape, IsStep, IsRun, world_at_start}
use Rattle.split_rules.specs.Placed.{PlacedProgram, planned_from}
use Rattle.split_rules.specs.Allowed.{IsAllowed}
use Rattle.split_rules.specs.Opening.{IsOpenCode, HasOwnLabels}
use Rattle.split_rules.specs.SplitCode.{split_code}
use Rattle.split_rules.specs.Splittable.{IsSplittable}
use Rattle.split_rules.specs.TypedCode.{Table, IsTypedCode}
use Rattle.token_laws.specs.Reached.{IsReached}
use Rattle.token_laws.proofs.Walks.{fits_there}
use Rattle.integrity.specs.Outside.{threat_of, IsOutside}
use Rattle.integrity.proofs.OpenSteps.{IsKnown}
use Rattle.integrity.proofs.OpenWorlds.{StaysOpen, bad_reached, open_step, open_run}

-- what the laws of the splitting say of the code of a program
pub record AreLaws : Type 0 where
  pub opens : (placed : PlacedProgram) (table : Table) → IsSplittable placed → IsAllowed placed →
      IsTypedCode (planned_from placed) (split_code placed) table →
      IsOpenCode (planned_from placed) (split_code placed) table
  pub labels : (placed : PlacedProgram) → IsSplittable placed →
      HasOwnLabels placed.labelled (planned_from placed) (split_code placed)

label_flows : (label : Label) (found : Option FieldTree) → IsSomeAnd found (λ tree. IntegFlows label tree.label) →
    IsSomeAnd (option_map (λ (tree : FieldTree). tree.label) found) (IntegFlows label)
label_flows label None flows = flows
label_flows label (Some tree) flows = flows

pub known : AreLaws → (placed : PlacedProgram) (table : Table) (bad : ℕ) → IsSplittable placed → IsAllowed placed →
    IsTypedCode (planned_from placed) (split_code placed) table →
    IsSoundCode (split_code placed) → IsKnown (threat_of placed table bad)
known laws placed table bad splittable allowed typed sound =
    let own = laws.labels placed splittable in
    record {
      sound = sound;
      opens = laws.opens placed table splittable allowed typed;
      fields = λ label field may.
          subst (λ (o : Option Label). IsSomeAnd o (IntegFlows label))
          (sym (slice_get-map (λ (tree : FieldTree). tree.label) placed.labelled.program.fields field.0))
          (label_flows label (slice_get placed.labelled.program.fields field.0) ((own.of_fields label field).0 may));
      variables = λ label x may. (own.of_variables label x).0 may;
    }

pub kept : AreLaws → (placed : PlacedProgram) (table : Table) (bad : ℕ) (store : List (List ℤ)) (events : List Event)
    (world after : WorldShape) (event : Event) → IsSplittable placed → IsAllowed placed →
    IsTypedCode (planned_from placed) (split_code placed) table →
    IsReached (split_code placed) placed.hosts.hosts bad store events world →
    IsStep (split_code placed) world event after →
    IsOutside (threat_of placed table bad) world →
    StaysOpen (threat_of placed table bad) world after
kept laws placed table bad store events world after event splittable allowed typed reach step =
    let threat = threat_of placed table bad in
    open_step threat (known laws placed table bad splittable allowed typed reach.sound) world after
    event (fits_there threat.code placed.hosts.hosts bad store events world reach)
    (bad_reached threat placed.hosts.hosts bad store events world refl reach) step

pub along : AreLaws → (placed : PlacedProgram) (table : Table) (bad : ℕ) (store : List (List ℤ))
    (events more : List Event) (world after : WorldShape) → IsSplittable placed → IsAllowed placed →
    IsTypedCode (planned_from placed) (split_code placed) table →
    IsReached (split_code placed) placed.hosts.hosts bad store events world →
    All (HasOwnToken (world_at_start (split_code placed) placed.hosts.hosts bad store)) more →
    IsRun (split_code placed) world more after →
    IsOutside (threat_of placed table bad) world →
    StaysOpen (threat_of placed table bad) world after
along laws placed table bad store events more world after splittable allowed typed reach =
    let threat = threat_of placed table bad in
    open_run threat (known laws placed table bad splittable allowed typed reach.sound) placed.hosts.hosts
    bad store events more world after refl reach
