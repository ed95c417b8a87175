-- Hosts that all obey come to an end: each event leaves less of what is enough, but for the steps of the plain run.
use Rattle.std.proofs.Common.{◌≡◌, ℕ, zero, suc, ◌+◌, ◌<◌, ◌≤◌, inl, inr, List, [], ◌∷◌, length, refl, subst}
use Rattle.std.proofs.Common.{arith, None}
use Rattle.std.specs.Prelude.{ℤ, ◌*◌, ◌-◌}
use Rattle.js_base.proofs.Options.{some_or_none}
use Rattle.event_text.specs.declared.event.Event.{Event}
use Rattle.jif_tree.specs.declared.program.Program.{Program}
use Rattle.jif_tree.specs.SourceRun.{IsAtEnd, prefix, HasLength}
use Rattle.host_code.specs.Code.{CodeShape}
use Rattle.net_world.specs.Choice.{IsNextEvent}
use Rattle.net_world.specs.Fits.{ShapeFits}
use Rattle.net_world.specs.World.{WorldShape, IsRun, world_at_start, has_halted}
use Rattle.net_world.proofs.Shapes.{shape_at_start, shape_step}
use Rattle.split_rules.specs.Placed.{PlacedProgram}
use Rattle.split_rules.specs.Pace.{Allowance, IsPaced}
use Rattle.split_rules.specs.SplitCode.{split_code}
use Rattle.split_rules.specs.Splittable.{IsSplittable}
use Rattle.typed_steps.specs.Views.{Split}
use Rattle.typed_steps.specs.Weights.{Paced, STEP}
use Rattle.simulation.specs.Driven.{IsDriven}
use Rattle.simulation.specs.Ending.{EVENTS, HaltsWithin}
use Rattle.simulation.specs.Obeying.{IsSet}
use Rattle.simulation.proofs.Simulates.{Falls, Simulates}
use Rattle.simulation.proofs.Starts.{falls_at_start}
use Rattle.simulation.proofs.Events.{idle_halted}
use Rattle.simulation.proofs.Plainly.{GivesPlain, prefix_kept}
use Rattle.simulation.proofs.Possible.{event_of, happens, none_comes, one_comes}
use Rattle.simulation.proofs.Obeyed.{SplitLaws, typed_split, unaffected, own_tokens}

module _ (plain : GivesPlain) (split : Split) (paced : Paced split) (store : List (List ℤ)) (most : ℕ)
    (ends : IsAtEnd (prefix split.program store most)) where
  -- where the run has not ended, a step is left
  left_one : (n left : ℕ) → n + left ≡ most → ¬ IsAtEnd (prefix split.program store n) → (0 < left)
  left_one n zero all busy =
      let same : most ≡ n = omega arith in
      absurd (busy (subst (λ k. IsAtEnd (prefix split.program store k)) same ends))
  left_one n (suc left) all busy = omega arith

  -- so many events are possible where so many steps of the plain run are left
  counted : (events : List Event) (world after : WorldShape) (n left : ℕ) → n + left ≡ most →
      (sim : Simulates split (prefix split.program store n) world) → ShapeFits split.code world →
      IsRun split.code world events after → length events ≤ sim.fuel + STEP * left
  counted [] world after n left all sim fits ran = omega arith
  counted (event ∷ events) world after n left all sim fits ran =
      let c = prefix split.program store n in
      let next_fits = shape_step split.code world ran.0 event split.sound fits
      (own_tokens split c world ran.0 event sim ran.1) ran.1 in
      elim (prefix_kept plain split store n world ran.0 event sim fits ran.1) [
        | inl same ↦
            let more = counted events ran.0 after n left all same.now next_fits ran.2 in
            let less = same.less paced in
            omega (arith, more, less)
        | inr next ↦
            let some = left_one n left all next.0 in
            let more = counted events ran.0 after (suc n) (left - 1) (omega arith) next.1.now next_fits ran.2 in
            let less = next.1.less paced in
            omega (arith, more, less, some)
      ]

  -- from there on always the event that comes next happens, until the program has halted
  record Drives (world : WorldShape) : Type 0 where
    events : List Event
    after : WorldShape
    driven : IsDriven split.code world events after
    at_rest : IsNextEvent after None
    halted : has_halted split.code.root after

  drives_on : (enough : ℕ) (world : WorldShape) (n left : ℕ) → n + left ≡ most →
      (sim : Simulates split (prefix split.program store n) world) → ShapeFits split.code world →
      sim.fuel + STEP * left < enough → Drives world
  drives_on zero world n left all sim fits less = absurd (omega (arith, less))
  drives_on (suc enough) world n left all sim fits within =
      let c = prefix split.program store n in
      elim (some_or_none (event_of sim.holder)) [
        | inl none ↦
            let rests = none_comes split c world sim none in
            record {
              events = [];
              after = world;
              driven = refl;
              at_rest = rests;
              halted = idle_halted split c world sim rests.0 rests.1;
            }
        | inr some ↦
            let event = some.0 in
            let step = happens split c world sim fits sim.holder sim.stands sim.idle event some.1 in
            let next_fits = shape_step split.code world step.0 event split.sound fits
            (own_tokens split c world step.0 event sim step.1) step.1 in
            let rest : Drives step.0 = elim (prefix_kept plain split store n world step.0 event sim fits step.1) [
              | inl same ↦
                  let less = same.less paced in
                  drives_on enough step.0 n left all same.now next_fits (omega (arith, less, within))
              | inr next ↦
                  let some = left_one n left all next.0 in
                  let less = next.1.less paced in
                  drives_on enough step.0 (suc n) (left - 1) (omega arith) next.1.now next_fits
                  (omega (arith, less, within, some))
            ] in
            record {
              events = event ∷ rest.events;
              after = rest.after;
              driven = (one_comes split c world sim event some.1, (step.0, step.1, rest.driven));
              at_rest = rest.at_rest;
              halted = rest.halted;
            }
      ]

-- events that are driven happen
driven_runs : (code : CodeShape) (events : List Event) (world after : WorldShape) → IsDriven code world events after →
    IsRun code world events after
driven_runs code [] world after driven = driven
driven_runs code (event ∷ events) world after driven =
    (driven.1.0, driven.1.1, driven_runs code events driven.1.0 after driven.1.2)

-- a law of the splitting: the code of a split program is paced
abbrev pub GivesPaces : Type 0
GivesPaces = (placed : PlacedProgram) → IsSplittable placed →
    (left : Allowance) × IsPaced (split_code placed) left

module _ (laws : SplitLaws) (paces : GivesPaces) (program : Program) (placed : PlacedProgram) (store : List (List ℤ))
    (steps : ℕ)
    (set : IsSet program placed)
    (runs : HasLength program store steps) where
  split : Split
  split =
      let typable = laws.trust placed set.allowed in
      let typed = laws.tables placed set.splittable typable in
      typed_split program placed set (laws.sound placed set.splittable) typed.0
      typed.1 (paces placed set.splittable).0 unaffected

  paced : Paced split
  unfolding split typed_split
  paced = (paces placed set.splittable).1

  start : Falls split (prefix program store 0) (STEP + 4)
      (world_at_start (split_code placed) placed.hosts.hosts 0 store)
  unfolding split typed_split
  start = falls_at_start split store placed.hosts.hosts refl refl

  fits_there : ShapeFits (split_code placed)
      (world_at_start (split_code placed) placed.hosts.hosts 0 store)
  fits_there =
      shape_at_start (split_code placed) placed.hosts.hosts 0 store
      (laws.sound placed set.splittable) refl

  all_counted : (events : List Event) (world : WorldShape) →
      IsRun (split_code placed)
      (world_at_start (split_code placed) placed.hosts.hosts 0 store) events world →
      length events ≤ start.now.fuel + STEP * steps
  unfolding split typed_split
  all_counted events world ran =
      counted laws.plain split paced store steps runs.ends events
      (world_at_start (split_code placed) placed.hosts.hosts 0 store) world 0 steps (omega arith) start.now
      fits_there ran

  pub ends_soon : (events : List Event) (world : WorldShape) →
      IsRun (split_code placed)
      (world_at_start (split_code placed) placed.hosts.hosts 0 store) events world →
      length events ≤ EVENTS * (steps + 1)
  ends_soon events world ran =
      let less = start.less paced in
      let all = all_counted events world ran in
      omega (arith, less, all)

  pub halts_soon : HaltsWithin (split_code placed) (EVENTS * (steps + 1))
      (world_at_start (split_code placed) placed.hosts.hosts 0 store)
  unfolding split typed_split
  halts_soon =
      let first = world_at_start (split_code placed) placed.hosts.hosts 0 store in
      let drives = drives_on laws.plain split paced store steps runs.ends (suc (start.now.fuel + STEP * steps)) first 0
      steps (omega arith) start.now fits_there (omega arith) in
      record {
        events = drives.events;
        few = ends_soon drives.events drives.after
            (driven_runs (split_code placed) drives.events first drives.after drives.driven);
        after = drives.after;
        driven = drives.driven;
        at_rest = drives.at_rest;
        halted = drives.halted;
      }
