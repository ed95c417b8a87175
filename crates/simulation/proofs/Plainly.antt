-- Where nobody misbehaves, what hosts follow is the plain run, since an altered run is that.
use Rattle.std.proofs.Common.{◌≡◌, ℕ, suc, ◌+◌, ◌⊎◌, inl, inr, List, [], ◌∷◌, length, refl}
use Rattle.std.proofs.Common.{subst}
use Rattle.std.specs.Prelude.{ℤ}
use Rattle.event_text.specs.declared.event.Event.{Event}
use Rattle.jif_tree.specs.declared.program.Program.{Program}
use Rattle.jif_tree.specs.Altered.{Exposure, MayStep, steps, Altered}
use Rattle.jif_tree.specs.SourceRun.{Configuration, IsAtEnd, after_steps, prefix}
use Rattle.jif_tree.proofs.PlainRuns.{no_field}
use Rattle.net_world.specs.Fits.{ShapeFits}
use Rattle.net_world.specs.World.{WorldShape, IsStep}
use Rattle.typed_steps.specs.Requests.{Does}
use Rattle.typed_steps.specs.Variables.{HaveFields}
use Rattle.typed_steps.specs.Views.{Split}
use Rattle.typed_steps.specs.Weights.{STEP}
use Rattle.simulation.specs.Obeying.{FieldsAre}
use Rattle.simulation.proofs.Simulates.{Falls, Simulates}
use Rattle.simulation.proofs.Events.{event_kept}

-- a law of altered runs: where nobody misbehaves, they are the plain run
abbrev pub GivesPlain : Type 0
GivesPlain = (program : Program) (exposure : Exposure) (c now : Configuration) (others : List Configuration) →
    exposure.bad ≡ [] → Altered program exposure c others now → now ≡ after_steps program (length others) c

does_something : (program : Program) (exposure : Exposure) (c now : Configuration) →
    MayStep program exposure c c.pending now → ¬ IsAtEnd c
does_something program exposure c now does ends =
    subst (λ items. MayStep program exposure c items now) ends does

module _ (plain : GivesPlain) (split : Split) (store : List (List ℤ)) where
  -- ---- what hosts follow

  -- a step is the plain one
  plainly : split.exposure.bad ≡ [] → (n : ℕ) (now : Configuration) → Does split (prefix split.program store n) now →
      now ≡ prefix split.program store (suc n)
  plainly none n now does =
      plain split.program split.exposure (prefix split.program store n) now (now ∷ []) none (steps does, refl)

  -- every event leaves a world that stands for the same prefix of the plain run, or for the next
  pub prefix_kept : (n : ℕ) (world after : WorldShape) (event : Event) →
      (sim : Simulates split (prefix split.program store n) world) → ShapeFits split.code world →
      IsStep split.code world event after →
      Falls split (prefix split.program store n) sim.fuel after
      ⊎ ((¬ IsAtEnd (prefix split.program store n))
      × Falls split (prefix split.program store (suc n)) (sim.fuel + STEP) after)
  prefix_kept n world after event sim fits happens =
      let c = prefix split.program store n in
      elim (event_kept split c world after event sim fits happens) [
        | inl same ↦ inl same
        | inr next ↦ inr (
          does_something split.program split.exposure c next.0 next.1,
          subst (λ k. Falls split k (sim.fuel + STEP) after) (plainly sim.orderly.unaffected n next.0 next.1) next.2,
        )
      ]

-- where nothing is affected all fields are those of the store
pub fields_are : (split : Split) (world : WorldShape) (store : List (List ℤ)) → split.exposure.bad ≡ [] →
    HaveFields split world store → FieldsAre split.code world store
fields_are split world store none fields number field state there at =
    elim (fields number field state there at) [
      | inl same ↦ same
      | inr far ↦ absurd (no_field split.exposure none (record { 0 = number }) far)
    ]
