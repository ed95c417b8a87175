use Rattle.std.proofs.Common.{◌≡◌, [], ◌∷◌, ap, inl}
use Rattle.js_base.specs.declared.status.Status.TheVariants.{Done}
use Rattle.split_cli.specs.Check.{plan_report}
use Rattle.split_words.specs.Commands.{Check}
use Rattle.split_cli.specs.Due.{DueForBytes}
use Rattle.front_end.specs.PlacedShapes.{placed_shape}
use Rattle.front_end.specs.PlacedSources.{PlacedSource, PlacedSources}
use Rattle.front_end.specs.Verdicts.{VerdictShape, Print}
use Rattle.front_end.proofs.Stages.{due_handed_on, due_stops, memory_ran_out}
use Rattle.split_cli.proofs.commands.check.verdict_for_loaded.Goals as goal

pub returns-in_err-placed : goal.returns-in_err-placed
returns-in_err-placed c = λ names others p h loaded_p loaded_h.
    due_handed_on (DueForBytes (Check names others) (p ∷ h ∷ [])) c.in_err-placed.field-0.0 c.from_residual.result
    c.from_residual.ensures
    (due_stops (PlacedSources p h) (λ (placed : PlacedSource) (end : VerdictShape). end ≡ plan_report placed)
    c.in_err-placed.field-0.0 (c.in_err-placed.ensures p h loaded_p loaded_h))

pub returns-in_err-text : goal.returns-in_err-text
returns-in_err-text c = λ names others p h loaded_p loaded_h.
    memory_ran_out (DueForBytes (Check names others) (p ∷ h ∷ [])) c.from_residual-in_err-text.result
    c.from_residual-in_err-text.ensures

pub returns : goal.returns
returns c = λ names others p h loaded_p loaded_h.
    inl (
      placed_shape c.in_ok-placed.placed,
      c.in_ok-placed.ensures p h loaded_p loaded_h,
      ap (Print Done) c.in_ok-text.ensures,
    )
