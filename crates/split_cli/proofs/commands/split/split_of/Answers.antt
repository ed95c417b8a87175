use Rattle.std.proofs.Common.{◌≡◌, ap, inl}
use Rattle.front_end.specs.PlacedShapes.{placed_shape}
use Rattle.front_end.specs.PlacedSources.{PlacedSource, PlacedSources}
use Rattle.split_cli.specs.Split.{SplitShape, SplitSources, split_of, split_shape}
use Rattle.front_end.specs.Stages.{StageEnd, given}
use Rattle.front_end.specs.declared.stop.Stop.TheVariants as stop
use Rattle.front_end.proofs.Stages.{give, handed_on, then_stops}
use Rattle.split_cli.proofs.commands.split.split_of.Goals as goal

pub returns-in_err-placed : goal.returns-in_err-placed
returns-in_err-placed c = λ p h loaded_p loaded_h.
    handed_on split_shape (SplitSources p h) c.in_err-placed.field-0.0 c.from_residual.result c.from_residual.ensures
    (then_stops (PlacedSources p h)
    (λ (placed : PlacedSource) (end : StageEnd SplitShape). end ≡ given (split_of placed)) c.in_err-placed.field-0.0
    (c.in_err-placed.ensures p h loaded_p loaded_h))

pub returns-in_err-split_placed : goal.returns-in_err-split_placed
returns-in_err-split_placed c = λ p h loaded_p loaded_h.
    handed_on split_shape (SplitSources p h) stop.OutOfMemory c.from_residual-in_err-split_placed.result
    c.from_residual-in_err-split_placed.ensures tt

pub returns : goal.returns
returns c = λ p h loaded_p loaded_h.
    inl (
      placed_shape c.in_ok-placed.placed,
      c.in_ok-placed.ensures p h loaded_p loaded_h,
      ap give c.in_ok-split_placed.ensures,
    )
