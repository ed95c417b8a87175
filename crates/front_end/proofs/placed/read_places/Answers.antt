use Rattle.front_end.specs.PlacedShapes.{placed_shape}
use Rattle.front_end.specs.PlacedSources.{OnHosts, PlacedSources}
use Rattle.front_end.specs.SourceShapes.{source_shape}
use Rattle.front_end.specs.Sources.{Sources}
use Rattle.front_end.proofs.Stages.{handed_on, then_ends, then_stops}
use Rattle.front_end.proofs.placed.read_places.Goals as goal

pub returns-in_err-source : goal.returns-in_err-source
returns-in_err-source c = λ p h loaded_p loaded_h.
    handed_on placed_shape (PlacedSources p h) c.in_err-source.field-0.0 c.from_residual.result
    c.from_residual.ensures
    (then_stops (Sources p h) OnHosts c.in_err-source.field-0.0 (c.in_err-source.ensures p h loaded_p loaded_h))

pub returns : goal.returns
returns c = λ p h loaded_p loaded_h.
    then_ends source_shape placed_shape (Sources p h) OnHosts c.in_ok-source.source c.on_hosts.result
    (c.in_ok-source.ensures p h loaded_p loaded_h) c.on_hosts.ensures
