use Rattle.front_end.specs.PlacedShapes.{placed_shape}
use Rattle.front_end.specs.PlacedSources.{PlacedSources}
use Rattle.front_end.proofs.Stages.{handed_on, then_ends, then_stops}
use Rattle.node_starts.specs.NodeSources.{FromProgram, PlacedNode, node_source}
use Rattle.node_starts.proofs.node_source.program_source.Goals as goal

pub returns-in_err-placed : goal.returns-in_err-placed
returns-in_err-placed c = λ p h s loaded_p loaded_h loaded_s.
    handed_on node_source (FromProgram p h c.args.name.now s) c.in_err-placed.field-0.0 c.from_residual.result
    c.from_residual.ensures
    (then_stops (PlacedSources p h) (PlacedNode c.args.name.now s) c.in_err-placed.field-0.0
    (c.in_err-placed.ensures p h loaded_p loaded_h))

pub returns : goal.returns
returns c = λ p h s loaded_p loaded_h loaded_s.
    then_ends placed_shape node_source (PlacedSources p h) (PlacedNode c.args.name.now s) c.in_ok-placed.placed
    c.placed_node.result (c.in_ok-placed.ensures p h loaded_p loaded_h) (c.placed_node.ensures s loaded_s)
