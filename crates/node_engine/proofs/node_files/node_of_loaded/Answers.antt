use Rattle.front_end.proofs.Stages.{handed_on, then_ends, then_stops}
use Rattle.node_engine.specs.ReadyNodes.{HostFound, NodeStarts}
use Rattle.node_starts.specs.NodeSources.{PartChecked, node_start}
use Rattle.node_engine.specs.Options.{asked_shape}
use Rattle.node_starts.specs.SourceNames.{source_name}
use Rattle.node_engine.proofs.node_files.node_of_loaded.Goals as goal

pub returns-in_err-node-clause-due : goal.returns-in_err-node-clause-due
returns-in_err-node-clause-due c = λ k h s loaded_k loaded_h loaded_s.
    let options = c.args.options.now in
    handed_on node_start (NodeStarts (asked_shape options) k h s) c.in_err-node.field-0.0 c.from_residual.result
    c.from_residual.ensures
    (then_stops (HostFound (asked_shape options) k h s) (PartChecked (source_name options.source))
    c.in_err-node.field-0.0 (c.in_err-node.ensures.due k h s loaded_k loaded_h loaded_s))

pub returns-clause-due : goal.returns-clause-due
returns-clause-due c = λ k h s loaded_k loaded_h loaded_s.
    let options = c.args.options.now in
    then_ends node_start node_start (HostFound (asked_shape options) k h s)
    (PartChecked (source_name options.source)) c.in_ok-node.node c.part_checked.result
    (c.in_ok-node.ensures.due k h s loaded_k loaded_h loaded_s) c.part_checked.ensures.due
