use Rattle.std.proofs.Common.{Some}
use Rattle.front_end.specs.Stages.{Then}
use Rattle.front_end.proofs.Stages.{handed_on, then_ends, then_stops}
use Rattle.node_engine.specs.ReadyNodes.{NodeStarts, Sealed, ready_node}
use Rattle.node_starts.specs.NodeSources.{node_start}
use Rattle.node_engine.specs.Options.{asked_shape}
use Rattle.node_engine.proofs.node_files.sealed_of_loaded.Goals as goal

pub returns-in_err-start-clause-due : goal.returns-in_err-start-clause-due
returns-in_err-start-clause-due c = λ k h s keys loaded_k loaded_h loaded_s loaded_keys.
    let starts = NodeStarts (asked_shape c.args.options.now) k h s in
    let seals = Sealed (Some c.args.keys.name.now) keys in
    handed_on ready_node (Then starts seals) c.in_err-start.field-0.0 c.from_residual.result c.from_residual.ensures
    (then_stops starts seals c.in_err-start.field-0.0
    (c.in_err-start.ensures.due k h s loaded_k loaded_h loaded_s))

pub returns-clause-due : goal.returns-clause-due
returns-clause-due c = λ k h s keys loaded_k loaded_h loaded_s loaded_keys.
    then_ends node_start ready_node (NodeStarts (asked_shape c.args.options.now) k h s)
    (Sealed (Some c.args.keys.name.now) keys) c.in_ok-start.start c.with_seals.result
    (c.in_ok-start.ensures.due k h s loaded_k loaded_h loaded_s) (c.with_seals.ensures.due keys loaded_keys)
