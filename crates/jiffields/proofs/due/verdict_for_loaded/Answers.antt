use Rattle.std.proofs.Common.{inl}
use Rattle.front_end.proofs.Stages.{due_handed_on, due_stops, ends_weaker}
use Rattle.node_starts.specs.NodeSources.{node_start}
use Rattle.jiffields.specs.Due.{DueForBytes, DueForNode, FieldsHostFound}
use Rattle.jiffields.specs.Words.{asked_shape}
use Rattle.jiffields.proofs.due.verdict_for_loaded.Goals as goal

pub returns-in_err-node : goal.returns-in_err-node
returns-in_err-node c = λ k h s j loaded_k loaded_h loaded_s loaded_j.
    let asked = asked_shape c.args.asked.now in
    due_handed_on (DueForBytes asked k h s j) c.in_err-node.field-0.0 c.from_residual.result c.from_residual.ensures
    (due_stops (FieldsHostFound asked k h s) (DueForNode asked j) c.in_err-node.field-0.0
    (c.in_err-node.ensures.due k h s loaded_k loaded_h loaded_s))

pub returns : goal.returns
returns c = λ k h s j loaded_k loaded_h loaded_s loaded_j.
    let asked = asked_shape c.args.asked.now in
    let node = node_start c.in_ok-node.node in
    ends_weaker (DueForNode asked j node) (DueForBytes asked k h s j) c.verdict_for_node.result
    (λ verdict due. inl (node, c.in_ok-node.ensures.due k h s loaded_k loaded_h loaded_s, due))
    (c.verdict_for_node.ensures j loaded_j)
