use Rattle.std.proofs.Common.{arith}
use Rattle.split_file.specs.File.{HasWord}
use Rattle.split_file.specs.Spelling.{node_bytes}
use Rattle.split_file.proofs.Appends.{put_more}
use Rattle.split_file.proofs.operation_bytes.put_expression.Goals as goal

pub loop-node-preserved : goal.loop-node-preserved
loop-node-preserved c =
    put_more node_bytes HasWord c.nodes-nodes.result.now c.loop-node.node-index _ _ _ _
    (omega arith) c.loop-node.invariant
    c.in_ok-put_node.ensures.bytes c.in_ok-put_node.ensures.real
