use Rattle.std.proofs.Common.{take}
use Rattle.split_file.specs.File.{HasWord}
use Rattle.split_file.specs.Spelling.{node_bytes}
use Rattle.split_file.specs.Put.{ArePut}
use Rattle.split_file.proofs.operation_bytes.put_expression.Given as goal

abbrev pub invariant-loop-node : goal.invariant-loop-node
invariant-loop-node l =
    ArePut node_bytes HasWord l.initial.out.items (take l.node-index l.nodes) l.out.items
