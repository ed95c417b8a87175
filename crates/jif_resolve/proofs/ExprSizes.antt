-- How large expressions are, by which a recursion on them ends.
use Rattle.std.proofs.Common.{◌+◌, ◌<◌, arith}
use Rattle.jif_grammar.specs.DraftShapes.{ExprShape}
use Rattle.jif_resolve.specs.Counts.{nodes_in}

pub inner_falls : (operand : ExprShape) → nodes_in operand < 1 + nodes_in operand
inner_falls operand = omega arith

pub both_fall : (left right : ExprShape) → nodes_in left + nodes_in right < 1 + nodes_in left + nodes_in right
both_fall left right = omega arith
