use Rattle.std.proofs.Common.{◌+◌, ◌*◌, [], ◌∷◌}
use Rattle.jif_grammar.specs.DraftShapes.{block_shape}
use Rattle.jif_resolve.specs.Counts.{statements_in}
use Rattle.jif_resolve.proofs.VariableLists.{AddedSoFar, locals_from}
use Rattle.jif_resolve.proofs.variables.+locals.Given as goal

-- The statements that are left. A block may be one statement, with which it has the same number.
abbrev pub decreases-push_locals : goal.decreases-push_locals
decreases-push_locals l = 2 * statements_in (block_shape l.block.now) + 1

abbrev pub decreases-push_locals_of : goal.decreases-push_locals_of
decreases-push_locals_of l = 2 * statements_in (block_shape (l.statement.now ∷ []))

-- the statements so far
abbrev pub invariant-push_locals-loop-statement : goal.invariant-push_locals-loop-statement
invariant-push_locals-loop-statement l =
    AddedSoFar l.principals (locals_from l.method l.block 0) (locals_from l.method l.block l.statement-index)
    l.fn.variables.items l.variables.items
