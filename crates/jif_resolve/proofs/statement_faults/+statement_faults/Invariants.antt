use Rattle.std.proofs.Common.{◌+◌, ◌*◌, [], ◌∷◌}
use Rattle.jif_grammar.specs.DraftShapes.{block_shape}
use Rattle.jif_resolve.specs.Counts.{statements_in}
use Rattle.jif_resolve.specs.Contexts.{setting_in}
use Rattle.jif_resolve.proofs.Walks.{WalkedSoFar}
use Rattle.jif_resolve.proofs.statement_faults.+statement_faults.Given as goal

-- The statements that are left. A block may be one statement, with which it has the same number.
abbrev pub decreases-with_block : goal.decreases-with_block
decreases-with_block l = 2 * statements_in (block_shape l.block.now) + 1

abbrev pub decreases-with_statement : goal.decreases-with_statement
decreases-with_statement l = 2 * statements_in (block_shape (l.statement.now ∷ []))

-- the statements so far
abbrev pub invariant-with_block-loop-statement : goal.invariant-with_block-loop-statement
invariant-with_block-loop-statement l =
    WalkedSoFar (setting_in l.context) l.fn.scope l.fn.first l.block l.statement-index l.scope l.sooner_one
