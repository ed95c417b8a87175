use Rattle.std.proofs.Common.{◌+◌, ◌*◌, [], ◌∷◌}
use Rattle.jif_grammar.specs.DraftShapes.{block_shape}
use Rattle.jif_resolve.specs.Counts.{statements_in}
use Rattle.jif_resolve.specs.Contexts.{setting_in}
use Rattle.jif_resolve.proofs.Blocks.{MadeSoFar}
use Rattle.jif_resolve.proofs.block_of.+numbered_blocks.Given as goal

-- The statements that are left, with the calls for one statement in their order.
abbrev pub decreases-block_of : goal.decreases-block_of
decreases-block_of l = 3 * statements_in (block_shape l.block.now) + 2

abbrev pub decreases-statement_of : goal.decreases-statement_of
decreases-statement_of l = 3 * statements_in (block_shape (l.draft.now ∷ [])) + 1

abbrev pub decreases-kind_of : goal.decreases-kind_of
decreases-kind_of l = 3 * statements_in (block_shape (l.draft.now ∷ []))

-- the statements so far
abbrev pub invariant-block_of-loop-draft : goal.invariant-block_of-loop-draft
invariant-block_of-loop-draft l =
    MadeSoFar (setting_in l.context) l.fn.scope l.block l.draft-index l.scope l.statements.items
