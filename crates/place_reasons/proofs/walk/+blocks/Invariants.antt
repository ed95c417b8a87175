use Rattle.std.proofs.Common.{drop, ◌+◌, ◌*◌}
use Rattle.jif_tree.specs.Trees.{block_tree, done, tree_before}
use Rattle.jif_tree.proofs.StatementCounts.{count_in}
use Rattle.place_reasons.specs.Search.{AnswersInBlock}
use Rattle.place_reasons.proofs.walk.+blocks.Given as goal

-- the statements so far are answered
abbrev pub invariant-answer_block-loop-statement : goal.invariant-answer_block-loop-statement
invariant-answer_block-loop-statement l =
    AnswersInBlock l.place l.question l.stand l.fn.known l.fn.answers.items (block_tree l.statements) l.known
    l.answers.items
    (block_tree (drop l.statement-index l.statements))

abbrev pub decreases-answer_block : goal.decreases-answer_block
decreases-answer_block l = 2 * count_in (block_tree l.statements.now) + 1

abbrev pub decreases-answer_statement : goal.decreases-answer_statement
decreases-answer_statement l = 2 * count_in (tree_before l.statement.now done)
