use Rattle.std.proofs.Common.{suc, List, drop, sym, subst, add-one, arith}
use Rattle.js_base.proofs.Lists.{next_of}
use Rattle.jif_tree.specs.declared.program.Stmt.{Stmt}
use Rattle.jif_tree.specs.Trees.{done, block_tree, tree_before, head_of, expr_tree}
use Rattle.jif_tree.proofs.StatementCounts.{part_counts, first_counts, second_counts, body_counts}
use Rattle.jif_tree.proofs.NestingTrees.{if_is, while_is}
use Rattle.place_reasons.specs.Search.{AnswersInBlock}
use Rattle.place_reasons.proofs.Walking.{answers_on, branch_answers, loop_answers}
use Rattle.place_reasons.proofs.walk.+blocks.Goals as goal

-- ---- blocks

pub answer_block-loop-statement-preserved : goal.answer_block-loop-statement-preserved
answer_block-loop-statement-preserved t c =
    let rest = drop (suc c.loop-statement.statement-index) c.args.statements.now in
    let Q : List Stmt → Type 0 = λ left. AnswersInBlock c.args.place.now c.args.question c.args.stand.now
    c.loop-statement.known
    c.loop-statement.answers.items (block_tree left) c.answer_statement.new.known c.answer_statement.new.answers.items
    (block_tree rest) in
    rw add-one (answers_on c.args.place.now c.args.question c.args.stand.now c.args.known.now c.loop-statement.known
    c.answer_statement.new.known c.args.answers.now.items c.loop-statement.answers.items
    c.answer_statement.new.answers.items
    (block_tree c.args.statements.now) (block_tree (drop c.loop-statement.statement-index c.args.statements.now))
    (block_tree rest) c.loop-statement.invariant
    (subst Q (sym (next_of c.args.statements.now c.loop-statement.statement-index c.statement-item.result
    c.loop-statement-test.true c.statement-item.is))
    (c.in_ok-answer_statement.ensures (block_tree rest))))

pub answer_block-answer_statement-requires : goal.answer_block-answer_statement-requires
answer_block-answer_statement-requires t c =
    let less = part_counts c.args.statements.now c.loop-statement.statement-index c.statement-item.result
    c.loop-statement-test.true c.statement-item.is in
    (omega (arith, c.decreases), (c.requires.held, c.loop-statement.invariant.long))

-- ---- branches and loops

pub answer_statement-answer_block-requires : goal.answer_statement-answer_block-requires
answer_statement-answer_block-requires t c =
    let less = first_counts (head_of c.args.statement.now) (block_tree c.in-If.yes.items) (block_tree c.in-If.no.items)
    (tree_before c.args.statement.now done)
    (if_is c.args.statement.now c.in-If.guard c.in-If.yes c.in-If.no done c.in-If.is c.tree_laws.ensures.branches) in
    (rw c.deref.ensures.value (omega (arith, c.decreases)), (c.requires.held, c.requires.known))

pub answer_statement-answer_block-requires-in-If : goal.answer_statement-answer_block-requires-in-If
answer_statement-answer_block-requires-in-If t c =
    let less = second_counts (head_of c.args.statement.now) (block_tree c.in-If.yes.items) (block_tree c.in-If.no.items)
    (tree_before c.args.statement.now done)
    (if_is c.args.statement.now c.in-If.guard c.in-If.yes c.in-If.no done c.in-If.is c.tree_laws.ensures.branches) in (
      rw c.deref-in-If.ensures.value (omega (arith, c.decreases)),
      (c.requires.held, c.in_ok-answer_block-in-If.ensures.long),
    )

pub answer_statement-answer_block-requires-in-While : goal.answer_statement-answer_block-requires-in-While
answer_statement-answer_block-requires-in-While t c =
    let less = body_counts (head_of c.args.statement.now) (block_tree c.in-While.body.items)
    (tree_before c.args.statement.now done)
    (while_is c.args.statement.now c.in-While.guard c.in-While.body done c.in-While.is c.tree_laws.ensures.loops) in
    (rw c.deref-in-While.ensures.value (omega (arith, c.decreases)), (c.requires.held, c.requires.known))

pub answer_statement-returns-in_ok-answer_block-in-If-2 : goal.answer_statement-returns-in_ok-answer_block-in-If-2
answer_statement-returns-in_ok-answer_block-in-If-2 t c rest =
    branch_answers c.args.place.now c.args.question c.args.stand.now c.args.known.now c.answer_block.new.known
    c.answer_block-in-If.new.known c.args.answers.now.items c.push_answer-in-If.new.answers.items
    c.answer_block.new.answers.items c.answer_block-in-If.new.answers.items (head_of c.args.statement.now)
    (expr_tree c.in-If.guard) (block_tree c.in-If.yes.items) (block_tree c.in-If.no.items) rest
    (tree_before c.args.statement.now rest)
    (if_is c.args.statement.now c.in-If.guard c.in-If.yes c.in-If.no rest c.in-If.is c.tree_laws.ensures.branches)
    (c.in_ok-push_answer-in-If.ensures rest)
    (rw (c.inside-inside.ensures, c.deref.ensures.value) at c.in_ok-answer_block-in-If.ensures)
    (rw (c.inside-inside.ensures, c.deref-in-If.ensures.value) at c.in_ok-answer_block-in-If-2.ensures)

pub answer_statement-returns-in_ok-answer_block-in-While : goal.answer_statement-returns-in_ok-answer_block-in-While
answer_statement-returns-in_ok-answer_block-in-While t c rest =
    loop_answers c.args.place.now c.args.question c.args.stand.now c.args.known.now c.answer_block-in-While.new.known
    c.args.answers.now.items c.push_answer-in-While.new.answers.items c.answer_block-in-While.new.answers.items
    (head_of c.args.statement.now) (expr_tree c.in-While.guard) (block_tree c.in-While.body.items) rest
    (tree_before c.args.statement.now rest)
    (while_is c.args.statement.now c.in-While.guard c.in-While.body rest c.in-While.is c.tree_laws.ensures.loops)
    (rw c.inside-inside-in-While.ensures at (c.in_ok-push_answer-in-While.ensures rest))
    (rw (c.inside-inside-in-While.ensures, c.deref-in-While.ensures.value) at c.in_ok-answer_block-in-While.ensures)
