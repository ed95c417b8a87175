use Rattle.std.proofs.Common.{arith}
use Rattle.jif_tree.specs.Trees.{done, block_tree, expr_tree, tree_before, head_of}
use Rattle.jif_tree.proofs.StatementCounts.{part_counts, first_counts, second_counts, body_counts}
use Rattle.jif_tree.proofs.NestingTrees.{if_is, while_is}
use Rattle.jif_parse.specs.PrintedNames.{naming_of}
use Rattle.jif_parse.proofs.PrintedStatements.{branch_prints, loop_prints}
use Rattle.jif_parse.proofs.printed.statements.+printed_blocks.Goals as goal

pub block_text-statement_text-requires : goal.block_text-statement_text-requires
block_text-statement_text-requires t c =
    let less = part_counts c.args.statements.now c.loop-statement.statement-index c.statement-item.result
    c.loop-statement-test.true c.statement-item.is in
    (omega (arith, c.decreases), tt)

pub statement_text-block_text-requires : goal.statement_text-block_text-requires
statement_text-block_text-requires t c =
    let less = first_counts (head_of c.args.statement.now) (block_tree c.in-If.yes.items) (block_tree c.in-If.no.items)
    (tree_before c.args.statement.now done)
    (if_is c.args.statement.now c.in-If.guard c.in-If.yes c.in-If.no done c.in-If.is c.tree_laws.ensures.branches) in
    (rw c.deref.ensures.value (omega (arith, c.decreases)), tt)

pub statement_text-block_text-requires-in-If : goal.statement_text-block_text-requires-in-If
statement_text-block_text-requires-in-If t c =
    let less = second_counts (head_of c.args.statement.now) (block_tree c.in-If.yes.items) (block_tree c.in-If.no.items)
    (tree_before c.args.statement.now done)
    (if_is c.args.statement.now c.in-If.guard c.in-If.yes c.in-If.no done c.in-If.is c.tree_laws.ensures.branches) in
    (rw c.deref-in-If.ensures.value (omega (arith, c.decreases)), tt)

pub statement_text-block_text-requires-in-While : goal.statement_text-block_text-requires-in-While
statement_text-block_text-requires-in-While t c =
    let less = body_counts (head_of c.args.statement.now) (block_tree c.in-While.body.items)
    (tree_before c.args.statement.now done)
    (while_is c.args.statement.now c.in-While.guard c.in-While.body done c.in-While.is c.tree_laws.ensures.loops) in
    (rw c.deref-in-While.ensures.value (omega (arith, c.decreases)), tt)

pub statement_text-returns-in_ok-format-in-If : goal.statement_text-returns-in_ok-format-in-If
statement_text-returns-in_ok-format-in-If t c = record {
  text = λ rest. branch_prints (naming_of c.args.names.now) c.args.seen.now (head_of c.args.statement.now)
      (expr_tree c.in-If.guard) (block_tree c.in-If.yes.items) (block_tree c.in-If.no.items) rest
      (tree_before c.args.statement.now rest) _ _ _ _ _ _ _
      (if_is c.args.statement.now c.in-If.guard c.in-If.yes c.in-If.no rest c.in-If.is c.tree_laws.ensures.branches)
      c.in_ok-format-in-If.ensures.ok c.in_ok-guard-in-If.ensures
      (rw c.deref.ensures.value at c.in_ok-first-in-If.ensures.text)
      (rw c.deref.ensures.value at c.in_ok-first-in-If.ensures.seen)
      (rw c.deref-in-If.ensures.value at c.in_ok-second-in-If.ensures.text)
      (rw (c.deref-in-If-2.ensures.value, c.as_str-in-If.ensures.value) at c.in_ok-otherwise-in-If.ensures)
      (rw c.deref-in-If.ensures.value at c.in_ok-second-in-If.ensures.seen);
}

pub statement_text-returns-in_ok-format-in-While : goal.statement_text-returns-in_ok-format-in-While
statement_text-returns-in_ok-format-in-While t c = record {
  text = λ rest. loop_prints (naming_of c.args.names.now) c.args.seen.now (head_of c.args.statement.now)
      (expr_tree c.in-While.guard) (block_tree c.in-While.body.items) rest (tree_before c.args.statement.now rest) _ _ _
      _
      (while_is c.args.statement.now c.in-While.guard c.in-While.body rest c.in-While.is c.tree_laws.ensures.loops)
      c.in_ok-format-in-While.ensures.ok c.in_ok-guard-in-While.ensures
      (rw c.deref-in-While.ensures.value at c.in_ok-body-in-While.ensures.text)
      (rw c.deref-in-While.ensures.value at c.in_ok-body-in-While.ensures.seen);
}
