use Rattle.std.proofs.Common.{suc, List, drop, sym, ap, ◌∙◌, add-one, arith}
use Rattle.js_base.proofs.Lists.{next_of}
use Rattle.jif_tree.specs.declared.program.Stmt.{Stmt}
use Rattle.jif_tree.specs.Trees.{block_tree, done, head_of, expr_tree, tree_before}
use Rattle.jif_tree.proofs.StatementCounts.{part_counts, first_counts, second_counts, body_counts}
use Rattle.jif_tree.proofs.NestingTrees.{if_is, while_is}
use Rattle.place_reasons.specs.Firsts.{or_first}
use Rattle.place_reasons.specs.Reasons.{block_backed}
use Rattle.place_reasons.specs.Search.{site_is}
use Rattle.place_reasons.proofs.Nested.{branch_backed, loop_backed}
use Rattle.place_reasons.proofs.backed.+blocks.Goals as goal

pub block_backed-loop-statement-preserved : goal.block_backed-loop-statement-preserved
block_backed-loop-statement-preserved t c =
    let rest = drop (suc c.loop-statement.statement-index) c.args.statements.now in
    rw add-one (c.statement_backed.ensures (block_tree rest)
    ∙ ap (λ (left : List Stmt). or_first c.loop-statement.found
    (block_backed (site_is c.args.site.now) c.args.principal (block_tree left)))
    (sym (next_of c.args.statements.now c.loop-statement.statement-index c.statement-item.result
    c.loop-statement-test.true c.statement-item.is))
    ∙ c.loop-statement.invariant)

pub block_backed-statement_backed-requires : goal.block_backed-statement_backed-requires
block_backed-statement_backed-requires t c =
    let less = part_counts c.args.statements.now c.loop-statement.statement-index c.statement-item.result
    c.loop-statement-test.true c.statement-item.is in
    (omega (arith, c.decreases), (c.requires.declared, (c.requires.reader, c.requires.authority)))

pub statement_backed-block_backed-requires : goal.statement_backed-block_backed-requires
statement_backed-block_backed-requires t c =
    let less = first_counts (head_of c.args.statement.now) (block_tree c.in-If.yes.items) (block_tree c.in-If.no.items)
    (tree_before c.args.statement.now done)
    (if_is c.args.statement.now c.in-If.guard c.in-If.yes c.in-If.no done c.in-If.is c.tree_laws.ensures.branches) in
    (rw c.deref.ensures.value (omega (arith, c.decreases)), (c.requires.declared, (c.requires.reader, c.requires.authority)))

pub statement_backed-block_backed-requires-in-If : goal.statement_backed-block_backed-requires-in-If
statement_backed-block_backed-requires-in-If t c =
    let less = second_counts (head_of c.args.statement.now) (block_tree c.in-If.yes.items) (block_tree c.in-If.no.items)
    (tree_before c.args.statement.now done)
    (if_is c.args.statement.now c.in-If.guard c.in-If.yes c.in-If.no done c.in-If.is c.tree_laws.ensures.branches) in
    (rw c.deref-in-If.ensures.value (omega (arith, c.decreases)), (c.requires.declared, (c.requires.reader, c.requires.authority)))

pub statement_backed-block_backed-requires-in-While : goal.statement_backed-block_backed-requires-in-While
statement_backed-block_backed-requires-in-While t c =
    let less = body_counts (head_of c.args.statement.now) (block_tree c.in-While.body.items)
    (tree_before c.args.statement.now done)
    (while_is c.args.statement.now c.in-While.guard c.in-While.body done c.in-While.is c.tree_laws.ensures.loops) in
    (rw c.deref-in-While.ensures.value (omega (arith, c.decreases)), (c.requires.declared, (c.requires.reader, c.requires.authority)))

pub statement_backed-returns-in-If : goal.statement_backed-returns-in-If
statement_backed-returns-in-If t c rest =
    branch_backed (site_is c.args.site.now) c.args.principal c.args.found.now c.own_backed.new.found
    c.block_backed.new.found c.block_backed-in-If.new.found (head_of c.args.statement.now) (expr_tree c.in-If.guard)
    (block_tree c.in-If.yes.items) (block_tree c.in-If.no.items) rest (tree_before c.args.statement.now rest)
    (if_is c.args.statement.now c.in-If.guard c.in-If.yes c.in-If.no rest c.in-If.is c.tree_laws.ensures.branches)
    (c.own_backed.ensures rest) (rw c.deref.ensures.value at c.block_backed.ensures)
    (rw c.deref-in-If.ensures.value at c.block_backed-in-If.ensures)

pub statement_backed-returns-in-While : goal.statement_backed-returns-in-While
statement_backed-returns-in-While t c rest =
    loop_backed (site_is c.args.site.now) c.args.principal c.args.found.now c.own_backed.new.found
    c.block_backed-in-While.new.found (head_of c.args.statement.now) (expr_tree c.in-While.guard)
    (block_tree c.in-While.body.items) rest (tree_before c.args.statement.now rest)
    (while_is c.args.statement.now c.in-While.guard c.in-While.body rest c.in-While.is c.tree_laws.ensures.loops)
    (c.own_backed.ensures rest) (rw c.deref-in-While.ensures.value at c.block_backed-in-While.ensures)
