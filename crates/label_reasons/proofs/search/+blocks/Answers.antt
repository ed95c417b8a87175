use Rattle.std.proofs.Common.{suc, List, map, drop, refl, sym, subst, add-one, arith}
use Rattle.js_base.proofs.Lists.{next_of}
use Rattle.jif_tree.specs.declared.program.Stmt.{Stmt}
use Rattle.jif_tree.specs.Trees.{BlockTree, done, block_tree, tree_before, head_of, expr_tree}
use Rattle.jif_tree.specs.Trees.{set_field, set_element, call, give_back}
use Rattle.jif_tree.specs.LabelRules.{field_label}
use Rattle.jif_tree.proofs.StatementCounts.{part_counts, first_counts, second_counts, body_counts}
use Rattle.jif_tree.proofs.NestingTrees.{if_is, while_is}
use Rattle.label_reasons.specs.declared.reason.Wanted.TheVariants.{KeptInField}
use Rattle.label_reasons.specs.Asks.{value_asks, element_asks, call_asks, return_asks}
use Rattle.label_reasons.specs.Search.{Walks}
use Rattle.label_reasons.proofs.Walking.{walks_on, plain, branch_walks, loop_walks}
use Rattle.label_reasons.proofs.search.+blocks.Goals as goal

-- ---- blocks

pub search_block-loop-statement-preserved : goal.search_block-loop-statement-preserved
search_block-loop-statement-preserved t c =
    let rest = drop (suc c.loop-statement.statement-index) c.args.statements.now in
    let Q : List Stmt → Type 0 = λ left. Walks c.args.place.now c.args.stand.now c.loop-statement.known
    c.loop-statement.found (block_tree left) c.search_statement.new.known c.search_statement.new.found
    (block_tree rest) in
    rw add-one (walks_on c.args.place.now c.args.stand.now c.args.known.now c.loop-statement.known
    c.search_statement.new.known c.args.found.now c.loop-statement.found c.search_statement.new.found
    (block_tree c.args.statements.now) (block_tree (drop c.loop-statement.statement-index c.args.statements.now))
    (block_tree rest) c.loop-statement.invariant
    (subst Q (sym (next_of c.args.statements.now c.loop-statement.statement-index c.statement-item.result
    c.loop-statement-test.true c.statement-item.is))
    (c.search_statement.ensures (block_tree rest))))

pub search_block-search_statement-requires : goal.search_block-search_statement-requires
search_block-search_statement-requires t c =
    let less = part_counts c.args.statements.now c.loop-statement.statement-index c.statement-item.result
    c.loop-statement-test.true c.statement-item.is in
    (omega (arith, c.decreases), (c.requires.place, c.loop-statement.invariant.long))

-- ---- statements without blocks

pub search_statement-returns-in-Let : goal.search_statement-returns-in-Let
search_statement-returns-in-Let t c rest =
    rw c.in-Let.is (c.search_assignment.ensures rest c.args.statement.now.line)

pub search_statement-returns-in-SetField : goal.search_statement-returns-in-SetField
search_statement-returns-in-SetField t c rest =
    rw c.in-SetField.is (plain c.args.place.now c.args.stand.now c.args.known.now
    (λ spot. value_asks spot c.args.statement.now.id (KeptInField c.in-SetField.field)
    (expr_tree c.in-SetField.value) (field_label spot.setting.program c.in-SetField.field))
    (set_field (head_of c.args.statement.now) c.in-SetField.field (expr_tree c.in-SetField.value) rest) rest
    c.args.found.now c.search_value.new.found c.requires.known (rw c.field_label-to.ensures at c.search_value.ensures)
    refl refl (λ spot. refl))

pub search_statement-returns-in-SetElement : goal.search_statement-returns-in-SetElement
search_statement-returns-in-SetElement t c rest =
    rw c.in-SetElement.is (plain c.args.place.now c.args.stand.now c.args.known.now
    (λ spot. element_asks spot c.args.statement.now.id c.in-SetElement.field (expr_tree c.in-SetElement.index)
    (expr_tree c.in-SetElement.value))
    (set_element (head_of c.args.statement.now) c.in-SetElement.field (expr_tree c.in-SetElement.index)
    (expr_tree c.in-SetElement.value) rest) rest c.args.found.now c.search_element.new.found c.requires.known
    c.search_element.ensures refl refl (λ spot. refl))

pub search_statement-returns-in-Return : goal.search_statement-returns-in-Return
search_statement-returns-in-Return t c rest =
    rw c.in-Return.is (plain c.args.place.now c.args.stand.now c.args.known.now
    (λ spot. return_asks spot c.args.statement.now.id (expr_tree c.in-Return.value))
    (give_back (head_of c.args.statement.now) (expr_tree c.in-Return.value) rest) rest c.args.found.now
    c.search_return.new.found c.requires.known c.search_return.ensures refl refl (λ spot. refl))

-- ---- branches and loops

pub search_statement-search_block-requires : goal.search_statement-search_block-requires
search_statement-search_block-requires t c =
    let less = first_counts (head_of c.args.statement.now) (block_tree c.in-If.yes.items) (block_tree c.in-If.no.items)
    (tree_before c.args.statement.now done)
    (if_is c.args.statement.now c.in-If.guard c.in-If.yes c.in-If.no done c.in-If.is c.tree_laws.ensures.branches) in
    (rw c.deref.ensures.value (omega (arith, c.decreases)), (c.requires.place, c.requires.known))

pub search_statement-search_block-requires-in-While : goal.search_statement-search_block-requires-in-While
search_statement-search_block-requires-in-While t c =
    let less = body_counts (head_of c.args.statement.now) (block_tree c.in-While.body.items)
    (tree_before c.args.statement.now done)
    (while_is c.args.statement.now c.in-While.guard c.in-While.body done c.in-While.is c.tree_laws.ensures.loops) in
    (rw c.deref-in-While.ensures.value (omega (arith, c.decreases)), (c.requires.place, c.requires.known))

pub search_statement-returns-in-Call : goal.search_statement-returns-in-Call
search_statement-returns-in-Call t c rest =
    rw c.in-Call.is (plain c.args.place.now c.args.stand.now c.args.known.now
    (λ spot. call_asks spot c.args.statement.now.id c.in-Call.method (map expr_tree c.in-Call.args.items)
    c.in-Call.into)
    (call (head_of c.args.statement.now) c.in-Call.site c.in-Call.method (map expr_tree c.in-Call.args.items)
    c.in-Call.into rest) rest c.args.found.now c.search_call.new.found c.requires.known
    (rw c.deref-in-Call.ensures.value at c.search_call.ensures) refl refl (λ spot. refl))

pub search_statement-search_block-requires-in-If : goal.search_statement-search_block-requires-in-If
search_statement-search_block-requires-in-If t c =
    let less = second_counts (head_of c.args.statement.now) (block_tree c.in-If.yes.items) (block_tree c.in-If.no.items)
    (tree_before c.args.statement.now done)
    (if_is c.args.statement.now c.in-If.guard c.in-If.yes c.in-If.no done c.in-If.is c.tree_laws.ensures.branches) in
    (rw c.deref-in-If.ensures.value (omega (arith, c.decreases)), (c.requires.place, c.search_block.ensures.long))

pub search_statement-returns-in-If : goal.search_statement-returns-in-If
search_statement-returns-in-If t c rest =
    let P : BlockTree → Type 0 = λ tree. Walks c.args.place.now c.args.stand.now c.args.known.now c.args.found.now tree
    c.search_block-in-If.new.known c.search_block-in-If.new.found rest in
    subst P (sym (if_is c.args.statement.now c.in-If.guard c.in-If.yes c.in-If.no rest c.in-If.is
    c.tree_laws.ensures.branches))
    (branch_walks c.args.place.now c.args.stand.now c.args.known.now c.search_block.new.known
    c.search_block-in-If.new.known c.args.found.now c.search_expr.new.found c.search_block.new.found
    c.search_block-in-If.new.found (head_of c.args.statement.now) (expr_tree c.in-If.guard)
    (block_tree c.in-If.yes.items) (block_tree c.in-If.no.items) rest c.search_expr.ensures
    (rw (c.inside-inside.ensures, c.deref.ensures.value) at c.search_block.ensures)
    (rw (c.inside-inside.ensures, c.deref-in-If.ensures.value) at c.search_block-in-If.ensures))

pub search_statement-returns-in-While : goal.search_statement-returns-in-While
search_statement-returns-in-While t c rest =
    let P : BlockTree → Type 0 = λ tree. Walks c.args.place.now c.args.stand.now c.args.known.now c.args.found.now tree
    c.search_block-in-While.new.known c.search_block-in-While.new.found rest in
    subst P (sym (while_is c.args.statement.now c.in-While.guard c.in-While.body rest c.in-While.is
    c.tree_laws.ensures.loops))
    (loop_walks c.args.place.now c.args.stand.now c.args.known.now c.search_block-in-While.new.known c.args.found.now
    c.search_expr-in-While.new.found c.search_expr-in-While-2.new.found c.search_block-in-While.new.found
    (head_of c.args.statement.now) (expr_tree c.in-While.guard) (block_tree c.in-While.body.items) rest
    c.search_expr-in-While.ensures (rw c.inside-inside-in-While.ensures at c.search_expr-in-While-2.ensures)
    (rw (c.inside-inside-in-While.ensures, c.deref-in-While.ensures.value) at c.search_block-in-While.ensures))
