use Rattle.std.proofs.Common.{arith, rules, ◌∷◌, []}
use Rattle.std.proofs.lemmas.Result.{IfOk-weaker}
use Rattle.jif_tree.specs.Trees.{block_tree, expr_tree, done, tree_before, head_of}
use Rattle.jif_tree.proofs.StatementCounts.{part_counts, first_counts, second_counts, body_counts}
use Rattle.jif_tree.proofs.NestingTrees.{if_is, while_is}
use Rattle.need_labels.specs.Finding.{setting_at, labelled_at}
use Rattle.need_labels.proofs.Backings.{none_back, label_backs}
use Rattle.need_labels.proofs.FoundRows.{none_added, both_added}
use Rattle.need_labels.proofs.Nested.{next_added, branch_added, loop_added}
use Rattle.need_labels.proofs.statements.+blocks.Goals as goal

pub add_block-loop-statement-init : goal.add_block-loop-statement-init
add_block-loop-statement-init t c =
    none_added _ _ _ _ (none_back _ _ c.empty-backing.ensures.trusts)

pub add_block-loop-statement-preserved : goal.add_block-loop-statement-preserved
add_block-loop-statement-preserved t c =
    next_added (labelled_at c.args.place.now) (setting_at c.args.place.now) c.args.statements.now
    c.loop-statement.statement-index c.statement-item.result
    c.loop-statement-test.true c.statement-item.is c.meet_integrity-backing.ensures.sets c.loop-statement.invariant
    c.in_ok-one.ensures

-- ---- statements without blocks

pub add_statement-returns-in-Let : goal.add_statement-returns-in-Let
add_statement-returns-in-Let t c =
    rw c.in-Let.is (IfOk-weaker c.add_use.result _ _
    (λ backed adds. adds (_ ∷ []) (rw (← c.label_of.ensures) (label_backs _ c.label_of.result))) c.add_use.ensures)

pub add_statement-returns-in-SetField : goal.add_statement-returns-in-SetField
add_statement-returns-in-SetField t c =
    rw c.in-SetField.is (IfOk-weaker c.add_use-in-SetField.result _ _
    (λ backed adds. adds (_ ∷ []) (rw (← c.field_label.ensures) (label_backs _ c.field_label.result)))
    c.add_use-in-SetField.ensures)

pub add_statement-returns-in-SetElement : goal.add_statement-returns-in-SetElement
add_statement-returns-in-SetElement t c =
    rw c.in-SetElement.is (IfOk-weaker c.add_use_of_two.result _ _
    (λ backed adds. adds (_ ∷ []) (rw (← c.field_label-in-SetElement.ensures)
    (label_backs _ c.field_label-in-SetElement.result)))
    c.add_use_of_two.ensures)

-- ---- branches and loops

pub add_block-add_statement-requires : goal.add_block-add_statement-requires
add_block-add_statement-requires t c =
    let less = part_counts c.args.statements.now c.loop-statement.statement-index c.statement-item.result
    c.loop-statement-test.true c.statement-item.is in
    (omega (arith, c.decreases), c.requires)

pub add_statement-add_block-requires : goal.add_statement-add_block-requires
add_statement-add_block-requires t c =
    let less = first_counts (head_of c.args.statement.now) (block_tree c.in-If.yes.items) (block_tree c.in-If.no.items)
    (tree_before c.args.statement.now done)
    (if_is c.args.statement.now c.in-If.guard c.in-If.yes c.in-If.no done c.in-If.is c.tree_laws.ensures.branches) in
    (rw c.deref.ensures.value (omega (arith, c.decreases)), c.requires)

pub add_statement-add_block-requires-in-If : goal.add_statement-add_block-requires-in-If
add_statement-add_block-requires-in-If t c =
    let less = second_counts (head_of c.args.statement.now) (block_tree c.in-If.yes.items) (block_tree c.in-If.no.items)
    (tree_before c.args.statement.now done)
    (if_is c.args.statement.now c.in-If.guard c.in-If.yes c.in-If.no done c.in-If.is c.tree_laws.ensures.branches) in
    (rw c.deref-in-If.ensures.value (omega (arith, c.decreases)), c.requires)

pub add_statement-add_block-requires-in-While : goal.add_statement-add_block-requires-in-While
add_statement-add_block-requires-in-While t c =
    let less = body_counts (head_of c.args.statement.now) (block_tree c.in-While.body.items)
    (tree_before c.args.statement.now done)
    (while_is c.args.statement.now c.in-While.guard c.in-While.body done c.in-While.is c.tree_laws.ensures.loops) in
    (rw c.deref-in-While.ensures.value (omega (arith, c.decreases)), c.requires)

pub add_statement-returns-in_ok-second-in-If : goal.add_statement-returns-in_ok-second-in-If
add_statement-returns-in_ok-second-in-If t c =
    let place = c.args.place.now in
    let head = head_of c.args.statement.now in
    let own = c.in_ok-own-in-If.ensures [] (none_back _ _ c.empty.ensures.trusts) in
    let first = rw c.deref.ensures.value at c.in_ok-first-in-If.ensures in
    let second = rw c.deref-in-If.ensures.value at c.in_ok-second-in-If.ensures in
    branch_added (setting_at place) head (expr_tree c.in-If.guard) (block_tree c.in-If.yes.items)
    (block_tree c.in-If.no.items) (tree_before c.args.statement.now done)
    (if_is c.args.statement.now c.in-If.guard c.in-If.yes c.in-If.no done c.in-If.is c.tree_laws.ensures.branches)
    (c.enclose.ensures place.principals.now (labelled_at place) c.args.found.now _ _ _ (search rules) own
    (both_added _ _ c.meet_integrity.ensures.sets first second))

pub add_statement-returns-in_ok-inside-in-While : goal.add_statement-returns-in_ok-inside-in-While
add_statement-returns-in_ok-inside-in-While t c =
    let place = c.args.place.now in
    let head = head_of c.args.statement.now in
    let own = c.in_ok-own-in-While.ensures [] (none_back _ _ c.empty-in-While.ensures.trusts) in
    let inside = rw c.deref-in-While.ensures.value at c.in_ok-inside-in-While.ensures in
    loop_added (setting_at place) head (expr_tree c.in-While.guard) (block_tree c.in-While.body.items)
    (tree_before c.args.statement.now done)
    (while_is c.args.statement.now c.in-While.guard c.in-While.body done c.in-While.is c.tree_laws.ensures.loops)
    (c.enclose-in-While.ensures place.principals.now (labelled_at place) c.args.found.now _ _ _
    (search rules) own inside)
