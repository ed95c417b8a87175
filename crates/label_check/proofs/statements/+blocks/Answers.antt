use Rattle.std.proofs.Common.{◌≡◌, ◌∙◌, map, sym, ap, subst, ℕ, ◌<◌, suc, List, ◌∷◌, drop, add-one, arith}
use Rattle.std.proofs.Common.{length, get_or}
use Rattle.label_check.specs.Parts.{asked, RefusesFor}
use Rattle.std.proofs.lemmas.List.{drop_all}
use Rattle.std.proofs.lemmas.Result.{on_ok_weaker}
use Rattle.jif_tree.specs.declared.program.Stmt.{Stmt}
use Rattle.js_base.proofs.Lists.{next_of}
use Rattle.jif_tree.specs.declared.program.Expr.{Expr}
use Rattle.jif_tree.specs.Trees.{BlockTree, done, block_tree, expr_tree}
use Rattle.jif_tree.specs.Trees.{program_tree, tree_before, head_of}
use Rattle.jif_tree.specs.LabelRules.{VariableLabels, method_at}
use Rattle.jif_tree.proofs.StatementCounts.{part_counts, first_counts, second_counts, body_counts}
use Rattle.jif_tree.proofs.NestingTrees.{if_is, while_is}
use Rattle.label_check.proofs.Arguments.{call_asks}
use Rattle.label_check.specs.Places.{asks_of, PassesTo, setting_at}
use Rattle.label_check.proofs.Asked.{refused_before}
use Rattle.label_check.proofs.Exits.{handed_on}
use Rattle.label_check.proofs.Passing.{refused_for_rest, handed_on_rest, passes_none, passes_on, refused_left}
use Rattle.label_check.proofs.Passing.{loop_passes, loop_refused}
use Rattle.label_check.proofs.Passing.{branch_passes, first_refused, second_refused}
use Rattle.label_check.proofs.statements.+blocks.Goals as goal

-- ---- blocks

pub check_block-loop-statement-init : goal.check_block-loop-statement-init
check_block-loop-statement-init t c = passes_none _ _ _ _

pub check_block-returns-in_err-check_statement-clause-err :
    goal.check_block-returns-in_err-check_statement-clause-err
check_block-returns-in_err-check_statement-clause-err t c =
    let rest = drop (suc c.loop-statement.statement-index) c.args.statements.now in
    let Q : List Stmt → Type 0 = λ left.
    RefusesFor c.args.place.now.principals.now
    (asks_of c.args.place.now c.args.pc.now c.loop-statement.found (block_tree left))
    c.in_err-check_statement.field-0.0 in
    handed_on c.from_residual.result c.from_residual.ensures
    (refused_left c.loop-statement.invariant
    (subst Q (sym (next_of c.args.statements.now c.loop-statement.statement-index c.statement-item.result
    c.loop-statement-test.true c.statement-item.is))
    (c.in_err-check_statement.ensures.err (block_tree rest))))

pub check_block-loop-statement-preserved : goal.check_block-loop-statement-preserved
check_block-loop-statement-preserved t c =
    let rest = drop (suc c.loop-statement.statement-index) c.args.statements.now in
    let Q : List Stmt → Type 0 = λ left.
    PassesTo c.args.place.now c.args.pc.now c.loop-statement.found (block_tree left) c.check_statement.new.found
    (block_tree rest) in
    rw add-one (passes_on c.loop-statement.invariant
    (subst Q (sym (next_of c.args.statements.now c.loop-statement.statement-index c.statement-item.result
    c.loop-statement-test.true c.statement-item.is))
    (c.in_ok-check_statement.ensures.ok (block_tree rest))))

pub check_block-returns-clause-ok : goal.check_block-returns-clause-ok
check_block-returns-clause-ok t c =
    let Q : List Stmt → Type 0 = λ left.
    PassesTo c.args.place.now c.args.pc.now c.args.found.now (block_tree c.args.statements.now) c.loop-statement.found
    (block_tree left) in
    subst Q (drop_all c.loop-statement.statement-index c.args.statements.now c.loop-statement-test.false)
    c.loop-statement.invariant

-- ---- statements without blocks

pub check_statement-returns-in_err-assign_variable-in-Let-clause-err :
    goal.check_statement-returns-in_err-assign_variable-in-Let-clause-err
check_statement-returns-in_err-assign_variable-in-Let-clause-err t c =
    handed_on_rest (λ (rest : BlockTree). asks_of c.args.place.now c.args.pc.now c.args.found.now
    (tree_before c.args.statement.now rest))
    c.from_residual.result c.from_residual.ensures
    (λ rest. rw c.in-Let.is (refused_before _ (c.in_err-assign_variable-in-Let.ensures.err)))

pub check_statement-returns-in_err-assign_field-in-SetField-clause-err :
    goal.check_statement-returns-in_err-assign_field-in-SetField-clause-err
check_statement-returns-in_err-assign_field-in-SetField-clause-err t c =
    handed_on_rest (λ (rest : BlockTree). asks_of c.args.place.now c.args.pc.now c.args.found.now
    (tree_before c.args.statement.now rest))
    c.from_residual-in_err-assign_field-in-SetField.result c.from_residual-in_err-assign_field-in-SetField.ensures
    (λ rest. rw c.in-SetField.is (refused_before _
    (rw c.deref.ensures.value at c.in_err-assign_field-in-SetField.ensures.err)))

pub check_statement-returns-in_err-assign_element-in-SetElement-clause-err :
    goal.check_statement-returns-in_err-assign_element-in-SetElement-clause-err
check_statement-returns-in_err-assign_element-in-SetElement-clause-err t c =
    handed_on_rest (λ (rest : BlockTree). asks_of c.args.place.now c.args.pc.now c.args.found.now
    (tree_before c.args.statement.now rest))
    c.from_residual-in_err-assign_element-in-SetElement.result
    c.from_residual-in_err-assign_element-in-SetElement.ensures
    (λ rest. rw c.in-SetElement.is (refused_before _
    (rw c.deref-in-SetElement.ensures.value at c.in_err-assign_element-in-SetElement.ensures.err)))

pub check_statement-returns-in_err-check_call-in-Call-clause-err :
    goal.check_statement-returns-in_err-check_call-in-Call-clause-err
check_statement-returns-in_err-check_call-in-Call-clause-err t c =
    let Q : VariableLabels → List Expr → Type 0 = λ labels args.
    RefusesFor c.args.place.now.principals.now (asked c.args.statement.now.id
    (call_asks (setting_at c.args.place.now) c.args.pc.now labels
    (method_at (program_tree c.args.place.now.program.now) c.in-Call.method) (map expr_tree args) c.in-Call.into))
    c.in_err-check_call-in-Call.field-0.0 in
    let refused : Q c.args.found.now.labels.items c.in-Call.args.items
    = subst (λ (args : List Expr). Q c.args.found.now.labels.items args) c.deref-in-Call-2.ensures.value
    (subst (λ (labels : VariableLabels). Q labels c.deref-in-Call-2.result.now) c.deref-in-Call.ensures.value
    c.in_err-check_call-in-Call.ensures.err) in
    handed_on_rest (λ (rest : BlockTree). asks_of c.args.place.now c.args.pc.now c.args.found.now
    (tree_before c.args.statement.now rest))
    c.from_residual-in_err-check_call-in-Call.result c.from_residual-in_err-check_call-in-Call.ensures
    (λ rest. rw c.in-Call.is (refused_before _ refused))

pub check_statement-returns-in_err-give_back-in-Return-clause-err :
    goal.check_statement-returns-in_err-give_back-in-Return-clause-err
check_statement-returns-in_err-give_back-in-Return-clause-err t c =
    handed_on_rest (λ (rest : BlockTree). asks_of c.args.place.now c.args.pc.now c.args.found.now
    (tree_before c.args.statement.now rest))
    c.from_residual-in_err-give_back-in-Return.result c.from_residual-in_err-give_back-in-Return.ensures
    (λ rest. rw c.in-Return.is (refused_before _
    (rw c.deref-in-Return.ensures.value at c.in_err-give_back-in-Return.ensures.err)))

-- ---- branches and loops

pub check_statement-returns-in_err-inside-in-If-clause-err :
    goal.check_statement-returns-in_err-inside-in-If-clause-err
check_statement-returns-in_err-inside-in-If-clause-err t c =
    handed_on_rest (λ (rest : BlockTree). asks_of c.args.place.now c.args.pc.now c.args.found.now
    (tree_before c.args.statement.now rest))
    c.from_residual-in_err-inside-in-If.result c.from_residual-in_err-inside-in-If.ensures
    (λ rest. rw c.in-If.is (refused_before _ (rw c.deref-in-If.ensures.value at c.in_err-inside-in-If.ensures.err)))

pub check_statement-returns-in_err-inside-in-While-clause-err :
    goal.check_statement-returns-in_err-inside-in-While-clause-err
check_statement-returns-in_err-inside-in-While-clause-err t c =
    handed_on_rest (λ (rest : BlockTree). asks_of c.args.place.now c.args.pc.now c.args.found.now
    (tree_before c.args.statement.now rest))
    c.from_residual-in_err-inside-in-While.result c.from_residual-in_err-inside-in-While.ensures
    (λ rest. rw c.in-While.is (refused_before _
    (rw c.deref-in-While.ensures.value at c.in_err-inside-in-While.ensures.err)))

pub check_statement-check_block-requires : goal.check_statement-check_block-requires
check_statement-check_block-requires t c =
    let less = first_counts (head_of c.args.statement.now) (block_tree c.in-If.yes.items) (block_tree c.in-If.no.items)
    (tree_before c.args.statement.now done)
    (if_is c.args.statement.now c.in-If.guard c.in-If.yes c.in-If.no done c.in-If.is c.tree_laws.ensures.branches) in
    (rw c.deref-in-If-2.ensures.value (omega (arith, c.decreases)), c.requires)

pub check_statement-check_block-requires-in-If : goal.check_statement-check_block-requires-in-If
check_statement-check_block-requires-in-If t c =
    let less = second_counts (head_of c.args.statement.now) (block_tree c.in-If.yes.items) (block_tree c.in-If.no.items)
    (tree_before c.args.statement.now done)
    (if_is c.args.statement.now c.in-If.guard c.in-If.yes c.in-If.no done c.in-If.is c.tree_laws.ensures.branches) in
    (rw c.deref-in-If-3.ensures.value (omega (arith, c.decreases)), c.requires)

pub check_statement-check_block-requires-in-While : goal.check_statement-check_block-requires-in-While
check_statement-check_block-requires-in-While t c =
    let less = body_counts (head_of c.args.statement.now) (block_tree c.in-While.body.items)
    (tree_before c.args.statement.now done)
    (while_is c.args.statement.now c.in-While.guard c.in-While.body done c.in-While.is c.tree_laws.ensures.loops) in
    (rw c.deref-in-While-2.ensures.value (omega (arith, c.decreases)), c.requires)

pub check_block-check_statement-requires : goal.check_block-check_statement-requires
check_block-check_statement-requires t c =
    let less = part_counts c.args.statements.now c.loop-statement.statement-index c.statement-item.result
    c.loop-statement-test.true c.statement-item.is in
    (omega (arith, c.decreases), c.requires)

pub check_statement-returns-in_err-check_block-in-If-clause-err :
    goal.check_statement-returns-in_err-check_block-in-If-clause-err
check_statement-returns-in_err-check_block-in-If-clause-err t c =
    let met = rw c.deref-in-If.ensures.value at c.in_ok-inside-in-If.ensures.ok in
    let refused = rw (c.in_ok-inside-in-If.ensures.label, c.deref-in-If.ensures.value, c.deref-in-If-2.ensures.value) at
    c.in_err-check_block-in-If.ensures.err in
    handed_on_rest (λ (rest : BlockTree). asks_of c.args.place.now c.args.pc.now c.args.found.now
    (tree_before c.args.statement.now rest))
    c.from_residual-in_err-check_block-in-If.result c.from_residual-in_err-check_block-in-If.ensures
    (λ rest. first_refused (setting_at c.args.place.now) c.args.pc.now c.args.found.now.labels.items
    (head_of c.args.statement.now) (expr_tree c.in-If.guard) (block_tree c.in-If.yes.items)
    (block_tree c.in-If.no.items)
    rest (tree_before c.args.statement.now rest)
    (if_is c.args.statement.now c.in-If.guard c.in-If.yes c.in-If.no rest c.in-If.is c.tree_laws.ensures.branches)
    met refused)

pub check_statement-returns-in_ok-check_block-in-If-clause-ok :
    goal.check_statement-returns-in_ok-check_block-in-If-clause-ok
check_statement-returns-in_ok-check_block-in-If-clause-ok t c =
    let met = rw c.deref-in-If.ensures.value at c.in_ok-inside-in-If.ensures.ok in
    let passes = rw (
      c.in_ok-inside-in-If.ensures.label,
      c.deref-in-If.ensures.value,
      c.deref-in-If-2.ensures.value,
      c.in_ok-inside-in-If.ensures.pcs,
    ) at c.in_ok-check_block-in-If.ensures.ok in
    let last = rw (c.in_ok-inside-in-If.ensures.label, c.deref-in-If.ensures.value, c.deref-in-If-3.ensures.value) at
    c.check_block-in-If.ensures.ok in
    on_ok_weaker c.check_block-in-If.result (λ also. λ rest.
    branch_passes (setting_at c.args.place.now) c.args.pc.now c.args.found.now.labels.items
    c.check_block.new.found.labels.items
    (head_of c.args.statement.now) (expr_tree c.in-If.guard) (block_tree c.in-If.yes.items)
    (block_tree c.in-If.no.items)
    rest (tree_before c.args.statement.now rest)
    (if_is c.args.statement.now c.in-If.guard c.in-If.yes c.in-If.no rest c.in-If.is c.tree_laws.ensures.branches)
    met passes also) last

pub check_statement-returns-in_ok-check_block-in-If-clause-err :
    goal.check_statement-returns-in_ok-check_block-in-If-clause-err
check_statement-returns-in_ok-check_block-in-If-clause-err t c =
    let met = rw c.deref-in-If.ensures.value at c.in_ok-inside-in-If.ensures.ok in
    let passes = rw (
      c.in_ok-inside-in-If.ensures.label,
      c.deref-in-If.ensures.value,
      c.deref-in-If-2.ensures.value,
      c.in_ok-inside-in-If.ensures.pcs,
    ) at c.in_ok-check_block-in-If.ensures.ok in
    let last = rw (c.in_ok-inside-in-If.ensures.label, c.deref-in-If.ensures.value, c.deref-in-If-3.ensures.value) at
    c.check_block-in-If.ensures.err in
    refused_for_rest (λ (rest : BlockTree). asks_of c.args.place.now c.args.pc.now c.args.found.now
    (tree_before c.args.statement.now rest))
    c.check_block-in-If.result (λ why refused rest.
    second_refused (setting_at c.args.place.now) c.args.pc.now c.args.found.now.labels.items
    c.check_block.new.found.labels.items
    (head_of c.args.statement.now) (expr_tree c.in-If.guard) (block_tree c.in-If.yes.items)
    (block_tree c.in-If.no.items)
    rest (tree_before c.args.statement.now rest)
    (if_is c.args.statement.now c.in-If.guard c.in-If.yes c.in-If.no rest c.in-If.is c.tree_laws.ensures.branches)
    met passes refused) last

pub check_statement-returns-in_ok-inside-in-While-clause-ok :
    goal.check_statement-returns-in_ok-inside-in-While-clause-ok
check_statement-returns-in_ok-inside-in-While-clause-ok t c =
    let met = rw c.deref-in-While.ensures.value at c.in_ok-inside-in-While.ensures.ok in
    let pcs = rw c.deref-in-While.ensures.value at c.in_ok-inside-in-While.ensures.pcs in
    let passes = rw (
      c.in_ok-inside-in-While.ensures.label,
      c.deref-in-While.ensures.value,
      c.deref-in-While-2.ensures.value,
      pcs,
    ) at c.check_block-in-While.ensures.ok in
    on_ok_weaker c.check_block-in-While.result (λ one. λ rest.
    loop_passes (setting_at c.args.place.now) c.args.pc.now c.args.found.now.labels.items
    (head_of c.args.statement.now) (expr_tree c.in-While.guard) (block_tree c.in-While.body.items)
    rest (tree_before c.args.statement.now rest)
    (while_is c.args.statement.now c.in-While.guard c.in-While.body rest c.in-While.is c.tree_laws.ensures.loops)
    met one) passes

pub check_statement-returns-in_ok-inside-in-While-clause-err :
    goal.check_statement-returns-in_ok-inside-in-While-clause-err
check_statement-returns-in_ok-inside-in-While-clause-err t c =
    let met = rw c.deref-in-While.ensures.value at c.in_ok-inside-in-While.ensures.ok in
    let last = rw (
      c.in_ok-inside-in-While.ensures.label,
      c.deref-in-While.ensures.value,
      c.deref-in-While-2.ensures.value,
    ) at c.check_block-in-While.ensures.err in
    refused_for_rest (λ (rest : BlockTree). asks_of c.args.place.now c.args.pc.now c.args.found.now
    (tree_before c.args.statement.now rest))
    c.check_block-in-While.result (λ why refused rest.
    loop_refused (setting_at c.args.place.now) c.args.pc.now c.args.found.now.labels.items
    (head_of c.args.statement.now) (expr_tree c.in-While.guard) (block_tree c.in-While.body.items)
    rest (tree_before c.args.statement.now rest)
    (while_is c.args.statement.now c.in-While.guard c.in-While.body rest c.in-While.is c.tree_laws.ensures.loops)
    met refused) last
