use Rattle.std.proofs.Common.{[], ◌∷◌, ◌+◌, subst, sym, refl, arith}
use Rattle.std.proofs.lemmas.Result.{on_ok_weaker}
use Rattle.jif_grammar.specs.DraftShapes.{block_shape}
use Rattle.jif_resolve.specs.AddedVariables.{local_variables, AreLabelled, AddsVariables}
use Rattle.jif_resolve.proofs.Walks.{one_count, is_if, is_while, if_count, while_count}
use Rattle.jif_resolve.proofs.VariableLists.{labelled_both, adds_both, added_next, added_more, local_next, locals_from}
use Rattle.jif_resolve.proofs.VariableLists.{if_locals, while_locals}
use Rattle.jif_resolve.proofs.variables.+locals.Goals as goal

-- ---- blocks

pub push_locals-push_locals_of-requires : goal.push_locals-push_locals_of-requires
push_locals-push_locals_of-requires t c =
    let x = c.statement-item.result in
    let i = c.loop-statement.statement-index in
    let count = one_count c.args.block.now i x c.loop-statement-test.true c.statement-item.is in (
      omega (arith, count),
      added_next (local_variables c.args.method (block_shape (x ∷ [])))
          (locals_from c.args.method c.args.block.now (i + 1)) c.loop-statement.invariant
          (local_next c.args.method c.args.block.now i x c.loop-statement-test.true c.statement-item.is),
    )

pub push_locals-loop-statement-preserved : goal.push_locals-loop-statement-preserved
push_locals-loop-statement-preserved t c =
    let x = c.statement-item.result in
    let i = c.loop-statement.statement-index in
    added_more (local_variables c.args.method (block_shape (x ∷ [])))
    (locals_from c.args.method c.args.block.now (i + 1)) c.push_locals_of.new.variables.items
    c.loop-statement.invariant
    (local_next c.args.method c.args.block.now i x c.loop-statement-test.true c.statement-item.is)
    c.in_ok-push_locals_of.ensures

-- ---- `if`

pub push_locals_of-push_locals-requires : goal.push_locals_of-push_locals-requires
push_locals_of-push_locals-requires t c =
    let x = c.args.statement.now in
    let is = is_if x c.in-If.guard c.in-If.yes c.in-If.no c.deref.result.now c.in-If.no.items c.in-If.is
    c.deref.ensures.value refl in
    let count = if_count x c.in-If.guard c.deref.result.now c.in-If.no.items is in
    let split = if_locals c.args.method x c.in-If.guard c.deref.result.now c.in-If.no.items is in (
      omega (arith, count),
      (labelled_both c.args.principals.now (local_variables c.args.method (block_shape c.deref.result.now))
          (local_variables c.args.method (block_shape c.in-If.no.items))
          (subst (AreLabelled c.args.principals.now) split c.requires)).0,
    )

pub push_locals_of-push_locals-requires-in-If : goal.push_locals_of-push_locals-requires-in-If
push_locals_of-push_locals-requires-in-If t c =
    let x = c.args.statement.now in
    let is = is_if x c.in-If.guard c.in-If.yes c.in-If.no c.deref.result.now c.deref-in-If.result.now c.in-If.is
    c.deref.ensures.value c.deref-in-If.ensures.value in
    let count = if_count x c.in-If.guard c.deref.result.now c.deref-in-If.result.now is in
    let split = if_locals c.args.method x c.in-If.guard c.deref.result.now c.deref-in-If.result.now is in (
      omega (arith, count),
      (labelled_both c.args.principals.now (local_variables c.args.method (block_shape c.deref.result.now))
          (local_variables c.args.method (block_shape c.deref-in-If.result.now))
          (subst (AreLabelled c.args.principals.now) split c.requires)).1,
    )

pub push_locals_of-returns-in_ok-push_locals-in-If :
    goal.push_locals_of-returns-in_ok-push_locals-in-If
push_locals_of-returns-in_ok-push_locals-in-If t c =
    let x = c.args.statement.now in
    let is = is_if x c.in-If.guard c.in-If.yes c.in-If.no c.deref.result.now c.deref-in-If.result.now c.in-If.is
    c.deref.ensures.value c.deref-in-If.ensures.value in
    let split = if_locals c.args.method x c.in-If.guard c.deref.result.now c.deref-in-If.result.now is in
    on_ok_weaker c.push_locals-in-If.result
    (λ added. subst (λ vs. AddsVariables c.args.principals.now vs c.args.variables.now.items
    c.push_locals-in-If.new.variables.items) (sym split)
    (adds_both c.args.principals.now (local_variables c.args.method (block_shape c.deref.result.now))
    (local_variables c.args.method (block_shape c.deref-in-If.result.now)) c.args.variables.now.items
    c.push_locals.new.variables.items c.push_locals-in-If.new.variables.items c.in_ok-push_locals-in-If.ensures added))
    c.push_locals-in-If.ensures

-- ---- `while`

pub push_locals_of-push_locals-requires-in-While :
    goal.push_locals_of-push_locals-requires-in-While
push_locals_of-push_locals-requires-in-While t c =
    let x = c.args.statement.now in
    let is = is_while x c.in-While.guard c.in-While.body c.deref-in-While.result.now c.in-While.is
    c.deref-in-While.ensures.value in
    let count = while_count x c.in-While.guard c.deref-in-While.result.now is in
    let same = while_locals c.args.method x c.in-While.guard c.deref-in-While.result.now is in
    (omega (arith, count), subst (AreLabelled c.args.principals.now) same c.requires)

pub push_locals_of-returns-in-While : goal.push_locals_of-returns-in-While
push_locals_of-returns-in-While t c =
    let x = c.args.statement.now in
    let is = is_while x c.in-While.guard c.in-While.body c.deref-in-While.result.now c.in-While.is
    c.deref-in-While.ensures.value in
    let same = while_locals c.args.method x c.in-While.guard c.deref-in-While.result.now is in
    on_ok_weaker c.push_locals-in-While.result
    (λ added. subst (λ vs. AddsVariables c.args.principals.now vs c.args.variables.now.items
    c.push_locals-in-While.new.variables.items) (sym same) added) c.push_locals-in-While.ensures
