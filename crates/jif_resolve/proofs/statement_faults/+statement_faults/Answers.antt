use Rattle.std.proofs.Common.{ap, refl, ◌∙◌, arith}
use Rattle.std.proofs.lemmas.Result.{IfOk-weaker, on_ok_weaker}
use Rattle.jif_resolve.specs.Contexts.{setting_in}
use Rattle.jif_resolve.specs.KnownNames.{left}
use Rattle.jif_resolve.proofs.Walks.{walk_counted, walk_goes_on, walk_left, one_count, is_if, is_while, if_count}
use Rattle.jif_resolve.proofs.Walks.{while_count, first_counted}
use Rattle.jif_resolve.proofs.Walks.{second_counted, if_place, if_faults, body_counted, while_place, while_faults}
use Rattle.jif_resolve.proofs.statement_faults.+statement_faults.Goals as goal

-- ---- blocks

pub with_block-with_statement-requires : goal.with_block-with_statement-requires
with_block-with_statement-requires t c =
    let count = one_count c.args.block.now c.loop-statement.statement-index c.statement-item.result
    c.loop-statement-test.true c.statement-item.is in (
      omega (arith, count),
      walk_counted c.statement-item.result c.requires c.loop-statement.invariant
          c.loop-statement-test.true c.statement-item.is,
    )

pub with_block-loop-statement-preserved : goal.with_block-loop-statement-preserved
with_block-loop-statement-preserved t c =
    walk_goes_on c.statement-item.result c.with_statement.new.scope c.in_ok-sooner_one.sooner_one
    c.loop-statement.invariant c.loop-statement-test.true c.statement-item.is c.in_ok-sooner_one.ensures.place
    c.in_ok-sooner_one.ensures.faults

pub with_block-returns-clause-place : goal.with_block-returns-clause-place
with_block-returns-clause-place t c =
    c.leave.ensures ∙ ap (λ mark. left mark c.loop-statement.scope) c.mark-mark.ensures
    ∙ walk_left c.loop-statement.invariant c.loop-statement-test.false

-- ---- `if`

pub with_statement-with_block-requires : goal.with_statement-with_block-requires
with_statement-with_block-requires t c =
    let x = c.args.statement.now in
    let is = is_if x c.in-If.guard c.in-If.yes c.in-If.no c.deref.result.now c.in-If.no.items c.in-If.is
    c.deref.ensures.value refl in
    let count = if_count x c.in-If.guard c.deref.result.now c.in-If.no.items is in (
      omega (arith, count),
      first_counted c.args.scope.now c.with_guard-guarded.new.scope x c.in-If.guard c.deref.result.now
          c.in-If.no.items is c.with_guard-guarded.ensures.place c.requires,
    )

pub with_statement-with_block-requires-in-If : goal.with_statement-with_block-requires-in-If
with_statement-with_block-requires-in-If t c =
    let x = c.args.statement.now in
    let is = is_if x c.in-If.guard c.in-If.yes c.in-If.no c.deref.result.now c.deref-in-If.result.now c.in-If.is
    c.deref.ensures.value c.deref-in-If.ensures.value in
    let count = if_count x c.in-If.guard c.deref.result.now c.deref-in-If.result.now is in (
      omega (arith, count),
      second_counted c.args.scope.now c.with_guard-guarded.new.scope c.with_block.new.scope x
          c.in-If.guard c.deref.result.now c.deref-in-If.result.now is c.with_guard-guarded.ensures.place
          c.in_ok-found-in-If.ensures.place c.requires,
    )

pub with_statement-returns-in_ok-found-in-If-clause-faults :
    goal.with_statement-returns-in_ok-found-in-If-clause-faults
with_statement-returns-in_ok-found-in-If-clause-faults t c =
    let x = c.args.statement.now in
    let is = is_if x c.in-If.guard c.in-If.yes c.in-If.no c.deref.result.now c.deref-in-If.result.now c.in-If.is
    c.deref.ensures.value c.deref-in-If.ensures.value in
    IfOk-weaker c.with_block-in-If.result _ _
    (λ f same. same ∙ if_faults (setting_in c.args.context.now) c.args.scope.now c.with_guard-guarded.new.scope
    c.with_block.new.scope x c.in-If.guard c.deref.result.now c.deref-in-If.result.now c.args.first
    c.with_guard-guarded.result c.in_ok-found-in-If.found is c.with_guard-guarded.ensures.place
    c.in_ok-found-in-If.ensures.place c.with_guard-guarded.ensures.faults c.in_ok-found-in-If.ensures.faults)
    c.with_block-in-If.ensures.faults

pub with_statement-returns-in_ok-found-in-If-clause-place :
    goal.with_statement-returns-in_ok-found-in-If-clause-place
with_statement-returns-in_ok-found-in-If-clause-place t c =
    let x = c.args.statement.now in
    let is = is_if x c.in-If.guard c.in-If.yes c.in-If.no c.deref.result.now c.deref-in-If.result.now c.in-If.is
    c.deref.ensures.value c.deref-in-If.ensures.value in
    on_ok_weaker c.with_block-in-If.result
    (λ same. same ∙ if_place c.args.scope.now c.with_guard-guarded.new.scope c.with_block.new.scope x c.in-If.guard
    c.deref.result.now c.deref-in-If.result.now is c.with_guard-guarded.ensures.place
    c.in_ok-found-in-If.ensures.place) c.with_block-in-If.ensures.place

-- ---- `while`

pub with_statement-with_block-requires-in-While : goal.with_statement-with_block-requires-in-While
with_statement-with_block-requires-in-While t c =
    let x = c.args.statement.now in
    let is = is_while x c.in-While.guard c.in-While.body c.deref-in-While.result.now c.in-While.is
    c.deref-in-While.ensures.value in
    let count = while_count x c.in-While.guard c.deref-in-While.result.now is in (
      omega (arith, count),
      body_counted c.args.scope.now c.with_guard-guarded-in-While.new.scope x c.in-While.guard
          c.deref-in-While.result.now is c.with_guard-guarded-in-While.ensures.place c.requires,
    )

pub with_statement-returns-in-While-clause-faults :
    goal.with_statement-returns-in-While-clause-faults
with_statement-returns-in-While-clause-faults t c =
    let x = c.args.statement.now in
    let is = is_while x c.in-While.guard c.in-While.body c.deref-in-While.result.now c.in-While.is
    c.deref-in-While.ensures.value in
    IfOk-weaker c.with_block-in-While.result _ _
    (λ f same. same ∙ while_faults (setting_in c.args.context.now) c.args.scope.now
    c.with_guard-guarded-in-While.new.scope x c.in-While.guard c.deref-in-While.result.now c.args.first
    c.with_guard-guarded-in-While.result is c.with_guard-guarded-in-While.ensures.place
    c.with_guard-guarded-in-While.ensures.faults) c.with_block-in-While.ensures.faults

pub with_statement-returns-in-While-clause-place :
    goal.with_statement-returns-in-While-clause-place
with_statement-returns-in-While-clause-place t c =
    let x = c.args.statement.now in
    let is = is_while x c.in-While.guard c.in-While.body c.deref-in-While.result.now c.in-While.is
    c.deref-in-While.ensures.value in
    on_ok_weaker c.with_block-in-While.result
    (λ same. same ∙ while_place c.args.scope.now c.with_guard-guarded-in-While.new.scope x c.in-While.guard
    c.deref-in-While.result.now is c.with_guard-guarded-in-While.ensures.place) c.with_block-in-While.ensures.place
