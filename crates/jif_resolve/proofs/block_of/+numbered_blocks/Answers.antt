use Rattle.std.proofs.Common.{ap, refl, ◌∙◌, arith}
use Rattle.std.specs.Option.{option_map}
use Rattle.std.proofs.lemmas.Result.{IfOk-weaker}
use Rattle.jif_grammar.specs.DraftShapes.{label_shape}
use Rattle.jif_resolve.specs.Contexts.{setting_in}
use Rattle.jif_resolve.specs.KnownNames.{left}
use Rattle.jif_resolve.proofs.Walks.{one_count, is_if, is_while, if_count, while_count, first_counted, second_counted}
use Rattle.jif_resolve.proofs.Walks.{if_place, body_counted, while_place}
use Rattle.jif_resolve.proofs.Blocks.{made_begins, made_clean, made_counted, made_more, made_block, made_left}
use Rattle.jif_resolve.proofs.Blocks.{clean_declaration, clean_if, clean_while, kind_is, if_made, while_made}
use Rattle.jif_resolve.proofs.block_of.+numbered_blocks.Goals as goal

-- ---- blocks

pub block_of-loop-draft-init : goal.block_of-loop-draft-init
block_of-loop-draft-init t c =
    made_begins (setting_in c.args.context.now) c.args.scope.now c.args.block.now c.new-statements.result.items
    c.new-statements.ensures.items c.requires.clean

pub block_of-statement_of-requires : goal.block_of-statement_of-requires
block_of-statement_of-requires t c =
    let x = c.draft-item.result in
    let count = one_count c.args.block.now c.loop-draft.draft-index x c.loop-draft-test.true c.draft-item.is in (
      omega (arith, count),
      (
        made_clean x c.loop-draft.invariant c.loop-draft-test.true c.draft-item.is,
        made_counted x c.requires.clean c.requires.counted c.loop-draft.invariant c.loop-draft-test.true
            c.draft-item.is,
      ),
    )

pub block_of-loop-draft-preserved : goal.block_of-loop-draft-preserved
block_of-loop-draft-preserved t c =
    rw c.in_ok-push.ensures.items
    (made_more c.draft-item.result c.statement_of.new.scope c.in_ok-statement.statement c.requires.clean
    c.loop-draft.invariant c.loop-draft-test.true c.draft-item.is c.in_ok-statement.ensures.place
    c.in_ok-statement.ensures.statement)

pub block_of-returns-clause-block : goal.block_of-returns-clause-block
block_of-returns-clause-block t c = made_block c.loop-draft.invariant c.loop-draft-test.false

pub block_of-returns-clause-place : goal.block_of-returns-clause-place
block_of-returns-clause-place t c =
    c.leave.ensures ∙ ap (λ mark. left mark c.loop-draft.scope) c.mark-mark.ensures
    ∙ made_left c.requires.clean c.loop-draft.invariant c.loop-draft-test.false

-- ---- statements

pub statement_of-returns-clause-statement : goal.statement_of-returns-clause-statement
statement_of-returns-clause-statement t c =
    rw c.statement.ensures (λ rest behind is. c.in_ok-kind.ensures.kind _ rest behind is)

pub kind_of-declaration_of-requires-clause-clean : goal.kind_of-declaration_of-requires-clause-clean
kind_of-declaration_of-requires-clause-clean t c =
    clean_declaration (setting_in c.args.context.now) c.args.scope.now c.args.draft.now c.in-Declare.label
    c.in-Declare.name c.in-Declare.value c.in-Declare.is c.requires.clean

pub kind_of-returns-in-Declare-clause-kind : goal.kind_of-returns-in-Declare-clause-kind
kind_of-returns-in-Declare-clause-kind t c =
    IfOk-weaker c.declaration_of.result _ _
    (λ made is. kind_is (setting_in c.args.context.now) c.args.scope.now c.declaration_of.new.scope made
    c.in-Declare.is (is (option_map label_shape c.in-Declare.label))) c.declaration_of.ensures.kind

pub kind_of-returns-in-Assign-clause-kind : goal.kind_of-returns-in-Assign-clause-kind
kind_of-returns-in-Assign-clause-kind t c =
    IfOk-weaker c.assignment_of.result _ _
    (λ made is. kind_is (setting_in c.args.context.now) c.args.scope.now c.assignment_of.new.scope made
    c.in-Assign.is is) c.assignment_of.ensures.kind

pub kind_of-returns-in-AssignElement-clause-kind :
    goal.kind_of-returns-in-AssignElement-clause-kind
kind_of-returns-in-AssignElement-clause-kind t c =
    IfOk-weaker c.element_assignment_of.result _ _
    (λ made is. kind_is (setting_in c.args.context.now) c.args.scope.now c.element_assignment_of.new.scope made
    c.in-AssignElement.is is) c.element_assignment_of.ensures.kind

pub kind_of-returns-in-Call-clause-kind : goal.kind_of-returns-in-Call-clause-kind
kind_of-returns-in-Call-clause-kind t c =
    IfOk-weaker c.call_of.result _ _
    (λ made is. kind_is (setting_in c.args.context.now) c.args.scope.now c.call_of.new.scope made c.in-Call.is is)
    (rw c.deref-in-Call.ensures.value at c.call_of.ensures.kind)

-- ---- `if`

pub kind_of-guard_of-requires-clause-clean : goal.kind_of-guard_of-requires-clause-clean
kind_of-guard_of-requires-clause-clean t c =
    let x = c.args.draft.now in
    let is = is_if x c.in-If.guard c.in-If.yes c.in-If.no c.in-If.yes.items c.in-If.no.items c.in-If.is refl refl in
    (clean_if (setting_in c.args.context.now) c.args.scope.now x c.in-If.guard c.in-If.yes.items c.in-If.no.items is
    c.requires.clean).0

pub kind_of-block_of-requires : goal.kind_of-block_of-requires
kind_of-block_of-requires t c =
    let x = c.args.draft.now in
    let is = is_if x c.in-If.guard c.in-If.yes c.in-If.no c.deref.result.now c.in-If.no.items c.in-If.is
    c.deref.ensures.value refl in
    let count = if_count x c.in-If.guard c.deref.result.now c.in-If.no.items is in
    let clean = clean_if (setting_in c.args.context.now) c.args.scope.now x c.in-If.guard c.deref.result.now
    c.in-If.no.items is c.requires.clean in (
      omega (arith, count),
      (
        rw c.in_ok-guard-in-If.ensures.place clean.1,
        first_counted c.args.scope.now c.guard_of.new.scope x c.in-If.guard c.deref.result.now c.in-If.no.items is
            c.in_ok-guard-in-If.ensures.place c.requires.counted,
      ),
    )

pub kind_of-block_of-requires-in-If : goal.kind_of-block_of-requires-in-If
kind_of-block_of-requires-in-If t c =
    let x = c.args.draft.now in
    let is = is_if x c.in-If.guard c.in-If.yes c.in-If.no c.deref.result.now c.deref-in-If.result.now c.in-If.is
    c.deref.ensures.value c.deref-in-If.ensures.value in
    let count = if_count x c.in-If.guard c.deref.result.now c.deref-in-If.result.now is in
    let clean = clean_if (setting_in c.args.context.now) c.args.scope.now x c.in-If.guard c.deref.result.now
    c.deref-in-If.result.now is c.requires.clean in (
      omega (arith, count),
      (
        rw c.in_ok-yes-in-If.ensures.place (rw c.in_ok-guard-in-If.ensures.place clean.2),
        second_counted c.args.scope.now c.guard_of.new.scope c.block_of.new.scope x c.in-If.guard c.deref.result.now
            c.deref-in-If.result.now is c.in_ok-guard-in-If.ensures.place c.in_ok-yes-in-If.ensures.place
            c.requires.counted,
      ),
    )

pub kind_of-returns-in_ok-no-in-If-clause-kind : goal.kind_of-returns-in_ok-no-in-If-clause-kind
kind_of-returns-in_ok-no-in-If-clause-kind t c =
    if_made c.tree_laws.ensures.branches (setting_in c.args.context.now) c.args.scope.now c.guard_of.new.scope
    c.block_of.new.scope c.block_of-in-If.new.scope c.args.draft.now.kind c.in-If.guard c.in-If.yes c.in-If.no
    c.deref.result.now c.deref-in-If.result.now c.in_ok-guard-in-If.guard c.in_ok-yes-in-If.yes c.in_ok-no-in-If.no
    c.in-If.is c.deref.ensures.value c.deref-in-If.ensures.value c.in_ok-guard-in-If.ensures.place
    c.in_ok-yes-in-If.ensures.place c.in_ok-no-in-If.ensures.place c.in_ok-guard-in-If.ensures.guard
    c.in_ok-yes-in-If.ensures.block c.in_ok-no-in-If.ensures.block

pub kind_of-returns-in_ok-no-in-If-clause-place : goal.kind_of-returns-in_ok-no-in-If-clause-place
kind_of-returns-in_ok-no-in-If-clause-place t c =
    let x = c.args.draft.now in
    let is = is_if x c.in-If.guard c.in-If.yes c.in-If.no c.deref.result.now c.deref-in-If.result.now c.in-If.is
    c.deref.ensures.value c.deref-in-If.ensures.value in
    c.in_ok-no-in-If.ensures.place
    ∙ if_place c.args.scope.now c.guard_of.new.scope c.block_of.new.scope x c.in-If.guard c.deref.result.now
    c.deref-in-If.result.now is c.in_ok-guard-in-If.ensures.place c.in_ok-yes-in-If.ensures.place

-- ---- `while`

pub kind_of-guard_of-requires-in-While-clause-clean :
    goal.kind_of-guard_of-requires-in-While-clause-clean
kind_of-guard_of-requires-in-While-clause-clean t c =
    let x = c.args.draft.now in
    let is = is_while x c.in-While.guard c.in-While.body c.in-While.body.items c.in-While.is refl in
    (clean_while (setting_in c.args.context.now) c.args.scope.now x c.in-While.guard c.in-While.body.items is
    c.requires.clean).0

pub kind_of-block_of-requires-in-While : goal.kind_of-block_of-requires-in-While
kind_of-block_of-requires-in-While t c =
    let x = c.args.draft.now in
    let is = is_while x c.in-While.guard c.in-While.body c.deref-in-While.result.now c.in-While.is
    c.deref-in-While.ensures.value in
    let count = while_count x c.in-While.guard c.deref-in-While.result.now is in
    let clean = clean_while (setting_in c.args.context.now) c.args.scope.now x c.in-While.guard
    c.deref-in-While.result.now is c.requires.clean in (
      omega (arith, count),
      (
        rw c.in_ok-guard-in-While.ensures.place clean.1,
        body_counted c.args.scope.now c.guard_of-in-While.new.scope x c.in-While.guard c.deref-in-While.result.now is
            c.in_ok-guard-in-While.ensures.place c.requires.counted,
      ),
    )

pub kind_of-returns-in_ok-body-in-While-clause-kind :
    goal.kind_of-returns-in_ok-body-in-While-clause-kind
kind_of-returns-in_ok-body-in-While-clause-kind t c =
    while_made c.tree_laws.ensures.loops (setting_in c.args.context.now) c.args.scope.now c.guard_of-in-While.new.scope
    c.block_of-in-While.new.scope c.args.draft.now.kind c.in-While.guard c.in-While.body c.deref-in-While.result.now
    c.in_ok-guard-in-While.guard c.in_ok-body-in-While.body c.in-While.is c.deref-in-While.ensures.value
    c.in_ok-guard-in-While.ensures.place c.in_ok-body-in-While.ensures.place c.in_ok-guard-in-While.ensures.guard
    c.in_ok-body-in-While.ensures.block

pub kind_of-returns-in_ok-body-in-While-clause-place :
    goal.kind_of-returns-in_ok-body-in-While-clause-place
kind_of-returns-in_ok-body-in-While-clause-place t c =
    let x = c.args.draft.now in
    let is = is_while x c.in-While.guard c.in-While.body c.deref-in-While.result.now c.in-While.is
    c.deref-in-While.ensures.value in
    c.in_ok-body-in-While.ensures.place
    ∙ while_place c.args.scope.now c.guard_of-in-While.new.scope x c.in-While.guard c.deref-in-While.result.now is
    c.in_ok-guard-in-While.ensures.place
