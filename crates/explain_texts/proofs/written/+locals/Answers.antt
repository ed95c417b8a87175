use Rattle.std.proofs.Common.{List, ap}
use Rattle.jif_tree.specs.declared.draft.StmtDraft.{StmtDraft}
use Rattle.jif_grammar.specs.DraftShapes.{block_shape}
use Rattle.explain_texts.specs.DraftPlaces.{block_locals, kind_locals}
use Rattle.explain_texts.proofs.DraftParts.{locals_part, locals_are, locals_nest, if_parts, while_parts, whole_parts}
use Rattle.explain_texts.proofs.written.+locals.Goals as goal

pub push_locals-returns : goal.push_locals-returns
push_locals-returns t c =
    whole_parts locals_part block_locals _ _ _ _ locals_are c.loop-statement-test.false c.loop-statement.invariant

pub push_own_locals-returns-in_ok-push_locals-in-If-2 : goal.push_own_locals-returns-in_ok-push_locals-in-If-2
push_own_locals-returns-in_ok-push_locals-in-If-2 t c =
    if_parts block_locals kind_locals locals_nest _ _ _ _ _ _ _ _ _ c.in-If.is
    (ap (λ (xs : List StmtDraft). block_locals (block_shape xs)) c.deref.ensures.value)
    (ap (λ (xs : List StmtDraft). block_locals (block_shape xs)) c.deref-in-If.ensures.value)
    c.in_ok-push_locals-in-If.ensures c.in_ok-push_locals-in-If-2.ensures

pub push_own_locals-returns-in_ok-push_locals-in-While : goal.push_own_locals-returns-in_ok-push_locals-in-While
push_own_locals-returns-in_ok-push_locals-in-While t c =
    while_parts block_locals kind_locals locals_nest _ _ _ _ _ _ c.in-While.is
    (ap (λ (xs : List StmtDraft). block_locals (block_shape xs)) c.deref-in-While.ensures.value)
    c.in_ok-push_locals-in-While.ensures
