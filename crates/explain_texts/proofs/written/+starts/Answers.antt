use Rattle.std.proofs.Common.{List, ap}
use Rattle.jif_tree.specs.declared.draft.StmtDraft.{StmtDraft}
use Rattle.jif_grammar.specs.DraftShapes.{block_shape}
use Rattle.explain_texts.specs.DraftPlaces.{block_starts, kind_starts}
use Rattle.explain_texts.proofs.DraftParts.{starts_part, starts_are, starts_nest, if_parts, while_parts, whole_parts}
use Rattle.explain_texts.proofs.written.+starts.Goals as goal

pub push_starts-returns : goal.push_starts-returns
push_starts-returns t c =
    whole_parts starts_part block_starts _ _ _ _ starts_are c.loop-statement-test.false c.loop-statement.invariant

pub push_nested_starts-returns-in_ok-push_starts-in-If-2 :
    goal.push_nested_starts-returns-in_ok-push_starts-in-If-2
push_nested_starts-returns-in_ok-push_starts-in-If-2 t c =
    if_parts block_starts kind_starts starts_nest _ _ _ _ _ _ _ _ _ c.in-If.is
    (ap (λ (xs : List StmtDraft). block_starts (block_shape xs)) c.deref.ensures.value)
    (ap (λ (xs : List StmtDraft). block_starts (block_shape xs)) c.deref-in-If.ensures.value)
    c.in_ok-push_starts-in-If.ensures c.in_ok-push_starts-in-If-2.ensures

pub push_nested_starts-returns-in_ok-push_starts-in-While :
    goal.push_nested_starts-returns-in_ok-push_starts-in-While
push_nested_starts-returns-in_ok-push_starts-in-While t c =
    while_parts block_starts kind_starts starts_nest _ _ _ _ _ _ c.in-While.is
    (ap (λ (xs : List StmtDraft). block_starts (block_shape xs)) c.deref-in-While.ensures.value)
    c.in_ok-push_starts-in-While.ensures
