use Rattle.std.proofs.Common.{Bool, List, [], ◌∷◌, ◌++◌, refl, ap, ◌∙◌}
use Rattle.std.specs.List.{list_any}
use Rattle.jif_tree.specs.Trees.{block_tree}
use Rattle.jif_tree.specs.declared.program.Stmt.{Stmt}
use Rattle.need_labels.specs.Needs.{releases}
use Rattle.releasing_statements.specs.Kinds.{own_exprs, kind_marks}
use Rattle.releasing_statements.specs.Marks.{block_marks}
use Rattle.releasing_statements.proofs.MarkParts.{marks_of, marks_more, if_marks, while_marks, whole_marks}
use Rattle.releasing_statements.proofs.marks.+marks.Goals as goal

pub push_block-loop-statement-preserved : goal.push_block-loop-statement-preserved
push_block-loop-statement-preserved t c =
    marks_more marks_of (λ (s : Stmt). list_any releases (own_exprs s.kind)) (λ (s : Stmt). kind_marks s.kind)
    _ _ _ _ _ _ _ (λ s. refl) c.loop-statement-test.true c.statement-item.is c.loop-statement.invariant
    (c.in_ok-push.ensures.items ∙ ap (λ (b : Bool). c.loop-statement.marks.items ++ b ∷ []) c.releases_itself.ensures)
    c.in_ok-push_nested.ensures

pub push_block-returns : goal.push_block-returns
push_block-returns t c = whole_marks _ _ _ _ c.loop-statement-test.false c.loop-statement.invariant

pub push_nested-returns-in_ok-push_block-in-If-2 : goal.push_nested-returns-in_ok-push_block-in-If-2
push_nested-returns-in_ok-push_block-in-If-2 t c =
    if_marks _ _ _ _ _ _ _ _ _ c.in-If.is
    (ap (λ (xs : List Stmt). block_marks (block_tree xs)) c.deref.ensures.value)
    (ap (λ (xs : List Stmt). block_marks (block_tree xs)) c.deref-in-If.ensures.value)
    c.in_ok-push_block-in-If.ensures c.in_ok-push_block-in-If-2.ensures

pub push_nested-returns-in_ok-push_block-in-While : goal.push_nested-returns-in_ok-push_block-in-While
push_nested-returns-in_ok-push_block-in-While t c =
    while_marks _ _ _ _ _ _ c.in-While.is
    (ap (λ (xs : List Stmt). block_marks (block_tree xs)) c.deref-in-While.ensures.value)
    c.in_ok-push_block-in-While.ensures
