use Rattle.std.proofs.Common.{List, refl, ap}
use Rattle.jif_tree.specs.Trees.{block_tree}
use Rattle.jif_tree.specs.declared.program.Stmt.{Stmt}
use Rattle.releasing_statements.specs.Releases.{if_releasing, block_releases}
use Rattle.releasing_statements.specs.Kinds.{own_exprs}
use Rattle.run_comparison.specs.ReleasingKinds.{kind_releases}
use Rattle.front_end.proofs.BlockParts.{if_parts, while_parts, parts_more, whole_parts}
use Rattle.run_comparison.proofs.ReleaseParts.{releases_of, releases_are, releases_nest}
use Rattle.run_comparison.proofs.releasing.+found.Goals as goal

pub push_block-loop-statement-preserved : goal.push_block-loop-statement-preserved
push_block-loop-statement-preserved t c =
    parts_more releases_of (λ (s : Stmt). if_releasing s.id.0 (own_exprs s.kind)) (λ (s : Stmt). kind_releases s.kind)
    _ _ _ _ _ _ _ (λ s. refl) c.loop-statement-test.true c.statement-item.is c.loop-statement.invariant
    c.in_ok-push_own.ensures c.in_ok-push_nested.ensures

pub push_block-returns : goal.push_block-returns
push_block-returns t c =
    whole_parts releases_of block_releases _ _ _ _ releases_are c.loop-statement-test.false
    c.loop-statement.invariant

pub push_nested-returns-in_ok-push_block-in-If-2 : goal.push_nested-returns-in_ok-push_block-in-If-2
push_nested-returns-in_ok-push_block-in-If-2 t c =
    if_parts block_releases kind_releases releases_nest _ _ _ _ _ _ _ _ _ c.in-If.is
    (ap (λ (xs : List Stmt). block_releases (block_tree xs)) c.deref.ensures.value)
    (ap (λ (xs : List Stmt). block_releases (block_tree xs)) c.deref-in-If.ensures.value)
    c.in_ok-push_block-in-If.ensures c.in_ok-push_block-in-If-2.ensures

pub push_nested-returns-in_ok-push_block-in-While : goal.push_nested-returns-in_ok-push_block-in-While
push_nested-returns-in_ok-push_block-in-While t c =
    while_parts block_releases kind_releases releases_nest _ _ _ _ _ _ c.in-While.is
    (ap (λ (xs : List Stmt). block_releases (block_tree xs)) c.deref-in-While.ensures.value)
    c.in_ok-push_block-in-While.ensures
