use Rattle.std.proofs.Common.{List, [], ◌∷◌, refl, ap}
use Rattle.jif_tree.specs.Trees.{block_tree}
use Rattle.jif_tree.specs.Numbering.{block_lines}
use Rattle.jif_tree.specs.declared.program.Stmt.{Stmt}
use Rattle.front_end.specs.StatementLines.{kind_lines}
use Rattle.front_end.proofs.BlockParts.{part_of, lines_are, lines_nest, if_parts, while_parts, parts_more, whole_parts}
use Rattle.front_end.proofs.statements.+lines.Goals as goal

pub push_block-loop-statement-preserved : goal.push_block-loop-statement-preserved
push_block-loop-statement-preserved t c =
    parts_more part_of (λ (s : Stmt). s.line ∷ []) (λ (s : Stmt). kind_lines s.kind) _ _ _ _ _ _ _ (λ s. refl)
    c.loop-statement-test.true c.statement-item.is c.loop-statement.invariant c.in_ok-push.ensures.items
    c.in_ok-push_nested.ensures

pub push_block-returns : goal.push_block-returns
push_block-returns t c =
    whole_parts part_of block_lines _ _ _ _ lines_are c.loop-statement-test.false c.loop-statement.invariant

pub push_nested-returns-in_ok-push_block-in-If-2 : goal.push_nested-returns-in_ok-push_block-in-If-2
push_nested-returns-in_ok-push_block-in-If-2 t c =
    if_parts block_lines kind_lines lines_nest _ _ _ _ _ _ _ _ _ c.in-If.is
    (ap (λ (xs : List Stmt). block_lines (block_tree xs)) c.deref.ensures.value)
    (ap (λ (xs : List Stmt). block_lines (block_tree xs)) c.deref-in-If.ensures.value)
    c.in_ok-push_block-in-If.ensures c.in_ok-push_block-in-If-2.ensures

pub push_nested-returns-in_ok-push_block-in-While : goal.push_nested-returns-in_ok-push_block-in-While
push_nested-returns-in_ok-push_block-in-While t c =
    while_parts block_lines kind_lines lines_nest _ _ _ _ _ _ c.in-While.is
    (ap (λ (xs : List Stmt). block_lines (block_tree xs)) c.deref-in-While.ensures.value)
    c.in_ok-push_block-in-While.ensures
