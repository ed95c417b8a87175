-- The statements of a nested block, which its draft keeps as a row, are those of the list.
use Rattle.std.proofs.Common.{◌≡◌, Vec, Global, refl, ap, ◌∙◌}
use mathlib.Core.Former.{Count}
use Rattle.jif_tree.specs.declared.draft.StmtKindDraft as kind
use Rattle.jif_tree.specs.declared.draft.StmtKindDraft.{StmtKindDraft}
use Rattle.jif_tree.specs.declared.draft.StmtDraft.{StmtDraft}
use Rattle.jif_tree.specs.declared.draft.ExprDraft.{ExprDraft}
use Rattle.jif_grammar.specs.DraftShapes.{Start, BlockShape, statement_shape, row_shape, block_shape, branch_shape}
use Rattle.jif_grammar.specs.DraftShapes.{loop_shape, expr_shape}

row_of_list : {n : _} (row : kind.Row_of-StmtDraft n) → row_shape row ≡ block_shape (kind.items-the_row-StmtDraft n row)
row_of_list kind.end_of-StmtDraft = refl
row_of_list (kind.more_of-StmtDraft at line what rest) = ap (statement_shape what _) (row_of_list rest)

-- the first and the second nested block of a statement
abbrev first_row : StmtKindDraft → (n : Count) × kind.Row_of-StmtDraft n
first_row (kind.If' guard m first n second) = (_, first)
first_row (kind.While' guard m body) = (_, body)
first_row _ = (_, kind.end_of-StmtDraft)

abbrev second_row : StmtKindDraft → (n : Count) × kind.Row_of-StmtDraft n
second_row (kind.If' guard m first n second) = (_, second)
second_row _ = (_, kind.end_of-StmtDraft)

pub if_shape : (guard : ExprDraft) (first second : Vec StmtDraft Global) (start : Start) (rest : BlockShape) →
    statement_shape (kind.If guard first second) start rest
    ≡ branch_shape start (expr_shape guard) (block_shape first.items) (block_shape second.items) rest
if_shape guard first second start rest =
    let row = first_row (kind.If guard first second) in
    let other = second_row (kind.If guard first second) in
    ap (λ x. branch_shape start (expr_shape guard) x (row_shape other.1) rest)
    (row_of_list row.1 ∙ ap block_shape (kind.items_hidden-the_row-StmtDraft-0 first))
    ∙ ap (λ x. branch_shape start (expr_shape guard) (block_shape first.items) x rest)
    (row_of_list other.1 ∙ ap block_shape (kind.items_hidden-the_row-StmtDraft-0 second))

pub while_shape : (guard : ExprDraft) (body : Vec StmtDraft Global) (start : Start) (rest : BlockShape) →
    statement_shape (kind.While guard body) start rest
    ≡ loop_shape start (expr_shape guard) (block_shape body.items) rest
while_shape guard body start rest =
    let row = first_row (kind.While guard body) in
    ap (λ x. loop_shape start (expr_shape guard) x rest)
    (row_of_list row.1 ∙ ap block_shape (kind.items_hidden-the_row-StmtDraft-0 body))
