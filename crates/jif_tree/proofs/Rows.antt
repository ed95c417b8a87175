-- The statements of a nested block, which a statement keeps as a row, are those of the list.
use Rattle.std.proofs.Common.{◌≡◌, Vec, Global, refl, ap, ◌∙◌}
use mathlib.Core.Former.{Count}
use Rattle.jif_tree.specs.declared.program.StmtKind as kind
use Rattle.jif_tree.specs.declared.program.StmtKind.{StmtKind}
use Rattle.jif_tree.specs.declared.program.Stmt.{Stmt}
use Rattle.jif_tree.specs.declared.program.Expr.{Expr}
use Rattle.jif_tree.specs.Trees.{Heading, BlockTree, branch, loop, expr_tree, statement_tree, row_tree, block_tree}

row_of_list : {n : _} (row : kind.Row_of-Stmt n) → row_tree row ≡ block_tree (kind.items-the_row-Stmt n row)
row_of_list kind.end_of-Stmt = refl
row_of_list (kind.more_of-Stmt id line what rest) = ap (statement_tree what _) (row_of_list rest)

-- the first and the second nested block of a statement
abbrev first_row : StmtKind → (n : Count) × kind.Row_of-Stmt n
first_row (kind.If' guard m first n second) = (_, first)
first_row (kind.While' guard m body) = (_, body)
first_row _ = (_, kind.end_of-Stmt)

abbrev second_row : StmtKind → (n : Count) × kind.Row_of-Stmt n
second_row (kind.If' guard m first n second) = (_, second)
second_row _ = (_, kind.end_of-Stmt)

pub if_tree : (guard : Expr) (first second : Vec Stmt Global) (heading : Heading) (rest : BlockTree) →
    statement_tree (kind.If guard first second) heading rest
    ≡ branch heading (expr_tree guard) (block_tree first.items) (block_tree second.items) rest
if_tree guard first second heading rest =
    let row = first_row (kind.If guard first second) in
    let other = second_row (kind.If guard first second) in
    ap (λ x. branch heading (expr_tree guard) x (row_tree other.1) rest)
    (row_of_list row.1 ∙ ap block_tree (kind.items_hidden-the_row-Stmt-0 first))
    ∙ ap (λ x. branch heading (expr_tree guard) (block_tree first.items) x rest)
    (row_of_list other.1 ∙ ap block_tree (kind.items_hidden-the_row-Stmt-0 second))

pub while_tree : (guard : Expr) (body : Vec Stmt Global) (heading : Heading) (rest : BlockTree) →
    statement_tree (kind.While guard body) heading rest
    ≡ loop heading (expr_tree guard) (block_tree body.items) rest
while_tree guard body heading rest =
    let row = first_row (kind.While guard body) in
    ap (λ x. loop heading (expr_tree guard) x rest)
    (row_of_list row.1 ∙ ap block_tree (kind.items_hidden-the_row-Stmt-0 body))
