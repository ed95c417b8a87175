use Rattle.std.proofs.Common.{◌≡◌, ◌∙◌, ◌++◌, suc, true, List, [], ◌∷◌, drop, ap, sym, subst, add-one, arith}
use Rattle.std.proofs.lemmas.Result.{IfOk-weaker}
use Rattle.js_base.proofs.Lists.{next_of}
use Rattle.jif_tree.specs.declared.program.Stmt.{Stmt}
use Rattle.jif_tree.specs.declared.program.StmtKind.{StmtKind}
use Rattle.jif_tree.specs.Trees.{BlockTree, done, expr_tree, statement_tree, block_tree, tree_before, head_of}
use Rattle.jif_tree.specs.Trees.{program_tree}
use Rattle.jif_tree.proofs.StatementCounts.{part_counts, first_counts, second_counts, body_counts}
use Rattle.msg_cost.specs.Pieces.{CostPiece, given_statements, walk, block_pieces}
use Rattle.msg_cost.specs.PieceViews.{givens_of, all_pieces}
use Rattle.msg_cost.proofs.PieceWalks.{one_more, walk_is, walked_added, branch_pieces, loop_pieces}
use Rattle.msg_cost.proofs.pieces.+pieces.Goals as goal

pub add_block-add_statement-requires : goal.add_block-add_statement-requires
add_block-add_statement-requires t c =
    let less = part_counts c.args.walk.now.block.now c.loop-place.place c.statement-item.result
    c.loop-place-test.true c.statement-item.is in
    (omega (arith, c.decreases), (c.requires.knows, c.loop-place.invariant.tables))

pub add_block-loop-place-preserved : goal.add_block-loop-place-preserved
add_block-loop-place-preserved t c =
    let program = program_tree c.args.program.now in
    let walk = c.args.walk.now in
    let own = givens_of walk.block.now in
    let first = c.statement-item.result in
    let place = c.loop-place.place in
    let next = next_of walk.block.now place first c.loop-place-test.true c.statement-item.is in
    let P : List Stmt → Type 0 = λ left. all_pieces c.loop-place.pieces.items
    ++ block_pieces program walk.weight walk.home own place (block_tree left)
    ≡ all_pieces c.args.pieces.now.items
    ++ block_pieces program walk.weight walk.home own 0 (block_tree walk.block.now) in
    rw add-one (record {
      pieces = one_more program walk.weight walk.home own place (all_pieces c.loop-place.pieces.items) _ _ first
          (drop (suc place) walk.block.now) (subst P next c.loop-place.invariant.pieces)
          c.in_ok-add_statement.ensures.pieces;
      tables = c.in_ok-add_statement.ensures.tables;
    })

-- ---- nested blocks

pub add_nested-returns-clause-pieces : goal.add_nested-returns-clause-pieces
add_nested-returns-clause-pieces t c =
    let program = program_tree c.args.program.now in
    let old = all_pieces c.args.pieces.now.items in
    let block = c.args.block.now in
    let shape = c.walk_of-walk.ensures.shape in
    let pushed = c.in_ok-add_piece.ensures.pieces
    ∙ ap (λ (one : CostPiece). old ++ one ∷ [])
    (walk_is c.walk_of-walk.result c.args.weight c.args.home true block shape.0 shape.1 shape.2 shape.3) in
    IfOk-weaker c.add_block.result
    (λ (done : Unit {0}). all_pieces c.add_block.new.pieces.items
    ≡ all_pieces c.add_piece.new.pieces.items
    ++ block_pieces program c.args.weight c.args.home (givens_of block) 0 (block_tree block))
    (λ (done : Unit {0}). all_pieces c.add_block.new.pieces.items
    ≡ old ++ (walk c.args.weight c.args.home true (given_statements (block_tree block))
    ∷ block_pieces program c.args.weight c.args.home (given_statements (block_tree block)) 0 (block_tree block)))
    (λ done is. walked_added program c.args.weight c.args.home true block old _ _ pushed is)
    (rw (shape.0, shape.1, shape.3) at c.add_block.ensures.pieces)

pub add_statement-add_nested-requires : goal.add_statement-add_nested-requires
add_statement-add_nested-requires t c =
    let tree_is = ap (λ (what : StmtKind). statement_tree what (head_of c.args.statement.now) done) c.in-If.is
    ∙ c.tree_laws.ensures.branches c.in-If.guard c.in-If.yes c.in-If.no (head_of c.args.statement.now) done in
    let less = first_counts (head_of c.args.statement.now) (block_tree c.in-If.yes.items) (block_tree c.in-If.no.items)
    (tree_before c.args.statement.now done) tree_is in
    (rw c.deref.ensures.value (omega (arith, c.decreases)), c.in_ok-add_expr-in-If.ensures.tables)

pub add_statement-add_nested-requires-in-If : goal.add_statement-add_nested-requires-in-If
add_statement-add_nested-requires-in-If t c =
    let tree_is = ap (λ (what : StmtKind). statement_tree what (head_of c.args.statement.now) done) c.in-If.is
    ∙ c.tree_laws.ensures.branches c.in-If.guard c.in-If.yes c.in-If.no (head_of c.args.statement.now) done in
    let less = second_counts (head_of c.args.statement.now) (block_tree c.in-If.yes.items) (block_tree c.in-If.no.items)
    (tree_before c.args.statement.now done) tree_is in
    (rw c.deref-in-If.ensures.value (omega (arith, c.decreases)), c.in_ok-add_nested-in-If.ensures.tables)

pub add_statement-add_nested-requires-in-While : goal.add_statement-add_nested-requires-in-While
add_statement-add_nested-requires-in-While t c =
    let tree_is = ap (λ (what : StmtKind). statement_tree what (head_of c.args.statement.now) done) c.in-While.is
    ∙ c.tree_laws.ensures.loops c.in-While.guard c.in-While.body (head_of c.args.statement.now) done in
    let less = body_counts (head_of c.args.statement.now) (block_tree c.in-While.body.items)
    (tree_before c.args.statement.now done) tree_is in
    (rw c.deref-in-While.ensures.value (omega (arith, c.decreases)), c.in_ok-add_expr-in-While.ensures.tables)

pub add_statement-returns-in_ok-add_nested-in-If-clause-pieces :
    goal.add_statement-returns-in_ok-add_nested-in-If-clause-pieces
add_statement-returns-in_ok-add_nested-in-If-clause-pieces t c =
    let program = program_tree c.args.program.now in
    let head = head_of c.args.statement.now in
    let one = c.args.walk.now in
    let own = givens_of one.block.now in
    let tree_is = ap (λ (what : StmtKind). statement_tree what head done) c.in-If.is
    ∙ c.tree_laws.ensures.branches c.in-If.guard c.in-If.yes c.in-If.no head done in
    let old = all_pieces c.args.pieces.now.items in
    let last = all_pieces c.add_nested-in-If.new.pieces.items in
    let P : BlockTree → Type 0 = λ tree. last
    ≡ old ++ block_pieces program one.weight one.home own c.args.place tree in
    IfOk-weaker c.add_nested-in-If.result _ (λ (done_one : Unit {0}). P (tree_before c.args.statement.now done))
    (λ done_one is. subst P (sym tree_is)
    (branch_pieces program one.weight one.home own c.args.place head (expr_tree c.in-If.guard)
    (block_tree c.in-If.yes.items)
    (block_tree c.in-If.no.items) old _ _ last c.in_ok-add_expr-in-If.ensures.pieces
    (rw c.deref.ensures.value at c.in_ok-add_nested-in-If.ensures.pieces) is))
    (rw c.deref-in-If.ensures.value at c.add_nested-in-If.ensures.pieces)

pub add_statement-returns-in_ok-add_expr-in-While-clause-pieces :
    goal.add_statement-returns-in_ok-add_expr-in-While-clause-pieces
add_statement-returns-in_ok-add_expr-in-While-clause-pieces t c =
    let program = program_tree c.args.program.now in
    let head = head_of c.args.statement.now in
    let one = c.args.walk.now in
    let own = givens_of one.block.now in
    let tree_is = ap (λ (what : StmtKind). statement_tree what head done) c.in-While.is
    ∙ c.tree_laws.ensures.loops c.in-While.guard c.in-While.body head done in
    let old = all_pieces c.args.pieces.now.items in
    let last = all_pieces c.add_nested-in-While.new.pieces.items in
    let P : BlockTree → Type 0 = λ tree. last
    ≡ old ++ block_pieces program one.weight one.home own c.args.place tree in
    IfOk-weaker c.add_nested-in-While.result _ (λ (done_one : Unit {0}). P (tree_before c.args.statement.now done))
    (λ done_one is. subst P (sym tree_is)
    (loop_pieces program one.weight one.home own c.args.place head (expr_tree c.in-While.guard)
    (block_tree c.in-While.body.items) old _ last
    (rw c.inside-deeper.ensures at c.in_ok-add_expr-in-While.ensures.pieces) is))
    (rw (c.inside-deeper.ensures, c.deref-in-While.ensures.value) at c.add_nested-in-While.ensures.pieces)
