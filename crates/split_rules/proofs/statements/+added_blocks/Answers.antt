use Rattle.std.proofs.Common.{◌∙◌, suc, List, ◌++◌, drop, ap, sym, map}
use Rattle.std.proofs.Common.{add-one, arith, append_assoc}
use Rattle.js_base.proofs.Lists.{next_of}
use Rattle.jif_tree.specs.declared.program.Stmt.{Stmt}
use Rattle.jif_tree.specs.declared.program.StmtKind.{StmtKind}
use Rattle.jif_tree.specs.Trees.{BlockTree, done, statement_tree, block_tree, tree_before, head_of}
use Rattle.jif_tree.proofs.StatementCounts.{part_counts, first_counts, second_counts, body_counts}
use Rattle.split_rules.specs.Positions.{all_statements}
use Rattle.split_rules.specs.ReleaseRows.{shown}
use Rattle.split_rules.proofs.AddedStatements.{statements_apart, added_branch, added_loop, pushed_more}
use Rattle.split_rules.proofs.statements.+added_blocks.Goals as goal

pub add_block-loop-statement-preserved : goal.add_block-loop-statement-preserved
add_block-loop-statement-preserved t c =
    let statement = c.statement-item.result in
    let before = map shown c.loop-statement.statements.items in
    let rest = drop (suc c.loop-statement.statement-index) c.args.block.now in
    let next = next_of c.args.block.now c.loop-statement.statement-index statement c.loop-statement-test.true
    c.statement-item.is in
    let one = all_statements (tree_before statement done) in
    let left = all_statements (block_tree rest) in
    rw add-one (
    ap (λ (list : List BlockTree). list ++ left) c.in_ok-add_statement.ensures
    ∙ append_assoc before one left
    ∙ ap (λ (list : List BlockTree). before ++ list)
    (sym (statements_apart statement.kind (head_of statement) (block_tree rest)))
    ∙ ap (λ (list : List Stmt). before ++ all_statements (block_tree list)) (sym next)
    ∙ c.loop-statement.invariant
    )

-- ---- nested blocks are smaller

pub add_block-add_statement-requires : goal.add_block-add_statement-requires
add_block-add_statement-requires t c =
    let less = part_counts c.args.block.now c.loop-statement.statement-index c.statement-item.result
    c.loop-statement-test.true c.statement-item.is in
    (omega (arith, c.decreases), c.requires)

pub add_statement-add_block-requires : goal.add_statement-add_block-requires
add_statement-add_block-requires t c =
    let tree_is = ap (λ (what : StmtKind). statement_tree what (head_of c.args.statement.now) done) c.in-If.is
    ∙ c.tree_laws.ensures.branches c.in-If.guard c.in-If.yes c.in-If.no (head_of c.args.statement.now) done in
    let less = first_counts (head_of c.args.statement.now) (block_tree c.in-If.yes.items) (block_tree c.in-If.no.items)
    (tree_before c.args.statement.now done) tree_is in
    (rw c.deref.ensures.value (omega (arith, c.decreases)), c.requires)

pub add_statement-add_block-requires-in-If : goal.add_statement-add_block-requires-in-If
add_statement-add_block-requires-in-If t c =
    let tree_is = ap (λ (what : StmtKind). statement_tree what (head_of c.args.statement.now) done) c.in-If.is
    ∙ c.tree_laws.ensures.branches c.in-If.guard c.in-If.yes c.in-If.no (head_of c.args.statement.now) done in
    let less = second_counts (head_of c.args.statement.now) (block_tree c.in-If.yes.items) (block_tree c.in-If.no.items)
    (tree_before c.args.statement.now done) tree_is in
    (rw c.deref-in-If.ensures.value (omega (arith, c.decreases)), c.requires)

pub add_statement-add_block-requires-in-While : goal.add_statement-add_block-requires-in-While
add_statement-add_block-requires-in-While t c =
    let tree_is = ap (λ (what : StmtKind). statement_tree what (head_of c.args.statement.now) done) c.in-While.is
    ∙ c.tree_laws.ensures.loops c.in-While.guard c.in-While.body (head_of c.args.statement.now) done in
    let less = body_counts (head_of c.args.statement.now) (block_tree c.in-While.body.items)
    (tree_before c.args.statement.now done) tree_is in
    (rw c.deref-in-While.ensures.value (omega (arith, c.decreases)), c.requires)

-- ---- branches and loops

pub add_statement-returns-in_ok-add_block-in-If : goal.add_statement-returns-in_ok-add_block-in-If
add_statement-returns-in_ok-add_block-in-If t c =
    let tree_is = ap (λ (what : StmtKind). statement_tree what (head_of c.args.statement.now) done) c.in-If.is
    ∙ c.tree_laws.ensures.branches c.in-If.guard c.in-If.yes c.in-If.no (head_of c.args.statement.now) done in
    added_branch (head_of c.args.statement.now) (map shown c.args.statements.now.items)
    (map shown c.push.new.self.items) (map shown c.add_block.new.statements.items)
    (map shown c.add_block-in-If.new.statements.items) (block_tree c.in-If.yes.items) (block_tree c.in-If.no.items)
    (tree_before c.args.statement.now done) tree_is (pushed_more _ _ _ c.in_ok-push.ensures.items)
    (rw c.deref.ensures.value at c.in_ok-add_block-in-If.ensures)
    c.add_block-in-If.result (rw c.deref-in-If.ensures.value at c.add_block-in-If.ensures)

pub add_statement-returns-in-While : goal.add_statement-returns-in-While
add_statement-returns-in-While t c =
    let tree_is = ap (λ (what : StmtKind). statement_tree what (head_of c.args.statement.now) done) c.in-While.is
    ∙ c.tree_laws.ensures.loops c.in-While.guard c.in-While.body (head_of c.args.statement.now) done in
    added_loop (head_of c.args.statement.now) (map shown c.args.statements.now.items)
    (map shown c.push.new.self.items) (map shown c.add_block-in-While.new.statements.items)
    (block_tree c.in-While.body.items) (tree_before c.args.statement.now done)
    tree_is (pushed_more _ _ _ c.in_ok-push.ensures.items) c.add_block-in-While.result
    (rw c.deref-in-While.ensures.value at c.add_block-in-While.ensures)
