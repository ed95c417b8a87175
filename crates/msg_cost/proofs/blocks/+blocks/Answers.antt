use Rattle.std.proofs.Common.{◌≡◌, ◌∙◌, suc, List, drop, ap, sym, subst}
use Rattle.std.proofs.Common.{add-one, arith}
use Rattle.js_base.proofs.Lists.{next_of}
use Rattle.jif_tree.specs.declared.program.Stmt.{Stmt}
use Rattle.jif_tree.specs.declared.program.StmtKind.{StmtKind}
use Rattle.jif_tree.specs.Trees.{BlockTree, done, expr_tree, statement_tree, block_tree, tree_before, head_of}
use Rattle.jif_tree.proofs.StatementCounts.{part_counts, first_counts, second_counts, body_counts}
use Rattle.need_labels.specs.Plan.{statement_host}
use Rattle.msg_cost.specs.Cost.{cost_of}
use Rattle.msg_cost.specs.Moves.{on}
use Rattle.msg_cost.specs.Terms.{block_terms, own_terms}
use Rattle.msg_cost.specs.Views.{seated_shape, ids_of, capped}
use Rattle.msg_cost.specs.Walks.{CostsWith}
use Rattle.msg_cost.proofs.Walks.{one_walked, pending_terms, branch_alone, loop_alone}
use Rattle.msg_cost.proofs.blocks.+blocks.Goals as goal

pub block_cost-loop-place-preserved : goal.block_cost-loop-place-preserved
block_cost-loop-place-preserved t c =
    let planned = seated_shape c.args.planned.now in
    let rest = drop (suc c.loop-place.place) c.args.block.now in
    let first = c.index-block-place.result in
    let all = block_terms planned c.args.weight (on c.args.home) (block_tree c.args.block.now) in
    let next = next_of c.args.block.now c.loop-place.place first c.loop-place-test.true c.index-block-place.is in
    let P : List Stmt → Type 0 = λ left. CostsWith planned.hosts all c.loop-place.total
    (pending_terms planned c.args.weight c.loop-place.spot c.loop-place.left (block_tree left)) in
    rw (
      add-one,
      c.saturating_add-total.ensures,
      c.saturating_add-in-loop-place.ensures,
      c.saturating_add.ensures,
      c.gives-left.ensures,
    ) (
      one_walked planned c.args.weight c.loop-place.spot c.next_spot-next.result c.loop-place.left all
          c.loop-place.total c.given.result c.move_on.result c.statement_cost.result first rest
          (c.next_spot-next.ensures.result first.id (ids_of rest) (ap ids_of next))
          (rw c.straight_to-carried.ensures at c.given.ensures)
          c.move_on.ensures c.statement_cost.ensures (subst P next c.loop-place.invariant.0),
      rw add-one at c.next_spot-next.ensures.right,
    )

-- ---- branches and loops

-- ---- nested blocks are smaller

pub block_cost-statement_cost-requires : goal.block_cost-statement_cost-requires
block_cost-statement_cost-requires t c =
    let less = part_counts c.args.block.now c.loop-place.place c.index-block-place.result c.loop-place-test.true
    c.index-block-place.is in
    (omega (arith, c.decreases), c.requires)

pub statement_cost-nested_cost-requires : goal.statement_cost-nested_cost-requires
statement_cost-nested_cost-requires t c =
    let tree_is = ap (λ (what : StmtKind). statement_tree what (head_of c.args.statement.now) done) c.in-If.is
    ∙ c.tree_laws.ensures.branches c.in-If.guard c.in-If.yes c.in-If.no (head_of c.args.statement.now) done in
    let less = first_counts (head_of c.args.statement.now) (block_tree c.in-If.yes.items) (block_tree c.in-If.no.items)
    (tree_before c.args.statement.now done) tree_is in
    (rw c.deref.ensures.value (omega (arith, c.decreases)), c.requires)

pub statement_cost-nested_cost-requires-in-If : goal.statement_cost-nested_cost-requires-in-If
statement_cost-nested_cost-requires-in-If t c =
    let tree_is = ap (λ (what : StmtKind). statement_tree what (head_of c.args.statement.now) done) c.in-If.is
    ∙ c.tree_laws.ensures.branches c.in-If.guard c.in-If.yes c.in-If.no (head_of c.args.statement.now) done in
    let less = second_counts (head_of c.args.statement.now) (block_tree c.in-If.yes.items) (block_tree c.in-If.no.items)
    (tree_before c.args.statement.now done) tree_is in
    (rw c.deref-in-If.ensures.value (omega (arith, c.decreases)), c.requires)

pub statement_cost-nested_cost-requires-in-While : goal.statement_cost-nested_cost-requires-in-While
statement_cost-nested_cost-requires-in-While t c =
    let tree_is = ap (λ (what : StmtKind). statement_tree what (head_of c.args.statement.now) done) c.in-While.is
    ∙ c.tree_laws.ensures.loops c.in-While.guard c.in-While.body (head_of c.args.statement.now) done in
    let less = body_counts (head_of c.args.statement.now) (block_tree c.in-While.body.items)
    (tree_before c.args.statement.now done) tree_is in
    (rw c.deref-in-While.ensures.value (omega (arith, c.decreases)), c.requires)

pub statement_cost-returns-in-If : goal.statement_cost-returns-in-If
statement_cost-returns-in-If t c =
    let planned = seated_shape c.args.planned.now in
    let host = statement_host planned.plan c.args.statement.now.id in
    let tree_is = ap (λ (what : StmtKind). statement_tree what (head_of c.args.statement.now) done) c.in-If.is
    ∙ c.tree_laws.ensures.branches c.in-If.guard c.in-If.yes c.in-If.no (head_of c.args.statement.now) done in
    let P : BlockTree → Type 0 = λ tree. c.saturating_add-in-If-2.result
    ≡ capped (cost_of planned.hosts (own_terms planned c.args.weight tree)) in
    let read = rw c.host_of-host.ensures at c.expr_cost-in-If.ensures in
    let one = rw (c.host_of-host.ensures, c.deref.ensures.value) at c.nested_cost.ensures in
    let two = rw (c.host_of-host.ensures, c.deref-in-If.ensures.value) at c.nested_cost-in-If.ensures in
    subst P (sym tree_is)
    (rw (c.saturating_add-in-If-2.ensures, c.saturating_add-in-If.ensures)
    (branch_alone planned c.args.weight (head_of c.args.statement.now) (expr_tree c.in-If.guard)
    (block_tree c.in-If.yes.items) (block_tree c.in-If.no.items) c.expr_cost-in-If.result c.nested_cost.result
    c.nested_cost-in-If.result read one two))

pub statement_cost-returns-in-While : goal.statement_cost-returns-in-While
statement_cost-returns-in-While t c =
    let planned = seated_shape c.args.planned.now in
    let host = statement_host planned.plan c.args.statement.now.id in
    let tree_is = ap (λ (what : StmtKind). statement_tree what (head_of c.args.statement.now) done) c.in-While.is
    ∙ c.tree_laws.ensures.loops c.in-While.guard c.in-While.body (head_of c.args.statement.now) done in
    let P : BlockTree → Type 0 = λ tree. c.saturating_add-in-While.result
    ≡ capped (cost_of planned.hosts (own_terms planned c.args.weight tree)) in
    let read = rw (c.host_of-host.ensures, c.inside-deeper.ensures) at c.expr_cost-read-in-While.ensures in
    let one = rw (c.host_of-host.ensures, c.inside-deeper.ensures, c.deref-in-While.ensures.value)
    at c.nested_cost-in-While.ensures in
    subst P (sym tree_is)
    (rw c.saturating_add-in-While.ensures
    (loop_alone planned c.args.weight (head_of c.args.statement.now) (expr_tree c.in-While.guard)
    (block_tree c.in-While.body.items) c.expr_cost-read-in-While.result c.nested_cost-in-While.result read one))
