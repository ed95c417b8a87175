use Rattle.std.proofs.Common.{◌∙◌, suc, List, ◌++◌, drop, ap, sym}
use Rattle.std.proofs.Common.{add-one, arith, append_assoc}
use Rattle.js_base.specs.declared.ids.HostId.{HostId}
use Rattle.js_base.proofs.Lists.{next_of}
use Rattle.jif_tree.specs.declared.program.Stmt.{Stmt}
use Rattle.jif_tree.specs.declared.program.StmtKind.{StmtKind}
use Rattle.jif_tree.specs.Trees.{done, statement_tree, block_tree, tree_before, head_of}
use Rattle.jif_tree.proofs.StatementCounts.{part_counts, first_counts, second_counts, body_counts}
use Rattle.split_rules.specs.SplitCode.{site_hosts}
use Rattle.control_split.proofs.Sites.{sites_apart, sites_in_branch, sites_in_loop}
use Rattle.control_split.proofs.tables.+site_blocks.Goals as goal

pub add_sites-loop-statement-preserved : goal.add_sites-loop-statement-preserved
add_sites-loop-statement-preserved t c =
    let plan = c.args.plan.now in
    let statement = c.statement-item.result in
    let before = c.loop-statement.sites.items in
    let rest = drop (suc c.loop-statement.statement-index) c.args.block.now in
    let next = next_of c.args.block.now c.loop-statement.statement-index statement c.loop-statement-test.true
    c.statement-item.is in
    let one = site_hosts plan (tree_before statement done) in
    let left = site_hosts plan (block_tree rest) in
    rw add-one (
    ap (λ (sites : List HostId). sites ++ left) c.in_ok-add_sites_of.ensures
    ∙ append_assoc before one left
    ∙ ap (λ (sites : List HostId). before ++ sites)
    (sym (sites_apart plan statement.kind (head_of statement) (block_tree rest)))
    ∙ ap (λ (statements : List Stmt). before ++ site_hosts plan (block_tree statements)) (sym next)
    ∙ c.loop-statement.invariant
    )

-- ---- nested blocks are smaller

pub add_sites-add_sites_of-requires : goal.add_sites-add_sites_of-requires
add_sites-add_sites_of-requires t c =
    let less = part_counts c.args.block.now c.loop-statement.statement-index c.statement-item.result
    c.loop-statement-test.true c.statement-item.is in
    (omega (arith, c.decreases), c.requires)

pub add_sites_of-add_sites-requires : goal.add_sites_of-add_sites-requires
add_sites_of-add_sites-requires t c =
    let tree_is = ap (λ (what : StmtKind). statement_tree what (head_of c.args.statement.now) done) c.in-If.is
    ∙ c.tree_laws.ensures.branches c.in-If.guard c.in-If.yes c.in-If.no (head_of c.args.statement.now) done in
    let less = first_counts (head_of c.args.statement.now) (block_tree c.in-If.yes.items) (block_tree c.in-If.no.items)
    (tree_before c.args.statement.now done) tree_is in
    (rw c.deref.ensures.value (omega (arith, c.decreases)), c.requires)

pub add_sites_of-add_sites-requires-in-If : goal.add_sites_of-add_sites-requires-in-If
add_sites_of-add_sites-requires-in-If t c =
    let tree_is = ap (λ (what : StmtKind). statement_tree what (head_of c.args.statement.now) done) c.in-If.is
    ∙ c.tree_laws.ensures.branches c.in-If.guard c.in-If.yes c.in-If.no (head_of c.args.statement.now) done in
    let less = second_counts (head_of c.args.statement.now) (block_tree c.in-If.yes.items) (block_tree c.in-If.no.items)
    (tree_before c.args.statement.now done) tree_is in
    (rw c.deref-in-If.ensures.value (omega (arith, c.decreases)), c.requires)

pub add_sites_of-add_sites-requires-in-While : goal.add_sites_of-add_sites-requires-in-While
add_sites_of-add_sites-requires-in-While t c =
    let tree_is = ap (λ (what : StmtKind). statement_tree what (head_of c.args.statement.now) done) c.in-While.is
    ∙ c.tree_laws.ensures.loops c.in-While.guard c.in-While.body (head_of c.args.statement.now) done in
    let less = body_counts (head_of c.args.statement.now) (block_tree c.in-While.body.items)
    (tree_before c.args.statement.now done) tree_is in
    (rw c.deref-in-While.ensures.value (omega (arith, c.decreases)), c.requires)

-- ---- branches and loops

pub add_sites_of-returns-in_ok-add_sites-in-If : goal.add_sites_of-returns-in_ok-add_sites-in-If
add_sites_of-returns-in_ok-add_sites-in-If t c =
    let tree_is = ap (λ (what : StmtKind). statement_tree what (head_of c.args.statement.now) done) c.in-If.is
    ∙ c.tree_laws.ensures.branches c.in-If.guard c.in-If.yes c.in-If.no (head_of c.args.statement.now) done in
    sites_in_branch c.args.plan.now (head_of c.args.statement.now) c.args.sites.now.items c.add_sites.new.sites.items
    c.add_sites-in-If.new.sites.items (block_tree c.in-If.yes.items) (block_tree c.in-If.no.items)
    (tree_before c.args.statement.now done) tree_is (rw c.deref.ensures.value at c.in_ok-add_sites-in-If.ensures)
    c.add_sites-in-If.result (rw c.deref-in-If.ensures.value at c.add_sites-in-If.ensures)

pub add_sites_of-returns-in-While : goal.add_sites_of-returns-in-While
add_sites_of-returns-in-While t c =
    let tree_is = ap (λ (what : StmtKind). statement_tree what (head_of c.args.statement.now) done) c.in-While.is
    ∙ c.tree_laws.ensures.loops c.in-While.guard c.in-While.body (head_of c.args.statement.now) done in
    sites_in_loop c.args.plan.now (head_of c.args.statement.now) c.args.sites.now.items
    c.add_sites-in-While.new.sites.items (block_tree c.in-While.body.items) (tree_before c.args.statement.now done)
    tree_is c.add_sites-in-While.result (rw c.deref-in-While.ensures.value at c.add_sites-in-While.ensures)
