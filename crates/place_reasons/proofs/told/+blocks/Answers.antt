use Rattle.std.proofs.Common.{◌<◌, suc, refl, List, drop, length, sym, ap, ◌∙◌, add-one, rules}
use Rattle.js_base.proofs.Lists.{next_of}
use Rattle.jif_tree.specs.declared.program.Stmt.{Stmt}
use Rattle.jif_tree.specs.Trees.{block_tree, head_of, expr_tree, tree_before}
use Rattle.jif_tree.proofs.NestingTrees.{if_is, while_is}
use Rattle.place_reasons.specs.Firsts.{or_first}
use Rattle.place_reasons.specs.Reasons.{block_told, own_told}
use Rattle.place_reasons.specs.Search.{site_is, told_for}
use Rattle.place_reasons.proofs.Firsts.{one_in_row}
use Rattle.place_reasons.proofs.Nested.{branch_told, loop_told}
use Rattle.place_reasons.proofs.told.+blocks.Goals as goal

pub block_told-loop-statement-preserved : goal.block_told-loop-statement-preserved
block_told-loop-statement-preserved t c = λ wanted within.
    let rest = drop (suc c.loop-statement.statement-index) c.args.statements.now in
    let there : wanted.0 < length c.loop-statement.found = search rules in
    rw add-one (c.in_ok-statement_told.ensures wanted (block_tree rest) there
    ∙ ap (λ (left : List Stmt). or_first (told_for c.loop-statement.found wanted)
    (block_told (site_is c.args.site.now) wanted (block_tree left)))
    (sym (next_of c.args.statements.now c.loop-statement.statement-index c.statement-item.result
    c.loop-statement-test.true c.statement-item.is))
    ∙ c.loop-statement.invariant wanted within)

pub statement_told-returns-in_ok-block_told-in-If-2 : goal.statement_told-returns-in_ok-block_told-in-If-2
statement_told-returns-in_ok-block_told-in-If-2 t c = λ wanted rest within.
    let first : wanted.0 < length c.told_by.new.found = search rules in
    let second : wanted.0 < length c.block_told.new.found = search rules in
    branch_told (site_is c.args.site.now) wanted (told_for c.args.found.now wanted)
    (told_for c.told_by.new.found wanted) (told_for c.block_told.new.found wanted)
    (told_for c.block_told-in-If.new.found wanted) (head_of c.args.statement.now) (expr_tree c.in-If.guard)
    (block_tree c.in-If.yes.items) (block_tree c.in-If.no.items) rest (tree_before c.args.statement.now rest)
    (if_is c.args.statement.now c.in-If.guard c.in-If.yes c.in-If.no rest c.in-If.is c.tree_laws.ensures.branches)
    (c.in_ok-told_by.ensures wanted rest within)
    ((rw c.deref.ensures.value at c.in_ok-block_told-in-If.ensures) wanted first)
    ((rw c.deref-in-If.ensures.value at c.in_ok-block_told-in-If-2.ensures) wanted second)

pub statement_told-returns-in_ok-block_told-in-While : goal.statement_told-returns-in_ok-block_told-in-While
statement_told-returns-in_ok-block_told-in-While t c = λ wanted rest within.
    let first : wanted.0 < length c.told_by.new.found = search rules in
    loop_told (site_is c.args.site.now) wanted (told_for c.args.found.now wanted)
    (told_for c.told_by.new.found wanted) (told_for c.block_told-in-While.new.found wanted)
    (head_of c.args.statement.now) (expr_tree c.in-While.guard) (block_tree c.in-While.body.items) rest
    (tree_before c.args.statement.now rest)
    (while_is c.args.statement.now c.in-While.guard c.in-While.body rest c.in-While.is c.tree_laws.ensures.loops)
    (c.in_ok-told_by.ensures wanted rest within)
    ((rw c.deref-in-While.ensures.value at c.in_ok-block_told-in-While.ensures) wanted first)

pub statement_told-returns-in-SetField : goal.statement_told-returns-in-SetField
statement_told-returns-in-SetField t c = λ wanted rest within.
    let site = site_is c.args.site.now in
    one_in_row (told_for c.args.found.now wanted) (told_for c.told_by.new.found wanted)
    (own_told site wanted (tree_before c.args.statement.now rest)) (block_told site wanted rest)
    (block_told site wanted (tree_before c.args.statement.now rest)) (c.in_ok-told_by.ensures wanted rest within)
    (rw c.in-SetField.is refl)

pub statement_told-returns-in-SetElement : goal.statement_told-returns-in-SetElement
statement_told-returns-in-SetElement t c = λ wanted rest within.
    let site = site_is c.args.site.now in
    one_in_row (told_for c.args.found.now wanted) (told_for c.told_by.new.found wanted)
    (own_told site wanted (tree_before c.args.statement.now rest)) (block_told site wanted rest)
    (block_told site wanted (tree_before c.args.statement.now rest)) (c.in_ok-told_by.ensures wanted rest within)
    (rw c.in-SetElement.is refl)
