use Rattle.std.proofs.Common.{ℕ, ◌-◌, ap, ◌∙◌}
use Rattle.std.proofs.Math.ListN.{set}
use Rattle.plan_ways.proofs.LastWalks.{block_added, if_added, statement_added, while_added}
use Rattle.plan_ways.proofs.lasts.+lasts.Goals as goal

pub push_block-loop-statement-preserved : goal.push_block-loop-statement-preserved
push_block-loop-statement-preserved t c =
    statement_added c.args.block.now c.loop-statement.statement-index c.len-own.result _ c.statement-item.result _ _
    c.push_nested.new.lasts.items _ _ c.loop-statement-test.true c.statement-item.is
    (c.len-own.ensures ∙ c.loop-statement.lasts.ok.0) c.in_ok-push.ensures.items c.in_ok-push_nested.ensures
    (ap (λ (n : ℕ). set c.push_nested.new.lasts.items c.len-own.result (n - 1))
    (c.len.ensures ∙ c.push_nested.new.lasts.ok.0))
    c.loop-statement.invariant

pub push_block-returns : goal.push_block-returns
push_block-returns t c =
    block_added _ _ _ _ c.loop-statement-test.false c.loop-statement.invariant

pub push_nested-returns-in_ok-push_block-in-If-2 : goal.push_nested-returns-in_ok-push_block-in-If-2
push_nested-returns-in_ok-push_block-in-If-2 t c =
    if_added _ _ _ _ _ _ _ _ _ c.in-If.is c.deref.ensures.value c.deref-in-If.ensures.value
    c.in_ok-push_block-in-If.ensures c.in_ok-push_block-in-If-2.ensures

pub push_nested-returns-in_ok-push_block-in-While : goal.push_nested-returns-in_ok-push_block-in-While
push_nested-returns-in_ok-push_block-in-While t c =
    while_added _ _ _ _ _ _ c.in-While.is c.deref-in-While.ensures.value c.in_ok-push_block-in-While.ensures
