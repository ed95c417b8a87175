-- One stack is replaced by what follows it.
use Rattle.std.proofs.Common.{◌≡◌, ◌∙◌, List, map, reverse, ap, sym, subst, Vec, Global, slice_set}
use Rattle.std.proofs.lemmas.Result.{IfOk-weaker}
use Rattle.js_base.specs.declared.ids.EntryId.{EntryId}
use Rattle.run_rows.specs.Stacks.{IsStackChange, stack_at}
use Rattle.run_rows.proofs.StackLists.{stack_there, replaced, all_replaced}
use Rattle.run_rows.proofs.stacks.Stacks.follow.Goals as goal

abbrev top_first : Vec EntryId Global → List EntryId
top_first stack = reverse stack.items

pub returns-then-place-len-clause-change : goal.returns-then-place-len-clause-change
returns-then-place-len-clause-change c =
    IfOk-weaker c.follow_one.result _ _
    (λ did follows within.
    let items = c.self.inside.stacks.items in
    let new = c.follow_one.new.stack in
    let old : top_first c.index_mut.result.now ≡ stack_at c.args.self.now c.args.host =
    ap top_first c.index_mut.ensures.value
    ∙ sym (stack_there top_first items c.args.host _ c.args.self.now (sym c.self.view_is) within) in
    subst (λ (stack : List EntryId). IsStackChange c.args.pushes c.args.before c.args.after stack
    (stack_at (map top_first (slice_set items c.args.host.0 new)) c.args.host) did) old
    (subst (λ (stack : List EntryId). IsStackChange c.args.pushes c.args.before c.args.after
    (top_first c.index_mut.result.now) stack did)
    (sym (replaced top_first items c.args.host new c.args.self.now (sym c.self.view_is) within)) follows))
    c.follow_one.ensures

pub returns-then-place-len-clause-others : goal.returns-then-place-len-clause-others
returns-then-place-len-clause-others c =
    IfOk-weaker c.follow_one.result _ _
    (λ did follows within.
    all_replaced top_first c.self.inside.stacks.items c.args.host c.follow_one.new.stack c.args.self.now
    (sym c.self.view_is) within)
    c.follow_one.ensures
