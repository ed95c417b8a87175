-- The counts of entries, and what the event pushes, tell what it did.
use Rattle.std.proofs.Common.{◌≡◌, ◌∙◌, ◌<◌, length, Option, ap, subst, slice_set}
use Rattle.js_base.specs.declared.ids.HostId.{HostId}
use Rattle.js_base.specs.declared.ids.EntryId.{EntryId}
use Rattle.net_world.specs.Fits.{world_of}
use Rattle.net_world.specs.World.{mover, state_at}
use Rattle.run_rows.specs.declared.seen.Seen.{Seen}
use Rattle.run_rows.specs.Rows.{seen_in}
use Rattle.run_rows.specs.Stacks.{IsStackChange, pushed_in, stack_at}
use Rattle.run_rows.proofs.Changes.{did_after, ok_both}
use Rattle.run_rows.proofs.SeenAfter.{depth_is}
use Rattle.run_rows.proofs.rows.change_after.Goals as goal

pub returns : goal.returns
returns c =
    let next = world_of c.args.world.now in
    let event = c.args.event.now in
    let stacks = c.args.stacks.now in
    let new = c.follow.new.self in
    let depth = c.args.before.now.host.depth in
    let later = c.seen_of-depth.result.depth in
    let pushes = pushed_in c.args.code.now c.args.before.now.what in
    ok_both c.follow.result _ _ _
    (λ did follows puts old fits before step are.
    let seen : c.seen_of-depth.result ≡ seen_in (state_at next (mover event)) =
    c.seen_of-depth.ensures ∙ ap (λ (h : HostId). seen_in (state_at next h)) c.mover-host.ensures in
    did_after c.args.code.now old next event c.args.before.now.what did stacks new depth later fits step before.what are
    (ap (λ (s : Seen). s.depth) before.host ∙ depth_is (state_at old (mover event)))
    (ap (λ (s : Seen). s.depth) seen ∙ depth_is (state_at next (mover event)))
    (subst (λ (h : HostId). h.0 < length stacks →
    IsStackChange pushes depth later (stack_at stacks h) (stack_at new h) did) c.mover-host.ensures
    (subst (λ (p : Option EntryId). c.mover-host.result.0 < length stacks →
    IsStackChange p depth later (stack_at stacks c.mover-host.result) (stack_at new c.mover-host.result) did)
    c.pushed_in.ensures follows))
    (subst (λ (h : HostId). h.0 < length stacks → new ≡ slice_set stacks h.0 (stack_at new h)) c.mover-host.ensures
    puts))
    c.follow.ensures.change c.follow.ensures.others
