-- The host to which more is in flight than has a number is the one to which a message was sent.
use Rattle.std.proofs.Common.{Option, Some, ap, subst, sym}
use Rattle.js_base.specs.declared.ids.HostId.{HostId}
use Rattle.net_world.specs.Fits.{world_of}
use Rattle.run_rows.specs.Senders.{senders_with}
use Rattle.run_rows.proofs.Postings.{posts_found, IsFound}
use Rattle.run_rows.proofs.rows.posts_after.Goals as goal

pub returns-in_ok-post : goal.returns-in_ok-post
returns-in_ok-post c = λ old fits later step beside.
    let next = world_of c.args.world.now in
    posts_found c.args.code.now old next c.args.event.now c.args.senders.now c.leave.new.self c.mover-from.result
    (Some c.in-Some.to) c.args.number c.post.new.self c.hosts-sound.ensures.sound fits later step beside c.leave.ensures
    c.mover-from.ensures
    (subst (IsFound c.leave.new.self next c.mover-from.result) c.in-Some.is c.unnumbered-posts.ensures)
    c.in_ok-post.ensures

pub returns-in_default : goal.returns-in_default
returns-in_default c = λ old fits later step beside.
    let next = world_of c.args.world.now in
    posts_found c.args.code.now old next c.args.event.now c.args.senders.now c.leave.new.self c.mover-from.result
    c.unnumbered-posts.result c.args.number c.leave.new.self c.hosts-sound.ensures.sound fits later step beside
    c.leave.ensures c.mover-from.ensures c.unnumbered-posts.ensures
    (ap (λ (found : Option HostId). senders_with c.leave.new.self c.mover-from.result found c.args.number)
    (sym c.in_default.is))
