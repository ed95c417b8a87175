use Rattle.place_reasons.specs.Reasons.{member_backed}
use Rattle.place_reasons.proofs.Firsts.{first_more_at}
use Rattle.place_reasons.proofs.backed.members_backed.Goals as goal

pub loop-member-preserved : goal.loop-member-preserved
loop-member-preserved c =
    rw (c.member_backed.ensures, c.loop-member.invariant, c.deref-member-items.ensures.value)
    (first_more_at (member_backed c.args.site.now.principals.now c.args.principal c.args.here)
    c.args.found.now c.args.site.now.method.now.authority.items c.loop-member.member-index _
    (rw c.deref-member-items.ensures.value at c.loop-member-test.true))
