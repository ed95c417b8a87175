use Rattle.std.proofs.Common.{arith}
use Rattle.label_check.proofs.Releases.{allows_none, allows_more, allows_all}
use Rattle.label_check.proofs.permissions.may_release.Goals as goal

pub loop-member-init : goal.loop-member-init
loop-member-init c = allows_none c.args.principals.now c.args.to.now

pub loop-member-preserved : goal.loop-member-preserved
loop-member-preserved c =
    allows_more c.args.principals.now c.args.authority.now c.loop-member.member-index _ c.args.to.now
    c.loop-member.allowed _ (omega arith) c.with_policy-allowed.ensures.forbids c.loop-member.invariant

pub returns : goal.returns
returns c =
    let all = allows_all c.args.principals.now c.args.authority.now c.loop-member.member-index c.args.to.now
    c.loop-member.allowed (omega arith) c.loop-member.invariant in (
      λ true owner reader owns reads set.
          (all.forbids owner reader owns reads).0 (c.conf_flows.ensures.0 true owner reader owns reads set),
      λ may. c.conf_flows.ensures.1
          (λ owner reader owns reads set. (all.forbids owner reader owns reads).1 (may owner reader owns reads set)),
    )
