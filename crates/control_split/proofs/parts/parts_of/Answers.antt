use Rattle.std.proofs.Common.{arith}
use Rattle.control_split.specs.Assembly.{settled_part}
use Rattle.control_split.proofs.Lists.{part_made, part_left, short_left}
use Rattle.control_split.proofs.parts.parts_of.Goals as goal

pub loop-list-preserved-in_ok-push : goal.loop-list-preserved-in_ok-push
loop-list-preserved-in_ok-push c =
    let made = c.loop-list.parts.items in (
      part_made (settled_part c.args.landing.now) c.args.hosts made c.push.new.self.items _ _ c.in-Some.list _ _
          c.in-Some.ensures.steps.0 (omega (arith, c.if-len-hosts.true, c.len.ensures)) c.loop-list.invariant.0
          c.in_ok-push.ensures.items c.in_ok-settled_part.ensures,
      short_left c.in-Some.list _ _ c.in-Some.ensures.steps.0 c.loop-list.invariant.1,
    )

pub loop-list-preserved : goal.loop-list-preserved
loop-list-preserved c = (
  part_left (settled_part c.args.landing.now) c.args.hosts c.loop-list.parts.items _ _ _
      (omega (arith, c.if-len-hosts.false, c.len.ensures)) c.loop-list.invariant.0,
  short_left c.in-Some.list _ _ c.in-Some.ensures.steps.0 c.loop-list.invariant.1,
)
