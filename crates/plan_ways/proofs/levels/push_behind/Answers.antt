use Rattle.std.proofs.Common.{◌<◌, length, rules}
use Rattle.plan_ways.proofs.WayWalks.{entry_pushed}
use Rattle.plan_ways.proofs.levels.push_behind.Goals as goal

pub returns-in_ok-push_to : goal.returns-in_ok-push_to
returns-in_ok-push_to c =
    let within : c.args.method.0 < length c.args.behind.now.items = search rules in
    entry_pushed c.args.behind.now.items c.args.method.0 c.index_mut.result.now c.push_to.new.list c.args.entry within
    c.index_mut.ensures.value c.in_ok-push_to.ensures
