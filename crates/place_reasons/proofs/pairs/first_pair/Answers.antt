use Rattle.std.proofs.Common.{sym}
use Rattle.place_reasons.proofs.FirstPairs.{no_pair}
use Rattle.place_reasons.proofs.pairs.first_pair.Goals as goal

pub returns-then-conf_flows : goal.returns-then-conf_flows
returns-then-conf_flows c =
    sym (no_pair c.args.principals.now c.count-count.ensures.declared c.args.from.now c.args.to.now
    (c.conf_flows.ensures.0 c.if-conf_flows.true))
