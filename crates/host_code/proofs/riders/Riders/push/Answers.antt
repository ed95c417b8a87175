use Rattle.std.proofs.Common.{◌<◌, rules}
use Rattle.std.proofs.Math.Path.{subst}
use Rattle.host_code.specs.declared.riders.TheConstants.{MOST_RIDERS}
use Rattle.host_code.proofs.PaddedPairs.{one_more}
use Rattle.host_code.proofs.riders.Riders.push.Goals as goal

pub invariant_of-self : goal.invariant_of-self
invariant_of-self c = one_more c.self.inside.count c.self.inside.pairs c.args.pair c.self.invariant (search rules)
