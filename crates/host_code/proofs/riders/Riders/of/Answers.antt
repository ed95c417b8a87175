use Rattle.std.proofs.Common.{rules}
use Rattle.host_code.proofs.PaddedPairs.{laid}
use Rattle.host_code.proofs.riders.Riders.of.Goals as goal

pub invariant_of-result : goal.invariant_of-result
invariant_of-result c =
    laid c.args.pairs.now c.copy_from_slice.new.self (search rules, search rules) c.copy_from_slice.ensures.after
