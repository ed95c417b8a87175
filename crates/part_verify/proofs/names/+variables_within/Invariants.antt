use Rattle.std.proofs.Common.{length}
use Rattle.part_verify.proofs.names.+variables_within.Given as goal

abbrev pub decreases-variables_within : goal.decreases-variables_within
decreases-variables_within l = length l.vars.now
