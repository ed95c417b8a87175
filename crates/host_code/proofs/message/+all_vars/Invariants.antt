use Rattle.std.proofs.Common.{length}
use Rattle.host_code.proofs.message.+all_vars.Given as goal

abbrev pub decreases-all_vars : goal.decreases-all_vars
decreases-all_vars l = length l.riders.now
