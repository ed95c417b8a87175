use Rattle.std.proofs.Common.{length}
use Rattle.part_verify.proofs.shows.+sees_variables.Given as goal

abbrev pub decreases-sees_variables : goal.decreases-sees_variables
decreases-sees_variables l = length l.vars.now
