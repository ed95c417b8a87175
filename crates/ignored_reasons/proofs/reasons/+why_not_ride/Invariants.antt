use Rattle.std.proofs.Common.{length}
use Rattle.ignored_reasons.proofs.reasons.+why_not_ride.Given as goal

abbrev pub decreases-why_not_ride : goal.decreases-why_not_ride
decreases-why_not_ride l = length l.riders.now
