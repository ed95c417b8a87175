use Rattle.std.proofs.Common.{length}
use Rattle.host_core.proofs.host.Host.+may_ride.Given as goal

abbrev pub decreases-may_ride : goal.decreases-may_ride
decreases-may_ride l = length l.riders.now
