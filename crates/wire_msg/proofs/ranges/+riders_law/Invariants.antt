use Rattle.std.proofs.Common.{length}
use Rattle.wire_msg.proofs.ranges.+riders_law.Given as goal

abbrev pub decreases-riders_law : goal.decreases-riders_law
decreases-riders_law l = length l.riders.now
