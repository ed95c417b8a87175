use Rattle.std.proofs.Common.{◌≤◌}
use Rattle.msg_cost.proofs.settled.last_start.Given as goal

-- the place is among the first
abbrev pub invariant-loop-place : goal.invariant-loop-place
invariant-loop-place l = l.place ≤ l.most

abbrev pub decreases-loop-place : goal.decreases-loop-place
decreases-loop-place l = l.place
