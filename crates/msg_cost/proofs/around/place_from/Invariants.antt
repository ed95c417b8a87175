use Rattle.std.proofs.Common.{◌≤◌, ◌-◌, length}
use Rattle.msg_cost.proofs.Ascending.{AreBelow, AreFrom}
use Rattle.msg_cost.proofs.around.place_from.Given as goal

-- the place is between the two
abbrev pub invariant-loop-low : goal.invariant-loop-low
invariant-loop-low l = record {
  order : l.low ≤ l.high;
  within : l.high ≤ length l.block;
  below : AreBelow l.block l.number l.low;
  from : AreFrom l.block l.number l.high;
}

abbrev pub decreases-loop-low : goal.decreases-loop-low
decreases-loop-low l = l.high - l.low
