use Rattle.msg_cost.proofs.Ascending.{AscendTo}
use Rattle.msg_cost.proofs.around.is_ascending.Given as goal

-- the numbers so far ascend
abbrev pub invariant-loop-place : goal.invariant-loop-place
invariant-loop-place l = AscendTo l.block l.place
