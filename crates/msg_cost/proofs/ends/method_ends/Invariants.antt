use Rattle.msg_cost.specs.Views.{seated_shape}
use Rattle.msg_cost.proofs.Found.{EndsBelow}
use Rattle.msg_cost.proofs.ends.method_ends.Given as goal

-- the ends of the methods so far are found
abbrev pub invariant-loop-place : goal.invariant-loop-place
invariant-loop-place l = EndsBelow (seated_shape l.planned) l.ends l.place
