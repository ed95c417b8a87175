use Rattle.msg_cost.specs.Views.{seated_shape}
use Rattle.msg_cost.proofs.Forwards.{forwards_below}
use Rattle.msg_cost.proofs.Sums.{Costs}
use Rattle.msg_cost.proofs.values.forwards.Given as goal

-- the total is the cost of what goes to the hosts so far
abbrev pub invariant-loop-other : goal.invariant-loop-other
invariant-loop-other l =
    Costs l.planned.hosts.now (forwards_below (seated_shape l.planned) l.weight l.host l.reading.variable l.fn.carried l.other)
    l.total
