use Rattle.std.proofs.Common.{◌≡◌}
use Rattle.need_labels.specs.Labelled.{labelled_of}
use Rattle.msg_cost.specs.Cost.{plan_cost}
use Rattle.placement.specs.Starting.{IsCheapestStart}
use Rattle.placement.proofs.cheapest_start.cheapest_start.Given as goal

-- it is the cheapest for the hosts so far, and costs what is kept
abbrev pub invariant-loop-number : goal.invariant-loop-number
invariant-loop-number l = record {
  plan : IsCheapestStart (plan_cost (labelled_of l.checked) l.needs l.hosts) l.allowed l.number l.best.plan;
  cost : l.best.cost ≡ plan_cost (labelled_of l.checked) l.needs l.hosts l.best.plan;
}
