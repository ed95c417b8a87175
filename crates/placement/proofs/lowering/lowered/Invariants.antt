use Rattle.std.proofs.Common.{◌≡◌, ℕ}
use Rattle.placement.specs.Choice.{after_passes}
use Rattle.placement.specs.Steps.{steps_in}
use Rattle.placement.specs.Views.{cost_in, count_in, IsCosted}
use Rattle.placement.proofs.lowering.lowered.Given as goal

-- some number of passes leads to this plan
abbrev pub invariant-loop-best : goal.invariant-loop-best
invariant-loop-best l = record {
  costed : IsCosted (cost_in l.counted) l.best;
  passes : ℕ;
  reached : l.best.plan
      ≡ after_passes (cost_in l.counted) (steps_in (count_in l.counted) l.allowed) passes l.fn.start.plan;
}

abbrev pub decreases-loop-best : goal.decreases-loop-best
decreases-loop-best l = l.best.cost
