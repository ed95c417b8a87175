use Rattle.std.proofs.Common.{◌≡◌, drop}
use Rattle.placement.specs.Choice.{after_steps}
use Rattle.placement.specs.Steps.{statement_part, steps_from}
use Rattle.placement.specs.Views.{cost_in, count_in, IsCosted}
use Rattle.placement.proofs.lowering.pass_over_statements.Given as goal

-- the moves of the statements that are left lead from this plan to the one to which all lead
abbrev pub invariant-loop-number : goal.invariant-loop-number
invariant-loop-number l = record {
  costed : IsCosted (cost_in l.counted) l.best;
  leads : after_steps (cost_in l.counted) l.best.plan
      (steps_from statement_part (count_in l.counted) l.number (drop l.number l.words))
      ≡ after_steps (cost_in l.counted) l.fn.best.plan (steps_from statement_part (count_in l.counted) 0 l.words);
}
