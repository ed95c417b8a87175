use Rattle.placement.specs.Choice.{after_steps}
use Rattle.placement.specs.Steps.{steps_of}
use Rattle.placement.specs.Views.{cost_in, touched_in, IsCostedAs, IsWeighed}
use Rattle.placement.proofs.lowering.try_part.Given as goal

-- the moves to the hosts so far were tried
abbrev pub invariant-loop-number : goal.invariant-loop-number
invariant-loop-number l = record {
  best : IsCostedAs (cost_in l.counted)
      (after_steps (cost_in l.counted) l.fn.best.plan (steps_of l.part l.word l.number)) l.tried.best;
  weighed : IsWeighed (touched_in l.counted l.index l.part) l.tried;
}
