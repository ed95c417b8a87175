use Rattle.std.proofs.Common.{◌∙◌, sym, ap, arith}
use Rattle.placement.specs.Steps.{statement_part}
use Rattle.placement.specs.Views.{cost_in, count_in}
use Rattle.placement.proofs.TriedSteps.{parts_left}
use Rattle.placement.proofs.lowering.pass_over_statements.Goals as goal

pub loop-number-preserved : goal.loop-number-preserved
loop-number-preserved c = record {
  costed = let now = c.in_ok-best.ensures in now.costs ∙ sym (ap (cost_in c.args.counted) now.same);
  leads = parts_left (cost_in c.args.counted) statement_part (count_in c.args.counted) c.loop-number.number
      c.args.words.now c.loop-number.best.plan c.in_ok-best.best.plan _ (omega arith) c.loop-number.invariant.leads
      (rw c.in_ok-statement.ensures at c.in_ok-best.ensures).same;
}
