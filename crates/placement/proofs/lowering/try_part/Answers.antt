use Rattle.std.proofs.Common.{◌≡◌, ◌+◌, ◌∙◌, true, false, sym, subst}
use Rattle.placement.specs.declared.costed.Weighed.{Weighed}
use Rattle.placement.specs.Choice.{after_steps}
use Rattle.placement.specs.Steps.{steps_of}
use Rattle.placement.specs.Views.{cost_in, touched_in, IsCostedAs, IsWeighed}
use Rattle.placement.proofs.TriedSteps.{with_more, with_no_more}
use Rattle.placement.proofs.lowering.try_part.Goals as goal
use Rattle.placement.proofs.lowering.try_part.Goals.{then-has_bit+in_ok-tried, else-has_bit}

true_not_false : true ≡ false → ⊥
true_not_false same = cc

pub loop-number-preserved : goal.loop-number-preserved
loop-number-preserved c =
    let cost = cost_in c.args.counted in
    let Tried : Weighed → Type 0 = λ tried. record {
      best : IsCostedAs cost
          (after_steps cost c.args.best.plan (steps_of c.args.part c.args.word (c.loop-number.number + 1))) tried.best;
      weighed : IsWeighed (touched_in c.args.counted c.args.index.now c.args.part) tried;
    } in
    elim c.if-has_bit.branch [
      | then-has_bit+in_ok-tried w ↦ subst Tried (sym w.tried-is) (record {
        best = with_more cost c.args.best.plan c.args.part c.args.word c.loop-number.number c.loop-number.tried.best
            w.in_ok-tried.tried.best ((rw c.from.ensures at c.has_bit.ensures).0 w.if-has_bit.true)
            c.loop-number.invariant.best w.in_ok-tried.ensures.best;
        weighed = w.in_ok-tried.ensures.weighed;
      })
      | else-has_bit w ↦ subst Tried (sym w.tried-is) (record {
        best = with_no_more cost c.args.best.plan c.args.part c.args.word c.loop-number.number c.loop-number.tried.best
            (λ has. true_not_false (sym ((rw c.from.ensures at c.has_bit.ensures).1 has) ∙ w.if-has_bit.false))
            c.loop-number.invariant.best;
        weighed = c.loop-number.invariant.weighed;
      })
    ]
