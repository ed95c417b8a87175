use Rattle.std.proofs.Common.{◌≡◌, refl, sym, subst, true, false}
use Rattle.front_end.specs.StepCounts.{BeginsWithCount}
use Rattle.front_end.proofs.StepCounts.{begins, written, positive, ok_from, none_read, many_read, where_none}
use Rattle.front_end.proofs.step_counts.step_count.Goals as goal

pub returns-then-not-begins_with_count-clause-none : goal.returns-then-not-begins_with_count-clause-none
returns-then-not-begins_with_count-clause-none c = λ steps is same.
    let first = subst BeginsWithCount (sym c.as_bytes.ensures.value) (begins steps c.args.word.now is same) in
    let never : false ≡ true = c.if-not-begins_with_count.ensures.1 first in
    let none : ⊥ = cc in none

pub returns-in_err-steps-clause-none : goal.returns-in_err-steps-clause-none
returns-in_err-steps-clause-none c =
    where_none _ _ (none_read c.args.word.now c.parse.result c.parse.ensures.value.0 c.in_err-steps.ensures.value)

pub returns-then-steps-le-STEPS-clause-count : goal.returns-then-steps-le-STEPS-clause-count
returns-then-steps-le-STEPS-clause-count c =
    let first = subst BeginsWithCount c.as_bytes.ensures.value (c.if-not-begins_with_count.ensures.0 refl) in
    record {
      least = positive c.args.word.now c.in_ok-steps.steps first
          (written c.args.word.now c.parse.result c.in_ok-steps.steps c.parse.ensures.value.0 first
          (ok_from c.parse.result c.in_ok-steps.steps c.in_ok-steps.ensures.value));
      most = c.if-steps-le-STEPS.true;
    }

pub returns-then-steps-le-STEPS-clause-found : goal.returns-then-steps-le-STEPS-clause-found
returns-then-steps-le-STEPS-clause-found c =
    written c.args.word.now c.parse.result c.in_ok-steps.steps c.parse.ensures.value.0
    (subst BeginsWithCount c.as_bytes.ensures.value (c.if-not-begins_with_count.ensures.0 refl))
    (ok_from c.parse.result c.in_ok-steps.steps c.in_ok-steps.ensures.value)

pub returns-else-steps-le-STEPS-clause-none : goal.returns-else-steps-le-STEPS-clause-none
returns-else-steps-le-STEPS-clause-none c =
    many_read c.args.word.now c.parse.result c.in_ok-steps.steps c.parse.ensures.value.0
    (ok_from c.parse.result c.in_ok-steps.steps c.in_ok-steps.ensures.value) c.if-steps-le-STEPS.false
