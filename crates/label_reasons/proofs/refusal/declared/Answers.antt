use Rattle.std.proofs.Common.{ap, sym, ◌∙◌, refl, ℕ, arith}
use Rattle.std.specs.Prelude.{Some}
use Rattle.std.proofs.lemmas.List.{length_push}
use Rattle.label_reasons.specs.Causes.{label_cause}
use Rattle.label_reasons.proofs.DeclaredCauses.{one_more, labels_more}
use Rattle.label_reasons.proofs.refusal.declared.Goals as goal

pub loop-var-preserved : goal.loop-var-preserved
loop-var-preserved c =
    let so_far = c.loop-var.invariant in
    let labels = c.loop-var.labels.items in
    let causes = c.loop-var.causes.items in
    let label = c.var-item.result.label in
    let value = c.deref-var-items.ensures.value in (
      omega (arith, so_far.0),
      rw c.in_ok-push.ensures.items (labels_more c.args.program.now.vars.items c.loop-var.var-index c.var-item.result
          labels (rw value at c.loop-var-test.true) (rw value at c.var-item.is) so_far.1),
      rw c.in_ok-push.ensures.items (omega (arith, length_push labels label, so_far.2)),
      rw (c.in_ok-push.ensures.items, c.in_ok-push-2.ensures.items)
          (omega (arith, length_push labels label, length_push causes c.declared_cause.result, so_far.3)),
      λ x. rw (c.in_ok-push.ensures.items, c.in_ok-push-2.ensures.items) (one_more
          (λ n found. label_cause c.args.held (record { 0 = n }) found) labels causes label c.declared_cause.result
          (λ n. refl) so_far.3 (λ n. so_far.4 (record { 0 = n }))
          (c.declared_cause.ensures ∙ ap (λ (n : ℕ). label_cause c.args.held (record { 0 = n }) (Some label))
          (so_far.0 ∙ sym so_far.2)) x.0),
    )
