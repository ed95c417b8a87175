use Rattle.std.proofs.Common.{◌∙◌, [], ◌∷◌, ◌++◌, sym, ap, append-nil}
use Rattle.std.specs.List.{cons_option}
use Rattle.std.specs.Prelude.{Option}
use Rattle.label_reasons.specs.declared.reason.Reason.{Reason}
use Rattle.label_reasons.specs.Reasons.{reason_of}
use Rattle.label_reasons.proofs.FoundReasons.{reasons_more}
use Rattle.label_reasons.proofs.refusal.reasons_of.Goals.{in-Some+in_ok-push-in-Some, in-None}
use Rattle.label_reasons.proofs.refusal.reasons_of.Goals as goal

pub loop-held-preserved : goal.loop-held-preserved
loop-held-preserved c ask first =
    let old = c.loop-held.reasons.items in
    let here = c.in_ok-reason.ensures ask first in
    elim c.match-branch-2.branch [
      | in-Some+in_ok-push-in-Some w ↦
          rw (w.reasons-is, w.in_ok-push-in-Some.ensures.items) (reasons_more (reason_of ask.cause) c.args.traits.now
          c.loop-held.held-index _ old (old ++ w.in-Some.reason ∷ []) c.loop-held-test.true
          (c.loop-held.invariant ask first)
          (ap (λ (one : Option Reason). old ++ cons_option one []) (sym w.in-Some.is ∙ here)))
      | in-None w ↦
          rw w.reasons-is (reasons_more (reason_of ask.cause) c.args.traits.now c.loop-held.held-index _ old old
          c.loop-held-test.true (c.loop-held.invariant ask first)
          (sym (append-nil old) ∙ ap (λ (one : Option Reason). old ++ cons_option one []) (sym w.in-None.is ∙ here)))
    ]
