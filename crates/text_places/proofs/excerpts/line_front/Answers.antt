use Rattle.std.proofs.Common.{◌∙◌, ap, arith}
use Rattle.text_places.proofs.ShownLines.{front_ended, front_goes}
use Rattle.text_places.proofs.excerpts.line_front.Goals.{then-byte-eq-LINE_FEED, else-byte-eq-LINE_FEED+in_ok-push}
use Rattle.text_places.proofs.excerpts.line_front.Goals as goal

pub loop-byte-preserved : goal.loop-byte-preserved
loop-byte-preserved c =
    elim c.if-byte-eq-LINE_FEED.branch [
      | then-byte-eq-LINE_FEED w ↦
          front_ended c.args.front.now c.loop-byte.byte-index 0 _ (omega arith) w.if-byte-eq-LINE_FEED.true
          (ap (λ v. v.items) w.line-is ∙ w.clear.ensures.items)
      | else-byte-eq-LINE_FEED+in_ok-push w ↦
          front_goes c.args.front.now c.loop-byte.byte-index 0 _ _ (omega arith) w.if-byte-eq-LINE_FEED.false
          c.loop-byte.invariant (ap (λ v. v.items) w.line-is ∙ w.in_ok-push.ensures.items)
    ]
