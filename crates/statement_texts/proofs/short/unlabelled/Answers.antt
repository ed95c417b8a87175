use Rattle.statement_texts.proofs.Shortened.{letter_kept}
use Rattle.statement_texts.proofs.short.unlabelled.Goals as goal

pub loop-letter-preserved : goal.loop-letter-preserved
loop-letter-preserved c =
    letter_kept c.args.letters.now c.loop-letter.letter-index _ c.letter-item.result c.loop-letter.place _ _ _ _
    c.loop-letter-test.true c.letter-item.is c.loop-letter.invariant c.in_ok-keep.ensures c.place_behind-place.ensures
