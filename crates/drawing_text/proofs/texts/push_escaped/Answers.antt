use Rattle.drawing_text.proofs.Escapes.{letter_written}
use Rattle.drawing_text.proofs.texts.push_escaped.Goals as goal

pub loop-letter-preserved : goal.loop-letter-preserved
loop-letter-preserved c =
    letter_written c.args.letters.now c.loop-letter.letter-index _ c.letter-item.result _ _ _ c.loop-letter-test.true
    c.letter-item.is c.loop-letter.invariant c.in_ok-push_letter.ensures
