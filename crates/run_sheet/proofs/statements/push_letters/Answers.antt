use Rattle.run_sheet.proofs.LetterWalks.{letter_added}
use Rattle.run_sheet.proofs.statements.push_letters.Goals as goal

pub loop-letter-preserved : goal.loop-letter-preserved
loop-letter-preserved c =
    letter_added c.args.letters.now c.loop-letter.letter-index _ c.letter-item.result _ _ _ c.loop-letter-test.true
    c.letter-item.is c.loop-letter.invariant c.in_ok-push_letter.ensures
