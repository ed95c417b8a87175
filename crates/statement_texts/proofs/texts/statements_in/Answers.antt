use Rattle.std.proofs.Common.{refl}
use Rattle.statement_texts.proofs.Lines.{line_said}
use Rattle.statement_texts.proofs.texts.statements_in.Goals as goal

pub loop-line-preserved : goal.loop-line-preserved
loop-line-preserved c =
    line_said c.args.lines.now c.loop-line.line-index _ _ _ _ _ _ _ c.loop-line-test.true refl c.loop-line.invariant
    c.in_ok-push_said.ensures c.in_ok-go_on.ensures
