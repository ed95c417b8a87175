use Rattle.split_cli.proofs.MadeTexts.{statements_more}
use Rattle.split_cli.proofs.ReportLines.{added}
use Rattle.split_cli.proofs.making.push_statements.Goals as goal

pub loop-number-preserved : goal.loop-number-preserved
loop-number-preserved c =
    added _ _ _ c.loop-number.invariant c.in_ok-push_statement.ensures (statements_more c.loop-number.number)
