use Rattle.split_cli.proofs.CodeLines.{instruction_lines_at}
use Rattle.split_cli.proofs.ReportLines.{added}
use Rattle.split_cli.proofs.code_lines.push_part.Goals as goal

pub loop-number-preserved : goal.loop-number-preserved
loop-number-preserved c =
    added _ _ _ c.loop-number.invariant c.in_ok-push_instruction.ensures
    (instruction_lines_at c.args.code.now c.args.host c.args.part.now c.loop-number.number c.index-part-number.result
    c.loop-number-test.true c.index-part-number.is)
