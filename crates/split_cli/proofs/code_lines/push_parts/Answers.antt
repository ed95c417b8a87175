use Rattle.split_cli.specs.CodeLines.{part_lines}
use Rattle.split_cli.proofs.ReportLines.{added}
use Rattle.split_cli.proofs.WorldLines.{range_more}
use Rattle.split_cli.proofs.code_lines.push_parts.Goals as goal

pub loop-number-preserved : goal.loop-number-preserved
loop-number-preserved c =
    added _ _ _ c.loop-number.invariant (rw c.part.ensures at c.in_ok-push_part.ensures)
    (range_more (part_lines c.args.code.now) c.loop-number.number)
