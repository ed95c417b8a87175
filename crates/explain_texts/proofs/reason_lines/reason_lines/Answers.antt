use Rattle.std.proofs.Common.{◌∙◌}
use Rattle.explain_texts.specs.ReasonLines.{asked_shape, line_at}
use Rattle.explain_texts.specs.Sheets.{sheet_shape}
use Rattle.explain_texts.proofs.Pieces.{numbers_more}
use Rattle.explain_texts.proofs.reason_lines.reason_lines.Goals as goal

pub loop-place-preserved : goal.loop-place-preserved
loop-place-preserved c =
    numbers_more (line_at (sheet_shape c.args.sheet.now) (asked_shape c.args.asked.now) c.args.reasons.now)
    c.loop-place.place _ _ _ c.loop-place.invariant (c.as_str.ensures.value ∙ c.in_ok-line.ensures)
    c.in_ok-push_str.ensures.bytes
