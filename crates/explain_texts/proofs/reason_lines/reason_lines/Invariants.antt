use Rattle.std.proofs.Common.{◌≡◌}
use Rattle.std.specs.String.{string_bytes}
use Rattle.std.specs.List.{flat_map, range_with_len}
use Rattle.explain_texts.specs.ReasonLines.{asked_shape, line_at}
use Rattle.explain_texts.specs.Sheets.{sheet_shape}
use Rattle.explain_texts.proofs.reason_lines.reason_lines.Given as goal

-- the lines of the reasons so far
abbrev pub invariant-loop-place : goal.invariant-loop-place
invariant-loop-place l =
    string_bytes l.text
    ≡ flat_map (line_at (sheet_shape l.sheet) (asked_shape l.asked) l.reasons) (range_with_len 0 l.place)
