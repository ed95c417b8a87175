use Rattle.std.proofs.Common.{◌≡◌, map}
use Rattle.std.specs.List.{range_with_len}
use Rattle.plan_picture.specs.Columns.{width_of}
use Rattle.plan_picture.specs.Sheets.{sheet_shape}
use Rattle.plan_picture.proofs.columns.widths_of.Given as goal

abbrev pub invariant-loop-number : goal.invariant-loop-number
invariant-loop-number l =
    l.widths.items
    ≡ map (λ number. width_of (sheet_shape l.sheet) l.rows (record { 0 = number })) (range_with_len 0 l.number)
