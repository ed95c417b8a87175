use Rattle.std.proofs.Common.{◌≡◌, ◌+◌, drop}
use Rattle.plan_picture.specs.Lines.{noted_all, row_numbers}
use Rattle.plan_picture.specs.Sheets.{sheet_shape}
use Rattle.plan_picture.proofs.lines.row_numbers.Given as goal

-- with the rows that are left, they are those of all
abbrev pub invariant-loop-place : goal.invariant-loop-place
invariant-loop-place l =
    noted_all l.numbers (l.place + 1) (drop l.place l.rows) ≡ row_numbers (sheet_shape l.sheet)
