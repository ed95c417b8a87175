use Rattle.std.proofs.Common.{◌≡◌, ◌++◌, drop}
use Rattle.plan_picture.specs.Rows.{field_rows}
use Rattle.plan_picture.specs.Sheets.{sheet_shape}
use Rattle.plan_picture.proofs.rows.push_field_rows.Given as goal

-- the rows so far, and those of the fields that are left, are all of them
abbrev pub invariant-loop-number : goal.invariant-loop-number
invariant-loop-number l =
    l.rows.items ++ field_rows (sheet_shape l.sheet) l.number (drop l.number l.sheet.code.now.fields)
    ≡ l.initial.rows.items ++ field_rows (sheet_shape l.sheet) 0 l.sheet.code.now.fields
