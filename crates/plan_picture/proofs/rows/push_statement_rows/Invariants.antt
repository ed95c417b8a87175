use Rattle.std.proofs.Common.{◌≡◌, ◌++◌, drop, map}
use Rattle.plan_picture.specs.Rows.{statement_rows}
use Rattle.plan_picture.specs.Sheets.{sheet_shape}
use Rattle.statement_texts.specs.Texts.{statement_text_shape}
use Rattle.plan_picture.proofs.rows.push_statement_rows.Given as goal

-- the rows so far, and those of the statements that are left, are all of them
abbrev pub invariant-loop-number : goal.invariant-loop-number
invariant-loop-number l =
    l.rows.items
    ++ statement_rows (sheet_shape l.sheet) l.number (map statement_text_shape (drop l.number l.sheet.texts.now))
    ≡ l.initial.rows.items ++ statement_rows (sheet_shape l.sheet) 0 (map statement_text_shape l.sheet.texts.now)
