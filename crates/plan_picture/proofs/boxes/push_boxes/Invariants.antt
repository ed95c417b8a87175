use Rattle.std.proofs.Common.{◌≡◌, ◌+◌, ◌++◌, drop}
use Rattle.std.specs.String.{string_bytes}
use Rattle.plan_picture.specs.Boxes.{boxes_text}
use Rattle.plan_picture.specs.Sheets.{sheet_shape}
use Rattle.plan_picture.proofs.boxes.push_boxes.Given as goal

-- what was written, and the boxes of the rows that are left, are all of them
abbrev pub invariant-loop-place : goal.invariant-loop-place
invariant-loop-place l =
    string_bytes l.text ++ boxes_text (sheet_shape l.sheet) l.grid l.room (l.place + 1) (drop l.place l.rows)
    ≡ string_bytes l.initial.text ++ boxes_text (sheet_shape l.sheet) l.grid l.room 1 l.rows
