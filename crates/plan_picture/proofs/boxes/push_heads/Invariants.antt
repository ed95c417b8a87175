use Rattle.std.proofs.Common.{◌≡◌, ◌++◌}
use Rattle.std.specs.String.{string_bytes}
use Rattle.std.specs.List.{flat_map, range_with_len}
use Rattle.plan_picture.specs.Boxes.{head_of}
use Rattle.plan_picture.specs.Sheets.{sheet_shape}
use Rattle.plan_picture.proofs.boxes.push_heads.Given as goal

-- the heads of the hosts so far were written
abbrev pub invariant-loop-number : goal.invariant-loop-number
invariant-loop-number l =
    string_bytes l.text
    ≡ string_bytes l.initial.text
    ++ flat_map (head_of (sheet_shape l.sheet) l.grid l.rows) (range_with_len 0 l.number)
