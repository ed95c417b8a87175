use Rattle.std.proofs.Common.{◌≡◌, ◌++◌, drop}
use Rattle.std.specs.String.{string_bytes}
use Rattle.plan_picture.specs.Paths.{ways_text}
use Rattle.plan_picture.specs.Sheets.{sheet_shape}
use Rattle.plan_picture.proofs.paths.push_ways.Given as goal

-- what was written, and the ways that are left, are all of them
abbrev pub invariant-loop-way : goal.invariant-loop-way
invariant-loop-way l =
    string_bytes l.text ++ ways_text (sheet_shape l.sheet) l.grid (drop l.way-index l.ways)
    ≡ string_bytes l.initial.text ++ ways_text (sheet_shape l.sheet) l.grid l.ways
