use Rattle.std.proofs.Common.{◌≡◌, ◌+◌, ◌++◌, drop}
use Rattle.plan_picture.specs.Loops.{loops_of}
use Rattle.plan_picture.specs.Sheets.{sheet_shape}
use Rattle.plan_picture.proofs.loops.loops_of.Given as goal

-- those so far, and those that begin in the rows that are left
abbrev pub invariant-loop-place : goal.invariant-loop-place
invariant-loop-place l =
    l.found.items ++ loops_of (sheet_shape l.sheet) (l.place + 1) (drop l.place l.rows)
    ≡ loops_of (sheet_shape l.sheet) 1 l.rows
