use Rattle.std.proofs.Common.{◌≡◌, ◌+◌, drop}
use Rattle.plan_picture.specs.Loops.{last_in}
use Rattle.plan_picture.proofs.loops.last_in.Given as goal

-- with the rows that are left, it is the last of all
abbrev pub invariant-loop-place : goal.invariant-loop-place
invariant-loop-place l =
    last_in l.blocks l.first l.last (l.number + 1 + l.place) (drop l.place l.rows)
    ≡ last_in l.blocks l.first (record { number = l.number; height = 34 }) (l.number + 1) l.rows
