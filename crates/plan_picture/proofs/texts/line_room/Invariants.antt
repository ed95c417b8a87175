use Rattle.std.proofs.Common.{◌≡◌, drop, max}
use Rattle.std.specs.List.{fold}
use Rattle.plan_picture.proofs.texts.line_room.Given as goal

-- with the lines that are left, it is the greatest of all
abbrev pub invariant-loop-line : goal.invariant-loop-line
invariant-loop-line l = fold max l.most (drop l.line-index l.lines) ≡ fold max 0 l.lines
