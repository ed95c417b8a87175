use Rattle.std.proofs.Common.{◌≡◌, drop}
use Rattle.plan_picture.specs.Columns.{widest}
use Rattle.plan_picture.proofs.columns.widest.Given as goal

abbrev pub invariant-loop-row : goal.invariant-loop-row
invariant-loop-row l = widest l.host l.most (drop l.row-index l.rows) ≡ widest l.host l.least l.rows
