use Rattle.std.proofs.Common.{◌≡◌, drop}
use Rattle.plan_picture.specs.Columns.{has_part}
use Rattle.plan_picture.proofs.columns.has_part.Given as goal

abbrev pub invariant-loop-row : goal.invariant-loop-row
invariant-loop-row l = has_part l.host (drop l.row-index l.rows) ≡ has_part l.host l.rows
