use Rattle.std.proofs.Common.{◌≡◌, [], replicate}
use Rattle.plan_picture.proofs.rows.none_behind.Given as goal

abbrev pub invariant-loop-number : goal.invariant-loop-number
invariant-loop-number l = l.found.items ≡ replicate l._number []
