use Rattle.principals.proofs.Rows.{OwnBelow}
use Rattle.principals.proofs.closure.own_rows.Given as goal

abbrev pub invariant-loop-place : goal.invariant-loop-place
invariant-loop-place l = OwnBelow l.rows l.place
