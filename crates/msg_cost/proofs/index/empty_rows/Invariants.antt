use Rattle.std.proofs.Common.{◌≡◌, [], replicate}
use Rattle.msg_cost.specs.Rows.{rows_of}
use Rattle.msg_cost.proofs.index.empty_rows.Given as goal

-- the rows so far
abbrev pub invariant-loop : goal.invariant-loop
invariant-loop l = rows_of l.rows.items ≡ replicate l.counter []
