use Rattle.std.proofs.Common.{◌≡◌, [], map, replicate}
use Rattle.need_labels.proofs.finding.no_readers.Given as goal

-- the rows so far
abbrev pub invariant-loop : goal.invariant-loop
invariant-loop l = map (λ row. row.items) l.rows.items ≡ replicate l.counter []
