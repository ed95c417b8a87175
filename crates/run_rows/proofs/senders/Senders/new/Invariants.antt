use Rattle.std.proofs.Common.{◌≡◌, map, replicate, []}
use Rattle.run_rows.proofs.senders.Senders.new.Given as goal

-- so many pairs have no number
abbrev pub invariant-loop-made : goal.invariant-loop-made
invariant-loop-made l = map (λ numbers. numbers.items) l.numbers.items ≡ replicate l.made []
