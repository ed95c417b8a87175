use Rattle.std.proofs.Common.{◌≡◌, ℕ, ◌<◌, ◌≤◌, ◌↔◌}
use Rattle.std.specs.Int.{bit_at}
use Rattle.entry_check.specs.Checks.{May}
use Rattle.entry_check.proofs.checks.word_of.Given as goal

-- the hosts so far have their bits, and the others have none yet
abbrev pub invariant-loop-from : goal.invariant-loop-from
invariant-loop-from l = record {
  tried : (host : ℕ) → host < l.from → ((bit_at l.word host ≡ 1) ↔ May l.code l.me l.ask (record { 0 = host }));
  others : (host : ℕ) → l.from ≤ host → bit_at l.word host ≡ 0;
}
