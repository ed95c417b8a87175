use Rattle.std.proofs.Common.{◌≡◌, ℕ, ◌+◌, ◌<◌, get_or}
use Rattle.jif_lex.proofs.skipped.len_with_end.Given as goal

abbrev pub invariant-loop-place : goal.invariant-loop-place
invariant-loop-place l = (k : ℕ) → k + 1 < l.place → get_or l.text k 0 ≡ 42 → get_or l.text (k + 1) 0 ≡ 47 → ⊥
