-- The children that a spawner is still to be waited for.
use Rattle.std.specs.Prelude.{ℕ, List, filter, not, ◌==◌}

-- without the number
abbrev pub without : ℕ → List ℕ → List ℕ
without child live = filter (λ number. not (number == child)) live
