-- Counts of what the outside did. A count is a `u64` that starts at 0 and stands still at its last value,
-- where it is taken to have risen, by any number.
use Rattle.std.specs.Prelude.{◌≡◌, ℕ, ◌+◌, ◌-◌, ◌^◌, ◌<◌, ◌⊎◌, min}

-- the largest count of 64 bits
abbrev pub last_count : ℕ
last_count = 2 ^ 64 - 1

-- a count after one more
abbrev pub counted : ℕ → ℕ
counted n = min (n + 1) last_count

-- a count rose between two moments
abbrev pub Rose : ℕ → ℕ → Type 0
Rose before after = (before < after) ⊎ (after ≡ last_count)
