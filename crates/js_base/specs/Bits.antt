-- Words of 64 bits.
use Rattle.std.specs.Prelude.{ℕ, ◌<◌, ◌≤◌}
use Rattle.std.specs.Int.{bit_at}
use Rattle.js_base.specs.declared.bits.TheConstants.{WORD_BITS}

-- every bit that is set in the first word is set in the second
abbrev pub BitsWithin : ℕ → ℕ → Type 0
BitsWithin inner outer = (k : ℕ) → k < WORD_BITS → bit_at inner k ≤ bit_at outer k
