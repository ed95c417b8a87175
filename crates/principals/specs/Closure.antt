-- The relation of who acts for whom, as rows of bits.
use Rattle.std.specs.Prelude.{◌≡◌, ℕ, ◌<◌, ◌↔◌, List, slice_index}
use Rattle.std.specs.Int.{bit_at}
use Rattle.js_base.specs.declared.limits.TheConstants.{PRINCIPALS}
use Rattle.principals.specs.ActsFor.{LeadsFrom}

-- row p has bit q exactly where a chain of these pairs leads from p to q
abbrev pub AreRowsOf : List (ℕ × ℕ) → List ℕ → Type 0
AreRowsOf pairs rows = (first second : ℕ) → first < PRINCIPALS → second < PRINCIPALS →
    ((bit_at (slice_index rows first) second ≡ 1) ↔ LeadsFrom pairs first second)
