-- Joins and meets of labels, as sets and as values.
use Rattle.std.specs.Prelude.{ℕ, ◌<◌, ◌-◌, ◌^◌, ◌↔◌, ◌⊎◌, List, map, length, bit_and, bit_or}
use Rattle.std.specs.Prelude.{replicate}
use Rattle.std.specs.List.{zip}
use Rattle.js_base.specs.declared.bits.TheConstants.{WORD_BITS}
use Rattle.js_base.specs.declared.limits.TheConstants.{PRINCIPALS}
use Rattle.principals.specs.ActsFor.{Declared}
use Rattle.label_lattice.specs.declared.label.Label.{Label}
use Rattle.label_lattice.specs.declared.label.TheConstants.{READERS}
use Rattle.label_lattice.specs.Label.{Forbids, Trusts, SameForbidden}

-- ---- as sets

-- it forbids what either forbids, and is trusted by whoever trusts both
pub record IsJoin (first second join : Label) : Type 0 where
  pub forbids : (owner reader : ℕ) → owner < PRINCIPALS → reader < READERS →
      (Forbids join owner reader ↔ (Forbids first owner reader ⊎ Forbids second owner reader))
  pub trusts : (principal : ℕ) → principal < READERS →
      (Trusts join principal ↔ (Trusts first principal × Trusts second principal))

-- it forbids what the first forbids, and is trusted by whoever trusts either
pub record IsIntegrityMeet (first second meet : Label) : Type 0 where
  pub forbids : SameForbidden first meet
  pub trusts : (principal : ℕ) → principal < READERS →
      (Trusts meet principal ↔ (Trusts first principal ⊎ Trusts second principal))

-- ---- as values

-- a word with each of the first bits set, and no other
abbrev pub first_bits : ℕ → ℕ
first_bits count = 2 ^ count - 1

-- rows in which every owner allows every reader
abbrev pub free_rows : List ℕ
free_rows = replicate PRINCIPALS (first_bits WORD_BITS)

-- the bits that are set in both of two rows
abbrev pub common_rows : List ℕ → List ℕ → List ℕ
common_rows first second = map (λ rows. bit_and rows.0 rows.1) (zip first second)

-- the label `{}`, which forbids nothing and is trusted by nobody
unfoldable pub empty_label : Label
empty_label = record { rows = free_rows; trust = 0 }

-- the label that forbids nothing and is trusted by every declared principal
unfoldable pub bottom_of : Declared → Label
bottom_of principals = record { rows = free_rows; trust = first_bits (length principals.names) }

-- the join of two labels
unfoldable pub join_of : Label → Label → Label
join_of first second = record {
  rows = common_rows first.rows second.rows;
  trust = bit_and first.trust second.trust;
}

-- the first label, trusted by whoever trusts either
unfoldable pub meet_of : Label → Label → Label
meet_of first second = record { rows = first.rows; trust = bit_or first.trust second.trust }
