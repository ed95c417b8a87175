-- Two principals and labels of theirs, to see how labels are printed.
use Rattle.std.specs.Prelude.{ℕ, ◌-◌, ◌^◌, [], ◌∷◌, codes}
use Rattle.js_base.specs.declared.bits.TheConstants.{WORD_BITS}
use Rattle.principals.specs.ActsFor.{Declared, outsider}
use Rattle.label_lattice.specs.declared.label.Label.{Label}
use Rattle.label_lattice.specs.Lattice.{first_bits}

abbrev pub alice_and_bob : Declared
alice_and_bob = record { names = codes "Alice" ∷ codes "Bob" ∷ []; pairs = [] }

-- a row that forbids nobody
abbrev free_row : ℕ
free_row = first_bits WORD_BITS

-- Alice forbids Bob and the outsider, and trusts
abbrev pub keeps_bob_out : Label
keeps_bob_out = record { rows = (free_row - 2 ^ 1 - 2 ^ outsider) ∷ free_row ∷ []; trust = 2 ^ 0 }

-- Alice forbids herself, Bob and the outsider, and Bob the outsider alone. Nobody trusts.
abbrev pub keeps_all_out : Label
keeps_all_out = record {
  rows = (free_row - 2 ^ 0 - 2 ^ 1 - 2 ^ outsider) ∷ (free_row - 2 ^ outsider) ∷ [];
  trust = 0;
}
