-- The last byte of a text, and whether it ends the last line.
use Rattle.std.proofs.Common.{◌≡◌, ℕ, zero, suc, ◌+◌, ◌-◌, ◌∙◌, Bool, List, [], ◌∷◌, length, Some, refl, arith}
use Rattle.std.specs.Prelude.{not, ◌==◌, slice_get}
use Rattle.jiffields.specs.Lines.{is_open}

by_place : (bytes : List ℕ) (place byte : ℕ) → place + 1 ≡ length bytes → slice_get bytes place ≡ Some byte →
    not (byte == 10) ≡ is_open bytes
by_place [] place byte last is = absurd (omega arith)
by_place (one ∷ []) zero byte last is = let same : one ≡ byte = cc in cc
by_place (one ∷ []) (suc place) byte last is = absurd (omega arith)
by_place (one ∷ next ∷ bytes) zero byte last is = absurd (omega arith)
by_place (one ∷ next ∷ bytes) (suc place) byte last is = by_place (next ∷ bytes) place byte (omega arith) is

pub by_last : (bytes : List ℕ) (byte : ℕ) → slice_get bytes (length bytes - 1) ≡ Some byte →
    not (byte == 10) ≡ is_open bytes
by_last [] byte is = absurd (let never : ⊥ = cc in never)
by_last (one ∷ bytes) byte is = by_place (one ∷ bytes) (length (one ∷ bytes) - 1) byte (omega arith) is
