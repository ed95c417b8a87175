-- Words of 64 bits, bit by bit.
use Rattle.std.proofs.Common.{ℕ, zero, suc, ◌≡◌, ◌<◌, ◌≤◌, ◌-◌, ◌^◌, ◌∙◌, ap, min, arith, bit_and, w64, get_or, replicate}
use Rattle.std.specs.Int.{bit_at, bit_not}
use Rattle.std.proofs.lemmas.Nat.{and_le_l}
use Rattle.std.proofs.lemmas.List.{get_or-replicate}
use Rattle.std.proofs.lemmas.Nat.Bits.{bit_at_and, bit_at_ones, bit_at_not, same_from_bits_below}
use Rattle.js_base.specs.Bits.{BitsWithin}

pub within_from_and : (inner outer : ℕ) → bit_and inner outer ≡ inner → BitsWithin inner outer
within_from_and inner outer same k below =
    omega (arith, ap (λ n. bit_at n k) same, bit_at_and inner outer k)

pub and_from_within : (inner outer : ℕ) → inner < 2 ^ 64 → BitsWithin inner outer → bit_and inner outer ≡ inner
and_from_within inner outer fits within =
    same_from_bits_below 64 (bit_and inner outer) inner (omega (arith, and_le_l inner outer)) fits
    (λ k below. omega (arith, bit_at_and inner outer k, within k below))

pub bit_at_without : (word removed : ℕ) → removed < 2 ^ 64 → (k : ℕ) → k < 64 →
    bit_at (bit_and word (bit_not w64 removed)) k ≡ min (bit_at word k) (1 - bit_at removed k)
bit_at_without word removed fits k below =
    bit_at_and word (bit_not w64 removed) k ∙ ap (λ n. min (bit_at word k) n) (bit_at_not w64 removed k fits below)

-- each word of an array of ones has every bit set
pub set_in_ones : (word row k : ℕ) → word ≡ 2 ^ 64 - 1 → row < 63 → k < 64 →
    bit_at (get_or (replicate 63 word) row 0) k ≡ 1
set_in_ones word row k is row_in k_in =
    ap (λ n. bit_at n k) (get_or-replicate 63 row word 0 row_in ∙ is) ∙ bit_at_ones 64 k k_in

pub is_bit : (word place : ℕ) → bit_at word place < 2
is_bit word place = omega arith

-- a bit that is clear, or where the other is set too, is no more than it
pub bits_in_order : (first second : ℕ) → first < 2 → (first ≡ 1 → second ≡ 1) → first ≤ second
bits_in_order zero second bit implied = omega arith
bits_in_order (suc first) second bit implied =
    let one : suc first ≡ 1 = omega arith in
    let other : second ≡ 1 = implied one in
    omega arith
