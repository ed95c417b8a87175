-- Numbers that count up, in parts.
use Rattle.std.proofs.Common.{◌≡◌, ℕ, zero, suc, ◌+◌, List, ◌∷◌, ◌++◌, length, ap, sym, ◌∙◌, arith}
use Rattle.std.specs.List.{range_with_len}
use Rattle.std.proofs.lemmas.List.FromFn.{length-range_with_len}
use Rattle.jif_tree.specs.Numbering.{CountsFrom}

pub range_after_one : (first n : ℕ) → range_with_len first (1 + n) ≡ first ∷ range_with_len (first + 1) n
range_after_one first n = let e : 1 + n ≡ suc n = omega arith in ap (range_with_len first) e

pub range_in_two : (first m n : ℕ) →
    range_with_len first (m + n) ≡ range_with_len first m ++ range_with_len (first + m) n
range_in_two first zero n =
    let length : zero + n ≡ n = omega arith in
    let start : first ≡ first + zero = omega arith in
    ap (range_with_len first) length ∙ ap (λ a. range_with_len a n) start
range_in_two first (suc m) n =
    let length : suc m + n ≡ suc (m + n) = omega arith in
    let start : first + 1 + m ≡ first + suc m = omega arith in
    ap (range_with_len first) length
    ∙ ap (λ r. first ∷ r) (range_in_two (first + 1) m n ∙ ap (λ a. range_with_len (first + 1) m
    ++ range_with_len a n) start)

-- two parts that count up, one after the other
pub ranges_joined : (first m n : ℕ) (one two : List ℕ) → one ≡ range_with_len first m →
    two ≡ range_with_len (first + m) n → one ++ two ≡ range_with_len first (m + n)
ranges_joined first m n one two front back =
    ap (λ r. r ++ two) front ∙ ap (λ r. range_with_len first m ++ r) back ∙ sym (range_in_two first m n)

pub range_counts : (first n : ℕ) (numbers : List ℕ) → numbers ≡ range_with_len first n → CountsFrom first numbers
range_counts first n numbers is =
    is ∙ ap (range_with_len first) (sym (length-range_with_len first n) ∙ ap length (sym is))
