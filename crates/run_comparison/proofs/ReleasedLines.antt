-- The lines of the values that two runs released: one line more.
use Rattle.std.proofs.Common.{◌≡◌, ◌∙◌, ℕ, zero, suc, ◌+◌, ℤ, List, [], ◌∷◌, ◌++◌, ap, sym, append_assoc, append-nil, slice_get}
use Rattle.std.proofs.Common.{add-one, arith}
use Rattle.std.specs.Prelude.{Option}
use Rattle.std.specs.List.{flat_map, range_with_len}
use Rattle.std.proofs.lemmas.Grind.{flat_map-append}
use Rattle.run_comparison.specs.ReleaseLines.{first_lines, release_line}

pub range_push : (a n j : ℕ) → a + n ≡ j → range_with_len a (suc n) ≡ range_with_len a n ++ j ∷ []
range_push a zero j is =
    let same : a ≡ j = omega (arith, is) in
    ap (λ (k : ℕ). k ∷ []) same
range_push a (suc n) j is =
    ap (λ (numbers : List ℕ). a ∷ numbers) (range_push (a + 1) n j (omega (arith, is)))

first_lines_more : (one other : List ℤ) (n : ℕ) →
    first_lines one other (suc n)
    ≡ first_lines one other n ++ release_line n (slice_get one n) (slice_get other n)
first_lines_more one other n =
    let line : ℕ → List ℕ = λ number. release_line number (slice_get one number) (slice_get other number) in
    ap (flat_map line) (range_push 0 n n (omega arith)) ∙ flat_map-append line (range_with_len 0 n) (n ∷ [])
    ∙ ap (λ (last : List ℕ). flat_map line (range_with_len 0 n) ++ last) (append-nil (line n))

pub lines_more : (one other : List ℤ) (n : ℕ) (found found_too : Option ℤ) (before so_far after : List ℕ) →
    found ≡ slice_get one n → found_too ≡ slice_get other n → so_far ≡ before ++ first_lines one other n →
    after ≡ so_far ++ release_line n found found_too → after ≡ before ++ first_lines one other (n + 1)
lines_more one other n found found_too before so_far after here here_too is more =
    let line = release_line n (slice_get one n) (slice_get other n) in
    rw add-one
    (more ∙ ap (λ (it : Option ℤ). so_far ++ release_line n it found_too) here
    ∙ ap (λ (it : Option ℤ). so_far ++ release_line n (slice_get one n) it) here_too
    ∙ ap (λ (all : List ℕ). all ++ line) is ∙ append_assoc before (first_lines one other n) line
    ∙ ap (λ (all : List ℕ). before ++ all) (sym (first_lines_more one other n)))
