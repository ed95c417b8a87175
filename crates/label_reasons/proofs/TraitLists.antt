-- Lists of traits that are made in loops.
use Rattle.std.proofs.Common.{◌≡◌, ℕ, zero, suc, ◌+◌, List, [], ◌∷◌, ◌++◌, map, flat_map, sym, ap, ◌∙◌, arith}
use Rattle.std.proofs.Common.{append_assoc, append-nil, add-one}
use Rattle.std.specs.List.{range_with_len}
use Rattle.std.proofs.lemmas.List.Concat.{flat_map-cons}
use Rattle.std.proofs.lemmas.List.FromFn.{map-range_with_len_more}
use Rattle.std.proofs.lemmas.Grind.{flat_map-append}

range_more : (from count : ℕ) → range_with_len from (suc count) ≡ range_with_len from count ++ (from + count) ∷ []
range_more from zero = let same : from ≡ from + 0 = omega arith in ap (λ k. k ∷ []) same
range_more from (suc count) =
    let same : (from + 1) + count ≡ from + suc count = omega arith in
    ap (λ rest. from ∷ rest)
    (range_more (from + 1) count ∙ ap (λ k. range_with_len (from + 1) count ++ k ∷ []) same)

pub mapped_more : {X : Type 0} (f : ℕ → X) (old items : List X) (k : ℕ) →
    items ≡ old ++ map f (range_with_len 0 k) → items ++ f k ∷ [] ≡ old ++ map f (range_with_len 0 (k + 1))
mapped_more f old items k is =
    let zero_plus : 0 + k ≡ k = omega arith in
    ap (λ xs. xs ++ f k ∷ []) is ∙ append_assoc old (map f (range_with_len 0 k)) (f k ∷ [])
    ∙ ap (λ xs. old ++ xs) (sym (map-range_with_len_more f 0 k k zero_plus))

pub flat_more : {X : Type 0} (f : ℕ → List X) (items : List X) (k : ℕ) → items ≡ flat_map f (range_with_len 0 k) →
    items ++ f k ≡ flat_map f (range_with_len 0 (k + 1))
flat_more f items k is =
    let more : range_with_len 0 (k + 1) ≡ range_with_len 0 k ++ k ∷ [] =
    rw add-one (range_more 0 k ∙ ap (λ n. range_with_len 0 k ++ n ∷ []) (omega arith)) in
    ap (λ xs. xs ++ f k) is
    ∙ sym (ap (flat_map f) more ∙ flat_map-append f (range_with_len 0 k) (k ∷ [])
    ∙ ap (λ xs. flat_map f (range_with_len 0 k) ++ xs) (flat_map-cons f k [] ∙ append-nil (f k)))
