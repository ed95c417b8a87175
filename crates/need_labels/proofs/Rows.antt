-- Lists with an item for each number below some length.
use Rattle.std.proofs.Common.{ℕ, ◌<◌, ◌≡◌, ◌≢◌, ◌∙◌, sym, ap, inl, inr, map, get_or, set, arith}
use Rattle.std.specs.List.{range_with_len}
use Rattle.std.proofs.lemmas.Bool.{cases_eq}
use Rattle.std.proofs.lemmas.List.{length-set, get_or-set_same, get_or-set_other}
use Rattle.std.proofs.lemmas.List.FromFn.{fill_by_all, length-map-range_with_len, get_or-map-range_with_len}

-- two functions that agree at each number below the length
pub rows_agree : {X : Type 0} (f g : ℕ → X) (n : ℕ) (d : X) → ((k : ℕ) → k < n → f k ≡ g k) →
    map f (range_with_len 0 n) ≡ map g (range_with_len 0 n)
rows_agree f g n d same =
    fill_by_all g (map f (range_with_len 0 n)) n d (length-map-range_with_len f 0 n)
    (λ k within. get_or-map-range_with_len f 0 n k k d within (omega arith) ∙ same k within)

-- one item changes
pub row_set : {X : Type 0} (f g : ℕ → X) (n place : ℕ) (x d : X) → place < n → g place ≡ x →
    ((k : ℕ) → k ≢ place → f k ≡ g k) → set (map f (range_with_len 0 n)) place x ≡ map g (range_with_len 0 n)
row_set f g n place x d within here others =
    fill_by_all g (set (map f (range_with_len 0 n)) place x) n d
    (length-set (map f (range_with_len 0 n)) place x ∙ length-map-range_with_len f 0 n) item
  where
    item : (k : ℕ) → k < n → get_or (set (map f (range_with_len 0 n)) place x) k d ≡ g k
    item k below = elim (cases_eq k place) [
      | inl is ↦ ap (λ (j : ℕ). get_or (set (map f (range_with_len 0 n)) place x) j d) is
          ∙ get_or-set_same (map f (range_with_len 0 n)) place x d
          (omega (arith, length-map-range_with_len f 0 n))
          ∙ sym here ∙ ap g (sym is)
      | inr other ↦ get_or-set_other (map f (range_with_len 0 n)) place k x d other
          ∙ get_or-map-range_with_len f 0 n k k d below (omega arith) ∙ others k other
    ]
