-- Loops over lists.
use Rattle.std.proofs.Common.{◌≡◌, ℕ, ◌+◌, ◌<◌, List, ◌∷◌, ◌++◌, length, get_or, drop, ap, sym, ◌∙◌}
use Rattle.std.proofs.Common.{inl, inr, Bool, None, [], add-one, arith, map, not}
use Rattle.std.specs.List.{position, position_or_len}
use Rattle.std.proofs.lemmas.Bool.{cases_lt, lt-ltb}
use Rattle.std.proofs.lemmas.List.{map-append}
use Rattle.std.proofs.lemmas.List.Sums.{prefix_len-le-length}
use Rattle.std.proofs.Math.Seq.{drop-cons}

-- what is left of a list is its next element, and what is left behind that
pub left_cut : {X : Type 0} (xs : List X) (i : ℕ) (d x : X) → i < length xs → x ≡ get_or xs i d →
    drop i xs ≡ x ∷ drop (i + 1) xs
left_cut {X} xs i d x lt is =
    let cut : drop i xs ≡ get_or xs i d ∷ drop (i + 1) xs = rw add-one (drop-cons xs i d lt) in
    cut ∙ ap (λ (y : X). y ∷ drop (i + 1) xs) (sym is)

-- one more element was made
pub mapped_more : {X Y : Type 0} (f : X → Y) (xs after : List X) (x : X) (y : Y) (ys all : List Y) →
    map f xs ≡ ys → f x ≡ y → after ≡ xs ++ x ∷ [] → all ≡ ys ++ y ∷ [] → map f after ≡ all
mapped_more f xs after x y ys all was is pushed more =
    ap (map f) pushed ∙ map-append f xs (x ∷ []) ∙ ap (λ front. front ++ f x ∷ []) was
    ∙ ap (λ last. ys ++ last ∷ []) is ∙ sym more

-- where nothing passes, the place is behind all
pub no_place : {X : Type 0} (p : X → Bool) (xs : List X) → None ≡ position p xs → position_or_len p xs ≡ length xs
no_place p xs is = elim (cases_lt (position_or_len p xs) (length xs)) [
  | inl within ↦ absurd (let no = rw (lt-ltb (position_or_len p xs) (length xs) within) at is in cc)
  | inr past ↦ let least = prefix_len-le-length (λ x. not (p x)) xs in omega (arith, least, past)
]
