-- Loops that follow a recursion on a list: what was made, and what the rest makes of it, is the whole.
use Rattle.std.proofs.Common.{◌≡◌, ℕ, zero, suc, ◌+◌, ◌<◌, ◌≤◌, List, [], ◌∷◌, ◌++◌, length, get_or, drop, map, ap}
use Rattle.std.proofs.Common.{Global, Vec, vec_items}
use Rattle.std.proofs.Common.{sym, ◌∙◌, add-one, arith}
use Rattle.std.specs.List.{flat_map, range_with_len}
use Rattle.std.proofs.Math.Seq.{drop-cons}
use Rattle.std.proofs.lemmas.List.{append-nil, drop_all, map-append}
use Rattle.std.proofs.lemmas.List.Concat.{flat_map-append}

-- what is left of a list is its next element, and what is left behind that
pub left_cut : {X : Type 0} (xs : List X) (i : ℕ) (d x : X) → i < length xs → x ≡ get_or xs i d →
    drop i xs ≡ x ∷ drop (i + 1) xs
left_cut {X} xs i d x lt is =
    let cut : drop i xs ≡ get_or xs i d ∷ drop (i + 1) xs = rw add-one (drop-cons xs i d lt) in
    cut ∙ ap (λ (y : X). y ∷ drop (i + 1) xs) (sym is)

-- what F makes of a state and no more elements is the state
pub folded_all : {S X : Type 0} (F : S → List X → S) → ((s : S) → F s [] ≡ s) → (xs : List X) (i : ℕ)
    (made whole : S) → length xs ≤ i → F made (drop i xs) ≡ whole → made ≡ whole
folded_all F nil xs i made whole all was = sym (nil made) ∙ sym (ap (F made) (drop_all i xs all)) ∙ was

-- ---- hosts by number

range_push : (a n j : ℕ) → a + n ≡ j → range_with_len a (suc n) ≡ range_with_len a n ++ j ∷ []
range_push a zero j is =
    let same : a ≡ j = omega (arith, is) in
    ap (λ (k : ℕ). k ∷ []) same
range_push a (suc n) j is =
    ap (λ (numbers : List ℕ). a ∷ numbers) (range_push (a + 1) n j (omega (arith, is)))

-- one more host
pub host_added : {Y : Type 0} (f : ℕ → List Y) (n : ℕ) (before after : List Y) →
    before ≡ flat_map f (range_with_len 0 n) → after ≡ before ++ f n → after ≡ flat_map f (range_with_len 0 (n + 1))
host_added {Y} f n before after was added =
    added ∙ ap (λ (made : List Y). made ++ f n) was
    ∙ ap (λ (last : List Y). flat_map f (range_with_len 0 n) ++ last) (sym (append-nil (f n)))
    ∙ sym (flat_map-append f (range_with_len 0 n) (n ∷ []))
    ∙ ap (flat_map f) (sym (rw add-one (range_push 0 n n (omega arith))))

pub host_listed : {Y : Type 0} (f : ℕ → Y) (n : ℕ) (before after : List Y) →
    before ≡ map f (range_with_len 0 n) → after ≡ before ++ f n ∷ [] → after ≡ map f (range_with_len 0 (n + 1))
host_listed {Y} f n before after was added =
    added ∙ ap (λ (made : List Y). made ++ f n ∷ []) was
    ∙ sym (map-append f (range_with_len 0 n) (n ∷ []))
    ∙ ap (map f) (sym (rw add-one (range_push 0 n n (omega arith))))

-- one more host, with a table of its own
pub table_listed : {X : Type 0} (f : ℕ → List X) (n : ℕ) (table : Vec X Global) (before after : List (Vec X Global)) →
    map vec_items before ≡ map f (range_with_len 0 n) → after ≡ before ++ table ∷ [] → table.items ≡ f n →
    map vec_items after ≡ map f (range_with_len 0 (n + 1))
table_listed {X} f n table before after was added is =
    host_listed f n (map vec_items before) (map vec_items after) was
    (ap (map vec_items) added ∙ map-append vec_items before (table ∷ [])
    ∙ ap (λ (last : List X). map vec_items before ++ last ∷ []) is)
