-- Rows that are gone over by their number.
use Rattle.std.proofs.Common.{◌≡◌, ℕ, ◌+◌, ◌<◌, ◌≤◌, List, [], ◌∷◌, ◌++◌, length, map, take, get_or, Some, sym, ap, ap₂}
use Rattle.std.proofs.Common.{◌∙◌}
use Rattle.std.proofs.Common.{subst}
use Rattle.std.specs.Prelude.{All, slice_get}
use Rattle.std.proofs.lemmas.List.{take_all, take_more, get_or-map, length-map}
use Rattle.std.proofs.lemmas.List.Elements.{All-push}
use Rattle.std.proofs.lemmas.Option.{slice_get-get_or}

-- the row of a number that there is
pub row_at : {X : Type 0} (rows : List X) (number : ℕ) (row : X) → number < length rows → row ≡ get_or rows number row →
    slice_get rows number ≡ Some row
row_at rows number row lt is = slice_get-get_or rows number row lt ∙ ap Some (sym is)

-- the rows so far, with one more
rows_more : {X : Type 0} (rows : List X) (number : ℕ) (row : X) → number < length rows → row ≡ get_or rows number row →
    take (number + 1) rows ≡ take number rows ++ row ∷ []
rows_more {X} rows number row lt is =
    take_more rows number row lt ∙ ap (λ (r : X). take number rows ++ r ∷ []) (sym is)

pub all_more : {X : Type 0} (P : X → Type 0) (rows : List X) (number : ℕ) (row : X) → number < length rows →
    row ≡ get_or rows number row → P row → All P (take number rows) → All P (take (number + 1) rows)
all_more P rows number row lt is holds all =
    subst (All P) (sym (rows_more rows number row lt is)) (All-push P (take number rows) row all holds)

pub all_of_them : {X : Type 0} (P : X → Type 0) (rows : List X) (number : ℕ) → length rows ≤ number →
    All P (take number rows) → All P rows
all_of_them P rows number past all = subst (All P) (take_all number rows past) all

-- two rows of a place that are the same, each with those before them
pub same_more : {X Y : Type 0} (f : X → Y) (rows : List X) (others : List Y) (number : ℕ) (row : X) (other : Y) →
    number < length rows → number < length others → row ≡ get_or rows number row → other ≡ get_or others number other →
    f row ≡ other → take number (map f rows) ≡ take number others →
    take (number + 1) (map f rows) ≡ take (number + 1) others
same_more {X} {Y} f rows others number row other lt within is at same before =
    let mapped : number < length (map f rows) = subst (λ (n : ℕ). number < n) (sym (length-map rows f)) lt in
    let there : f row ≡ get_or (map f rows) number (f row) = ap f is ∙ sym (get_or-map f rows number row (f row) lt) in
    rows_more (map f rows) number (f row) mapped there
    ∙ ap₂ (λ (front : List Y) (last : Y). front ++ last ∷ []) before same
    ∙ sym (rows_more others number other within at)
