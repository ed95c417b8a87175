-- The first of what may be there, along lists.
use Rattle.std.proofs.Common.{◌≡◌, ℕ, zero, suc, ◌+◌, ◌<◌, List, [], ◌∷◌, ◌++◌, map, length, take, get_or, refl, sym, ap, ◌∙◌}
use Rattle.std.proofs.Common.{add-one, arith}
use Rattle.std.specs.Prelude.{Option, Some, None}
use Rattle.std.specs.List.{range_with_len}
use Rattle.std.proofs.lemmas.List.{take_more}
use Rattle.place_reasons.specs.Firsts.{or_first, first_some}

pub or_none : {X : Type 0} (first : Option X) → or_first first None ≡ first
or_none None = refl
or_none (Some x) = refl

pub or_assoc : {X : Type 0} (first second third : Option X) →
    or_first (or_first first second) third ≡ or_first first (or_first second third)
or_assoc None second third = refl
or_assoc (Some x) second third = refl

pub first_in_two : {X Y : Type 0} (make : X → Option Y) (xs ys : List X) →
    first_some make (xs ++ ys) ≡ or_first (first_some make xs) (first_some make ys)
first_in_two make [] ys = refl
first_in_two make (x ∷ xs) ys =
    ap (or_first (make x)) (first_in_two make xs ys) ∙ sym (or_assoc (make x) (first_some make xs) (first_some make ys))

pub first_mapped : {X Y Z : Type 0} (make : Y → Option Z) (f : X → Y) (xs : List X) →
    first_some make (map f xs) ≡ first_some (λ x. make (f x)) xs
first_mapped make f [] = refl
first_mapped make f (x ∷ xs) = ap (or_first (make (f x))) (first_mapped make f xs)

-- with one more item
pub first_pushed : {X Y : Type 0} (make : X → Option Y) (xs : List X) (x : X) →
    first_some make (xs ++ x ∷ []) ≡ or_first (first_some make xs) (make x)
first_pushed make xs x = first_in_two make xs (x ∷ []) ∙ ap (or_first (first_some make xs)) (or_none (make x))

pub first_more_at : {X Y : Type 0} (make : X → Option Y) (old : Option Y) (xs : List X) (k : ℕ) (d : X) → k < length xs →
    or_first (or_first old (first_some make (take k xs))) (make (get_or xs k d))
    ≡ or_first old (first_some make (take (k + 1) xs))
first_more_at make old xs k d lt =
    or_assoc old (first_some make (take k xs)) (make (get_or xs k d))
    ∙ ap (or_first old) (sym (ap (first_some make) (take_more xs k d lt) ∙ first_pushed make (take k xs) (get_or xs k d)))

pub first_more : {X Y : Type 0} (make : X → Option Y) (old : Option Y) (xs : List X) (k : ℕ) (x : X) → k < length xs →
    x ≡ get_or xs k x →
    or_first (or_first old (first_some make (take k xs))) (make x) ≡ or_first old (first_some make (take (k + 1) xs))
first_more make old xs k x lt is =
    ap (λ item. or_first (or_first old (first_some make (take k xs))) (make item)) is ∙ first_more_at make old xs k x lt

range_more : (from count : ℕ) → range_with_len from (suc count) ≡ range_with_len from count ++ (from + count) ∷ []
range_more from zero = let same : from ≡ from + 0 = omega arith in ap (λ k. k ∷ []) same
range_more from (suc count) =
    let same : (from + 1) + count ≡ from + suc count = omega arith in
    ap (λ rest. from ∷ rest)
    (range_more (from + 1) count ∙ ap (λ k. range_with_len (from + 1) count ++ k ∷ []) same)

pub first_range_more : {Y : Type 0} (make : ℕ → Option Y) (k : ℕ) →
    or_first (first_some make (range_with_len 0 k)) (make k) ≡ first_some make (range_with_len 0 (k + 1))
first_range_more make k =
    let more : range_with_len 0 (k + 1) ≡ range_with_len 0 k ++ k ∷ [] =
    rw add-one (range_more 0 k ∙ ap (λ n. range_with_len 0 k ++ n ∷ []) (omega arith)) in
    sym (ap (first_some make) more ∙ first_pushed make (range_with_len 0 k) k)

-- ---- in a row

pub one_in_row : {X : Type 0} (f0 f1 a d all : Option X) → f1 ≡ or_first f0 a → all ≡ or_first a d →
    or_first f1 d ≡ or_first f0 all
one_in_row f0 f1 a d all one is = ap (λ f. or_first f d) one ∙ or_assoc f0 a d ∙ sym (ap (or_first f0) is)

pub two_in_row : {X : Type 0} (f0 f1 f2 a b d : Option X) → f1 ≡ or_first f0 a → f2 ≡ or_first f1 b →
    or_first f2 d ≡ or_first f0 (or_first a (or_first b d))
two_in_row f0 f1 f2 a b d one two =
    ap (λ f. or_first f d) two ∙ or_assoc f1 b d ∙ ap (λ f. or_first f (or_first b d)) one
    ∙ or_assoc f0 a (or_first b d)

pub three_in_row : {X : Type 0} (f0 f1 f2 f3 a b c d : Option X) → f1 ≡ or_first f0 a → f2 ≡ or_first f1 b →
    f3 ≡ or_first f2 c → or_first f3 d ≡ or_first f0 (or_first a (or_first b (or_first c d)))
three_in_row f0 f1 f2 f3 a b c d one two three =
    ap (λ f. or_first f d) three ∙ or_assoc f2 c d ∙ two_in_row f0 f1 f2 a b (or_first c d) one two

pub two_found : {X : Type 0} (f0 f1 f2 a b : Option X) → f1 ≡ or_first f0 a → f2 ≡ or_first f1 b →
    f2 ≡ or_first f0 (or_first a b)
two_found f0 f1 f2 a b one two = two ∙ ap (λ f. or_first f b) one ∙ or_assoc f0 a b

pub three_found : {X : Type 0} (f0 f1 f2 f3 a b c : Option X) → f1 ≡ or_first f0 a → f2 ≡ or_first f1 b →
    f3 ≡ or_first f2 c → f3 ≡ or_first f0 (or_first a (or_first b c))
three_found f0 f1 f2 f3 a b c one two three = two_found f0 f1 f3 a (or_first b c) one (two_found f1 f2 f3 b c two three)
