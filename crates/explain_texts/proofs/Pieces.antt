-- Functions at equal arguments, and what is collected of numbers.
use Rattle.std.proofs.Common.{◌≡◌, ℕ, ◌+◌, List, [], ◌∷◌, ◌++◌, refl, sym, ap, ◌∙◌, map, add-one, arith, suc, zero}
use Rattle.std.proofs.Common.{Bool, cond}
use Rattle.std.specs.Prelude.{count_by, fold}
use Rattle.std.specs.List.{flat_map, range_with_len}
use Rattle.std.proofs.lemmas.List.{append-nil}
use Rattle.std.proofs.lemmas.List.Concat.{flat_map-append}

pub at_two : {X Y Z : Type 0} (f : X → Y → Z) (a x : X) (b y : Y) → a ≡ x → b ≡ y → f a b ≡ f x y
at_two f a x b y first second = ap (λ v. f v b) first ∙ ap (f x) second

pub at_three : {W X Y Z : Type 0} (f : W → X → Y → Z) (a u : W) (b v : X) (c w : Y) → a ≡ u → b ≡ v → c ≡ w →
    f a b c ≡ f u v w
at_three f a u b v c w first second third = ap (λ x. f x b c) first ∙ at_two (f u) b v c w second third

range_push : (a n j : ℕ) → a + n ≡ j → range_with_len a (suc n) ≡ range_with_len a n ++ j ∷ []
range_push a zero j is =
    let same : a ≡ j = omega (arith, is) in
    ap (λ (k : ℕ). k ∷ []) same
range_push a (suc n) j is =
    ap (λ (numbers : List ℕ). a ∷ numbers) (range_push (a + 1) n j (omega (arith, is)))

-- one more number
pub numbers_more : (f : ℕ → List ℕ) (n : ℕ) (before line after : List ℕ) →
    before ≡ flat_map f (range_with_len 0 n) → line ≡ f n → after ≡ before ++ line →
    after ≡ flat_map f (range_with_len 0 (n + 1))
numbers_more f n before line after was line_is is =
    is ∙ at_two (λ (xs ys : List ℕ). xs ++ ys) before (flat_map f (range_with_len 0 n)) line (f n) was line_is
    ∙ sym (ap (λ (all : List ℕ). flat_map f all) (rw add-one (range_push 0 n n (omega arith)))
    ∙ flat_map-append f (range_with_len 0 n) (n ∷ [])
    ∙ ap (λ (last : List ℕ). flat_map f (range_with_len 0 n) ++ last) (append-nil (f n)))

fold_mapped : {X Y A : Type 0} (g : A → Y → A) (f : X → Y) (a : A) (xs : List X) →
    fold g a (map f xs) ≡ fold (λ (b : A) (x : X). g b (f x)) a xs
fold_mapped g f a [] = refl
fold_mapped g f a (x ∷ xs) = fold_mapped g f (g a (f x)) xs

pub count_mapped : {X Y : Type 0} (f : X → Y) (p : Y → Bool) (xs : List X) →
    count_by p (map f xs) ≡ count_by (λ x. p (f x)) xs
count_mapped {X} {Y} f p xs = fold_mapped (λ (a : ℕ) (y : Y). a + cond (p y) 1 0) f 0 xs
