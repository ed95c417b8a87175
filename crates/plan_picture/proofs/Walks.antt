-- Loops that write.
use Rattle.std.proofs.Common.{◌≡◌, ℕ, ◌+◌, ◌<◌, List, [], ◌∷◌, ◌++◌, length, get_or, drop, ap, sym, ◌∙◌}
use Rattle.std.proofs.Common.{add-one, append_assoc, arith, map, suc, zero}
use Rattle.std.specs.List.{flat_map, range_with_len}
use Rattle.std.proofs.lemmas.List.{append-nil}
use Rattle.std.proofs.lemmas.List.Concat.{flat_map-append}
use Rattle.std.proofs.lemmas.List.FromFn.{map-range_with_len_more}
use Rattle.std.specs.Prelude.{true, Result, Ok, Err, OnOk, is_ok}
use Rattle.std.proofs.Math.Seq.{drop-cons}

-- a fact on a result that is `Ok`
pub from_ok : {T E P : Type 0} (r : Result T E) → true ≡ is_ok r → OnOk r P → P
from_ok (Ok x) ok is = is
from_ok (Err e) ok is = cc

-- what is left of a list is its next element, and what is left behind that
pub left_cut : {X : Type 0} (xs : List X) (i : ℕ) (d x : X) → i < length xs → x ≡ get_or xs i d →
    drop i xs ≡ x ∷ drop (i + 1) xs
left_cut {X} xs i d x lt is =
    let cut : drop i xs ≡ get_or xs i d ∷ drop (i + 1) xs = rw add-one (drop-cons xs i d lt) in
    cut ∙ ap (λ (y : X). y ∷ drop (i + 1) xs) (sym is)

-- one more piece was written
pub written : {X : Type 0} (whole before piece left after : List X) → before ++ (piece ++ left) ≡ whole →
    after ≡ before ++ piece → after ++ left ≡ whole
written {X} whole before piece left after is pushed =
    ap (λ (text : List X). text ++ left) pushed ∙ append_assoc before piece left ∙ is

-- one more value was made of a number
pub value_more : {X : Type 0} (f : ℕ → X) (n : ℕ) (xs after : List X) (x : X) →
    xs ≡ map f (range_with_len 0 n) → x ≡ f n → after ≡ xs ++ x ∷ [] → after ≡ map f (range_with_len 0 (n + 1))
value_more {X} f n xs after x was is pushed =
    pushed ∙ ap (λ (front : List X). front ++ x ∷ []) was
    ∙ ap (λ (last : X). map f (range_with_len 0 n) ++ last ∷ []) is
    ∙ sym (map-range_with_len_more f 0 n n (omega arith))

-- two pieces were written
pub two_pieces : (start first second one text : List ℕ) → one ≡ start ++ first → text ≡ one ++ second →
    text ≡ start ++ (first ++ second)
two_pieces start first second one text first_is second_is =
    second_is ∙ ap (λ (front : List ℕ). front ++ second) first_is ∙ append_assoc start first second

-- three pieces
pub three_pieces : (start first second third one two text : List ℕ) → one ≡ start ++ first → two ≡ one ++ second →
    text ≡ two ++ third → text ≡ start ++ (first ++ (second ++ third))
three_pieces start first second third one two text first_is second_is third_is =
    two_pieces start first (second ++ third) one text first_is
    (two_pieces one second third two text second_is third_is)

-- four and five pieces
pub four_pieces : (start first second third fourth one two three text : List ℕ) → one ≡ start ++ first →
    two ≡ one ++ second → three ≡ two ++ third → text ≡ three ++ fourth →
    text ≡ start ++ (first ++ (second ++ (third ++ fourth)))
four_pieces start first second third fourth one two three text first_is second_is third_is fourth_is =
    two_pieces start first (second ++ (third ++ fourth)) one text first_is
    (three_pieces one second third fourth two three text second_is third_is fourth_is)

pub five_pieces : (start first second third fourth fifth one two three four text : List ℕ) →
    one ≡ start ++ first → two ≡ one ++ second → three ≡ two ++ third → four ≡ three ++ fourth →
    text ≡ four ++ fifth → text ≡ start ++ (first ++ (second ++ (third ++ (fourth ++ fifth))))
five_pieces start first second third fourth fifth one two three four text first_is second_is third_is fourth_is
    fifth_is =
    two_pieces start first (second ++ (third ++ (fourth ++ fifth))) one text first_is
    (four_pieces one second third fourth fifth two three four text second_is third_is fourth_is fifth_is)

-- F gives each element a piece f
pub piece_written : {X : Type 0} (F : List X → List ℕ) (f : X → List ℕ) →
    ((x : X) (xs : List X) → F (x ∷ xs) ≡ f x ++ F xs) → (xs : List X) (i : ℕ) (d x : X)
    (whole before after : List ℕ) → i < length xs → x ≡ get_or xs i d → before ++ F (drop i xs) ≡ whole →
    after ≡ before ++ f x → after ++ F (drop (i + 1) xs) ≡ whole
piece_written F f cons xs i d x whole before after lt is was pushed =
    written whole before (f x) (F (drop (i + 1) xs)) after
    (ap (λ (left : List ℕ). before ++ left)
    (sym (ap F (left_cut xs i d x lt is) ∙ cons x (drop (i + 1) xs))) ∙ was)
    pushed

range_push : (a n j : ℕ) → a + n ≡ j → range_with_len a (suc n) ≡ range_with_len a n ++ j ∷ []
range_push a zero j is =
    let same : a ≡ j = omega (arith, is) in
    ap (λ (k : ℕ). k ∷ []) same
range_push a (suc n) j is =
    ap (λ (numbers : List ℕ). a ∷ numbers) (range_push (a + 1) n j (omega (arith, is)))

range_more : (a n j : ℕ) → a + n ≡ j → range_with_len a (n + 1) ≡ range_with_len a n ++ j ∷ []
range_more a n j is = rw add-one (range_push a n j is)

-- one more piece was written of a number
pub numbered_written : (f : ℕ → List ℕ) (n : ℕ) (start before after : List ℕ) →
    before ≡ start ++ flat_map f (range_with_len 0 n) → after ≡ before ++ f n →
    after ≡ start ++ flat_map f (range_with_len 0 (n + 1))
numbered_written f n start before after was pushed =
    let more : range_with_len 0 (n + 1) ≡ range_with_len 0 n ++ n ∷ [] = range_more 0 n n (omega arith) in
    let whole : flat_map f (range_with_len 0 (n + 1)) ≡ flat_map f (range_with_len 0 n) ++ f n =
    ap (flat_map f) more ∙ flat_map-append f (range_with_len 0 n) (n ∷ [])
    ∙ ap (λ (last : List ℕ). flat_map f (range_with_len 0 n) ++ last) (append-nil (f n)) in
    pushed ∙ ap (λ (front : List ℕ). front ++ f n) was
    ∙ append_assoc start (flat_map f (range_with_len 0 n)) (f n)
    ∙ ap (λ (text : List ℕ). start ++ text) (sym whole)

-- nothing was written
pub none_written : (start : List ℕ) → start ≡ start ++ []
none_written start = sym (append-nil start)
