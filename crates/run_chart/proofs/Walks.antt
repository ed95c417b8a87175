-- Loops that write, and texts of several pieces.
use Rattle.std.proofs.Common.{◌≡◌, ℕ, ◌+◌, ◌<◌, List, ◌∷◌, ◌++◌, length, get_or, drop, ap, sym, ◌∙◌}
use Rattle.std.proofs.Common.{add-one, append_assoc, map}
use Rattle.std.specs.Prelude.{true, Result, Ok, Err, OnOk, is_ok}
use Rattle.std.proofs.Math.Seq.{drop-cons}

-- a fact on a result that is `Ok`
pub from_ok : {T E P : Type 0} (r : Result T E) → true ≡ is_ok r → OnOk r P → P
from_ok (Ok x) ok is = is
from_ok (Err e) ok is = cc

-- what is left of a list is its next element, and what is left behind that
pub left_cut : {X : Type 0} (xs : List X) (i : ℕ) (d x : X) → i < length xs → x ≡ get_or xs i d →
    drop i xs ≡ x ∷ drop (i + 1) xs
left_cut {X} xs i d x lt is =
    let cut : drop i xs ≡ get_or xs i d ∷ drop (i + 1) xs = rw add-one (drop-cons xs i d lt) in
    cut ∙ ap (λ (y : X). y ∷ drop (i + 1) xs) (sym is)

-- one more piece was written
pub written : {X : Type 0} (whole before piece left after : List X) → before ++ (piece ++ left) ≡ whole →
    after ≡ before ++ piece → after ++ left ≡ whole
written {X} whole before piece left after is pushed =
    ap (λ (text : List X). text ++ left) pushed ∙ append_assoc before piece left ∙ is

-- two pieces were written
pub two_pieces : (start first second one text : List ℕ) → one ≡ start ++ first → text ≡ one ++ second →
    text ≡ start ++ (first ++ second)
two_pieces start first second one text first_is second_is =
    second_is ∙ ap (λ (front : List ℕ). front ++ second) first_is ∙ append_assoc start first second

-- three pieces
pub three_pieces : (start first second third one two text : List ℕ) → one ≡ start ++ first → two ≡ one ++ second →
    text ≡ two ++ third → text ≡ start ++ (first ++ (second ++ third))
three_pieces start first second third one two text first_is second_is third_is =
    two_pieces start first (second ++ third) one text first_is
    (two_pieces one second third two text second_is third_is)

-- four, five and six pieces
pub four_pieces : (start first second third fourth one two three text : List ℕ) → one ≡ start ++ first →
    two ≡ one ++ second → three ≡ two ++ third → text ≡ three ++ fourth →
    text ≡ start ++ (first ++ (second ++ (third ++ fourth)))
four_pieces start first second third fourth one two three text first_is second_is third_is fourth_is =
    two_pieces start first (second ++ (third ++ fourth)) one text first_is
    (three_pieces one second third fourth two three text second_is third_is fourth_is)

pub five_pieces : (start first second third fourth fifth one two three four text : List ℕ) →
    one ≡ start ++ first → two ≡ one ++ second → three ≡ two ++ third → four ≡ three ++ fourth →
    text ≡ four ++ fifth → text ≡ start ++ (first ++ (second ++ (third ++ (fourth ++ fifth))))
five_pieces start first second third fourth fifth one two three four text first_is second_is third_is fourth_is
    fifth_is =
    two_pieces start first (second ++ (third ++ (fourth ++ fifth))) one text first_is
    (four_pieces one second third fourth fifth two three four text second_is third_is fourth_is fifth_is)

pub six_pieces : (start first second third fourth fifth sixth one two three four five text : List ℕ) →
    one ≡ start ++ first → two ≡ one ++ second → three ≡ two ++ third → four ≡ three ++ fourth →
    five ≡ four ++ fifth → text ≡ five ++ sixth →
    text ≡ start ++ (first ++ (second ++ (third ++ (fourth ++ (fifth ++ sixth)))))
six_pieces start first second third fourth fifth sixth one two three four five text first_is second_is third_is
    fourth_is fifth_is sixth_is =
    two_pieces start first (second ++ (third ++ (fourth ++ (fifth ++ sixth)))) one text first_is
    (five_pieces one second third fourth fifth sixth two three four five text second_is third_is fourth_is fifth_is
    sixth_is)

-- F gives each element, by its number, a piece f of its shape
pub shape_written : {X Y : Type 0} (shape : X → Y) (F : ℕ → List Y → List ℕ) (f : ℕ → Y → List ℕ) →
    ((n : ℕ) (y : Y) (ys : List Y) → F n (y ∷ ys) ≡ f n y ++ F (n + 1) ys) → (xs : List X) (i : ℕ) (d x : X)
    (whole before after : List ℕ) → i < length xs → x ≡ get_or xs i d →
    before ++ F i (map shape (drop i xs)) ≡ whole → after ≡ before ++ f i (shape x) →
    after ++ F (i + 1) (map shape (drop (i + 1) xs)) ≡ whole
shape_written {X} {Y} shape F f cons xs i d x whole before after lt is was pushed =
    written whole before (f i (shape x)) (F (i + 1) (map shape (drop (i + 1) xs))) after
    (ap (λ (left : List ℕ). before ++ left)
    (sym (ap (λ (rest : List X). F i (map shape rest)) (left_cut xs i d x lt is)
    ∙ cons i (shape x) (map shape (drop (i + 1) xs)))) ∙ was)
    pushed
