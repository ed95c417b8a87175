-- What one more line adds to a report.
use Rattle.std.proofs.Common.{◌≡◌, ℕ, ◌+◌, ◌<◌, List, [], ◌∷◌, ◌++◌, length, get_or, take, map, ap}
use Rattle.std.proofs.Common.{sym, ◌∙◌, arith}
use Rattle.std.specs.Prelude.{ℤ, true, Result, Ok, Err, OnOk, is_ok}
use Rattle.std.specs.Fmt.{signed_decimal}
use Rattle.std.specs.List.{flat_map, join_with_byte}
use Rattle.std.proofs.lemmas.List.{append-nil, append_assoc, flat_map_more, length-take-le, take_more}
use Rattle.front_end.specs.Text.{lines_text}

-- what a text has after one more piece
pub added : (start front piece : List ℕ) {before after next : List ℕ} → before ≡ start ++ front →
    after ≡ before ++ piece → next ≡ front ++ piece → after ≡ start ++ next
added start front piece was pushed longer =
    pushed ∙ ap (λ text. text ++ piece) was ∙ append_assoc start front piece ∙ ap (λ text. start ++ text) (sym longer)

-- a fact on a result that is `Ok`
pub from_ok : {T E P : Type 0} (r : Result T E) → true ≡ is_ok r → OnOk r P → P
from_ok (Ok x) ok is = is
from_ok (Err e) ok is = cc

pub lines_more : (lines : List (List ℕ)) (line : List ℕ) →
    lines_text (lines ++ line ∷ []) ≡ lines_text lines ++ (line ++ 10 ∷ [])
lines_more lines line = sym (flat_map_more (λ line. line ++ 10 ∷ []) [] lines line)

-- F gives each element a line, by its number
numbered_push : {X : Type 0} (F : ℕ → List X → List (List ℕ)) (f : ℕ → X → List ℕ) → ((n : ℕ) → F n [] ≡ []) →
    ((n : ℕ) (x : X) (xs : List X) → F n (x ∷ xs) ≡ f n x ∷ F (n + 1) xs) →
    (n : ℕ) (xs : List X) (x : X) (place : ℕ) → place ≡ n + length xs → F n (xs ++ x ∷ []) ≡ F n xs ++ f place x ∷ []
numbered_push F f nil cons n [] x place is =
    let same : n ≡ place = omega arith in
    rw (cons n x [], nil (n + 1), nil n) (ap (λ m. f m x ∷ []) same)
numbered_push F f nil cons n (y ∷ xs) x place is =
    rw (cons n y (xs ++ x ∷ []), cons n y xs)
    (ap (λ lines. f n y ∷ lines) (numbered_push F f nil cons (n + 1) xs x place (omega arith)))

-- so F of one element more adds its line
pub numbered_more : {X : Type 0} (F : ℕ → List X → List (List ℕ)) (f : ℕ → X → List ℕ) → ((n : ℕ) → F n [] ≡ []) →
    ((n : ℕ) (x : X) (xs : List X) → F n (x ∷ xs) ≡ f n x ∷ F (n + 1) xs) → (xs : List X) (i : ℕ) (d : X) →
    i < length xs → lines_text (F 0 (take (i + 1) xs))
    ≡ lines_text (F 0 (take i xs)) ++ (f i (get_or xs i d) ++ 10 ∷ [])
numbered_more F f nil cons xs i d lt =
    let count = length-take-le i xs (omega arith) in
    ap (λ front. lines_text (F 0 front)) (take_more xs i d lt)
    ∙ ap lines_text (numbered_push F f nil cons 0 (take i xs) (get_or xs i d) i (omega arith))
    ∙ lines_more (F 0 (take i xs)) (f i (get_or xs i d))

-- a row of one element or more
pub join_with_byte_cons : (first : ℤ) (rest : List ℤ) →
    join_with_byte 32 (map signed_decimal (first ∷ rest))
    ≡ signed_decimal first ++ flat_map (λ element. 32 ∷ signed_decimal element) rest
join_with_byte_cons first [] = sym (append-nil (signed_decimal first))
join_with_byte_cons first (next ∷ rest) =
    ap (λ text. signed_decimal first ++ (32 ∷ text)) (join_with_byte_cons next rest)
