-- What is written of a list, piece by piece.
use Rattle.std.proofs.Common.{◌≡◌, ℕ, List, [], ◌∷◌, ◌++◌, map, ap, sym, ◌∙◌}
use Rattle.std.specs.Prelude.{ℤ, true, Result, Ok, Err, OnOk, is_ok}
use Rattle.std.specs.Fmt.{signed_decimal}
use Rattle.std.specs.List.{flat_map, join_with_byte}
use Rattle.std.proofs.lemmas.List.{append-nil, append_assoc}

-- what a text has after one more piece
pub added : (start front piece : List ℕ) {before after next : List ℕ} → before ≡ start ++ front →
    after ≡ before ++ piece → next ≡ front ++ piece → after ≡ start ++ next
added start front piece was pushed longer =
    pushed ∙ ap (λ text. text ++ piece) was ∙ append_assoc start front piece ∙ ap (λ text. start ++ text) (sym longer)

-- a fact on a result that is `Ok`
pub from_ok : {T E P : Type 0} (r : Result T E) → true ≡ is_ok r → OnOk r P → P
from_ok (Ok x) ok is = is
from_ok (Err e) ok is = cc

-- a row of one element or more
pub join_with_byte_cons : (first : ℤ) (rest : List ℤ) →
    join_with_byte 32 (map signed_decimal (first ∷ rest))
    ≡ signed_decimal first ++ flat_map (λ element. 32 ∷ signed_decimal element) rest
join_with_byte_cons first [] = sym (append-nil (signed_decimal first))
join_with_byte_cons first (next ∷ rest) =
    ap (λ text. signed_decimal first ++ (32 ∷ text)) (join_with_byte_cons next rest)
