-- A loop over a list that makes a piece for each element: what was made, and behind it what the rest gives, is the
-- whole.
use Rattle.std.proofs.Common.{◌≡◌, ℕ, ◌+◌, ◌<◌, List, [], ◌∷◌, ◌++◌, length, get_or, drop, map, ap, sym, ◌∙◌}
use Rattle.std.proofs.Common.{add-one}
use Rattle.std.proofs.Math.Seq.{drop-cons}
use Rattle.std.proofs.lemmas.List.{append_assoc, map_push}

-- one more piece was made
pub walked : {X : Type 0} (made next piece left rest whole : List X) → made ++ left ≡ whole → left ≡ piece ++ rest →
    next ≡ made ++ piece → next ++ rest ≡ whole
walked {X} made next piece left rest whole is cut pushed =
    ap (λ (xs : List X). xs ++ rest) pushed ∙ append_assoc made piece rest
    ∙ ap (λ (xs : List X). made ++ xs) (sym cut) ∙ is

-- what is left of a list is its next element, and what is left behind that
pub left_cut : {X : Type 0} (xs : List X) (i : ℕ) (d x : X) → i < length xs → x ≡ get_or xs i d →
    drop i xs ≡ x ∷ drop (i + 1) xs
left_cut {X} xs i d x lt is =
    let cut : drop i xs ≡ get_or xs i d ∷ drop (i + 1) xs = rw add-one (drop-cons xs i d lt) in
    cut ∙ ap (λ (y : X). y ∷ drop (i + 1) xs) (sym is)

-- the shapes of what was made, with one more
pub shaped : {X Y : Type 0} (shape : Y → X) (made next : List Y) (one : Y) (seen : X) → next ≡ made ++ one ∷ [] →
    shape one ≡ seen → map shape next ≡ map shape made ++ seen ∷ []
shaped {X} shape made next one seen pushed is =
    ap (map shape) pushed ∙ map_push shape made one ∙ ap (λ (x : X). map shape made ++ x ∷ []) is
