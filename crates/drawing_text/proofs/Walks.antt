-- A loop over a list that writes a piece for each element: what was written, and behind it what the rest gives, is the
-- whole.
use Rattle.std.proofs.Common.{◌≡◌, ℕ, ◌+◌, ◌<◌, List, ◌∷◌, ◌++◌, length, get_or, drop, ap, sym, ◌∙◌}
use Rattle.std.proofs.Common.{add-one}
use Rattle.std.proofs.Math.Seq.{drop-cons}
use Rattle.std.proofs.lemmas.List.{append_assoc}

-- one more piece was written
pub written : (whole before piece left after : List ℕ) → before ++ (piece ++ left) ≡ whole → after ≡ before ++ piece →
    after ++ left ≡ whole
written whole before piece left after is pushed =
    ap (λ (text : List ℕ). text ++ left) pushed ∙ append_assoc before piece left ∙ is

-- what is left of a list is its next element, and what is left behind that
pub left_cut : {X : Type 0} (xs : List X) (i : ℕ) (d x : X) → i < length xs → x ≡ get_or xs i d →
    drop i xs ≡ x ∷ drop (i + 1) xs
left_cut {X} xs i d x lt is =
    let cut : drop i xs ≡ get_or xs i d ∷ drop (i + 1) xs = rw add-one (drop-cons xs i d lt) in
    cut ∙ ap (λ (y : X). y ∷ drop (i + 1) xs) (sym is)
