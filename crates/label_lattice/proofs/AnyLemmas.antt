-- Some element of a list that gains one.
use Rattle.std.proofs.Common.{zero, suc, ◌⊎◌, ◌∙◌, sym, subst, inl, inr, List, [], ◌∷◌, ◌++◌, length-append, arith}
use Rattle.std.specs.Prelude.{Any}
use Rattle.std.proofs.lemmas.List.{get_or_append_left}

pub any_old : {X : Type 0} (P : X → Type 0) (xs : List X) (y : X) → Any P xs → Any P (xs ++ y ∷ [])
any_old P xs y (k, x, within, read, holds) =
    (k, x, omega (arith, within, length-append xs (y ∷ [])), get_or_append_left xs (y ∷ []) x k within ∙ read, holds)

pub any_cases : {X : Type 0} (P : X → Type 0) (xs : List X) (y : X) → Any P (xs ++ y ∷ []) → Any P xs ⊎ P y
any_cases P [] y (zero, x, within, read, holds) = inr (subst P (sym read) holds)
any_cases P [] y (suc k, x, within, read, holds) = absurd (omega (arith, within))
any_cases P (z ∷ xs) y (zero, x, within, read, holds) = inl (zero, x, omega arith, read, holds)
any_cases P (z ∷ xs) y (suc k, x, within, read, holds) =
    elim (any_cases P xs y (k, x, omega (arith, within), read, holds)) [
      | inl (n, w, inside, is, also) ↦ inl (suc n, w, omega (arith, inside), is, also)
      | inr here ↦ inr here
    ]
