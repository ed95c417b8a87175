-- Some element of a list that is made of others.
use Rattle.std.proofs.Common.{zero, suc, ◌⊎◌, refl, sym, subst, inl, inr, List, [], ◌∷◌, ◌++◌, arith}
use Rattle.std.specs.Prelude.{Any}

pub any_here : {X : Type 0} (P : X → Type 0) (x : X) (xs : List X) → P x → Any P (x ∷ xs)
any_here P x xs holds = (0, x, omega arith, refl, holds)

pub any_later : {X : Type 0} (P : X → Type 0) (y : X) (xs : List X) → Any P xs → Any P (y ∷ xs)
any_later P y xs (k, x, within, read, holds) = (suc k, x, omega (arith, within), read, holds)

pub any_first : {X : Type 0} (P : X → Type 0) (y : X) (xs : List X) → Any P (y ∷ xs) → P y ⊎ Any P xs
any_first P y xs (zero, x, within, read, holds) = inl (subst P (sym read) holds)
any_first P y xs (suc k, x, within, read, holds) = inr (k, x, omega (arith, within), read, holds)

pub any_none : {X : Type 0} (P : X → Type 0) → ¬ Any P []
any_none P (k, x, within, read, holds) = omega (arith, within)

pub any_left : {X : Type 0} (P : X → Type 0) (xs ys : List X) → Any P xs → Any P (xs ++ ys)
any_left P [] ys some = absurd (any_none P some)
any_left P (x ∷ xs) ys some = elim (any_first P x xs some) [
  | inl holds ↦ any_here P x (xs ++ ys) holds
  | inr later ↦ any_later P x (xs ++ ys) (any_left P xs ys later)
]

pub any_right : {X : Type 0} (P : X → Type 0) (xs ys : List X) → Any P ys → Any P (xs ++ ys)
any_right P [] ys some = some
any_right P (x ∷ xs) ys some = any_later P x (xs ++ ys) (any_right P xs ys some)

pub any_either : {X : Type 0} (P : X → Type 0) (xs ys : List X) → Any P (xs ++ ys) → Any P xs ⊎ Any P ys
any_either P [] ys some = inr some
any_either P (x ∷ xs) ys some = elim (any_first P x (xs ++ ys) some) [
  | inl holds ↦ inl (any_here P x xs holds)
  | inr later ↦ elim (any_either P xs ys later) [
    | inl left ↦ inl (any_later P x xs left)
    | inr right ↦ inr right
  ]
]
