-- Items of a list where another is added or taken out.
use Rattle.std.proofs.Common.{◌≡◌, ◌≢◌, ◌∙◌, ℕ, zero, suc, List, [], ◌∷◌, ◌++◌, Option, Some, None}
use Rattle.std.proofs.Common.{refl, sym, ap, subst}
use Rattle.std.specs.Prelude.{slice_get, remove, IfSome, IsSomeAnd}
use Rattle.std.specs.List.{AllByRecursion}
use Rattle.integrity.specs.Holding.{IsAmong}

pub push_at : {X : Type 0} (xs : List X) (y x : X) (place : ℕ) → slice_get xs place ≡ Some x →
    slice_get (xs ++ y ∷ []) place ≡ Some x
push_at [] y x place is = absurd (cc)
push_at (z ∷ xs) y x zero is = is
push_at (z ∷ xs) y x (suc place) is = push_at xs y x place is

-- the last item
pub last_at : {X : Type 0} (xs : List X) (y : X) → IsAmong (xs ++ y ∷ []) y
last_at [] y = (0, refl)
last_at (z ∷ xs) y = let rest = last_at xs y in (suc rest.0, rest.1)

-- one item more, behind or in front
pub among_push : {X : Type 0} (xs : List X) (y x : X) → IsAmong xs x → IsAmong (xs ++ y ∷ []) x
among_push xs y x has = (has.0, push_at xs y x has.0 has.1)

pub among_cons : {X : Type 0} (xs : List X) (y x : X) → IsAmong xs x → IsAmong (y ∷ xs) x
among_cons xs y x has = (suc has.0, has.1)

-- an item that is not taken out
pub among_without : {X : Type 0} (xs : List X) (place out : ℕ) (x : X) → slice_get xs place ≡ Some x → place ≢ out →
    IsAmong (remove xs out) x
among_without [] place out x is apart = absurd (cc)
among_without (z ∷ xs) zero zero x is apart = absurd (apart refl)
among_without (z ∷ xs) zero (suc out) x is apart = (0, is)
among_without (z ∷ xs) (suc place) zero x is apart = (place, is)
among_without (z ∷ xs) (suc place) (suc out) x is apart =
    let rest = among_without xs place out x is (λ same. apart (ap (λ (n : ℕ). suc n) same)) in
    (suc rest.0, rest.1)

-- the item at one place is one item
pub same_item : {X : Type 0} (xs : List X) (place : ℕ) (x y : X) → slice_get xs place ≡ Some x →
    slice_get xs place ≡ Some y → x ≡ y
same_item xs place x y is also = let same : Some x ≡ Some y = sym is ∙ also in cc

pub record IsOne {X : Type 0} (o : Option X) (P : X → Type 0) : Type 0 where
  pub one : X
  pub is : o ≡ Some one
  pub has : P one

pub one_of_some : {X : Type 0} (o : Option X) (P : X → Type 0) → IsSomeAnd o P → IsOne o P
one_of_some None P has = absurd has
one_of_some (Some x) P has = record { one = x; is = refl; has = has }

pub some_of : {X : Type 0} (o : Option X) (P : X → Type 0) (x : X) → o ≡ Some x → P x → IsSomeAnd o P
some_of o P x is has = subst (λ p. IsSomeAnd p P) (sym is) has

-- no item is there for which it is impossible
pub nothing : {X : Type 0} (o : Option X) → IsSomeAnd o (λ x. ⊥) → ⊥
nothing None has = has
nothing (Some x) has = has

pub if_of : {X : Type 0} (o : Option X) (P : X → Type 0) (x : X) → o ≡ Some x → IfSome o P → P x
if_of o P x is has = subst (λ p. IfSome p P) is has

-- what holds of all holds of each, in both ways to say so
pub each_among : {X : Type 0} (P : X → Type 0) (xs : List X) (x : X) → AllByRecursion P xs → IsAmong xs x → P x
each_among P [] x all among = absurd (cc)
each_among P (y ∷ xs) x all (zero, is) = let same : y ≡ x = cc in subst P same all.0
each_among P (y ∷ xs) x all (suc place, is) = each_among P xs x all.1 (place, is)

pub all_among : {X : Type 0} (P : X → Type 0) (xs : List X) → ((x : X) → IsAmong xs x → P x) → AllByRecursion P xs
all_among P [] each = tt
all_among P (y ∷ xs) each = (each y (0, refl), all_among P xs (λ x among. each x (suc among.0, among.1)))
