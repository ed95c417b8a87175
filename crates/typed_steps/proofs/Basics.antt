-- Facts on lists and options that several proofs need.
use Rattle.std.proofs.Common.{◌≡◌, ℕ, List, [], ◌∷◌, Option, None, subst, true, inl, inr}
use Rattle.std.specs.Prelude.{IsSome, nat_eq}
use Rattle.std.specs.List.{AllByRecursion}
use Rattle.std.proofs.lemmas.Bool.Decides.{eqb_tells}
use Rattle.std.proofs.Common.{◌++◌}

pub none_there : {X : Type 0} (o : Option X) → o ≡ None → IsSome o → ⊥
none_there {X = X} o none some = let both : IsSome {T = X} None = subst IsSome none some in cc

pub told_equal : (a b : ℕ) → nat_eq a b ≡ true → a ≡ b
told_equal a b told = elim (eqb_tells a b) [ inl same ↦ same.1 | inr apart ↦ absurd (cc (apart.0, told)) ]

-- ---- what holds of each element

pub all_map : {X : Type 0} (P Q : X → Type 0) → ((x : X) → P x → Q x) → (xs : List X) → AllByRecursion P xs →
    AllByRecursion Q xs
all_map P Q make [] all = tt
all_map P Q make (x ∷ xs) all = (make x all.0, all_map P Q make xs all.1)

pub all_left : {X : Type 0} (P : X → Type 0) (one other : List X) → AllByRecursion P (one ++ other) →
    AllByRecursion P one
all_left P [] other all = tt
all_left P (x ∷ one) other all = (all.0, all_left P one other all.1)

pub all_right : {X : Type 0} (P : X → Type 0) (one other : List X) → AllByRecursion P (one ++ other) →
    AllByRecursion P other
all_right P [] other all = all
all_right P (x ∷ one) other all = all_right P one other all.1

pub all_both : {X : Type 0} (P : X → Type 0) (one other : List X) → AllByRecursion P one → AllByRecursion P other →
    AllByRecursion P (one ++ other)
all_both P [] other first second = second
all_both P (x ∷ one) other first second = (first.0, all_both P one other first.1 second)
