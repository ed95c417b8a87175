-- A list is cut at the first of a separator in one way only.
use Rattle.std.proofs.Common.{◌≡◌, List, [], ◌∷◌, ◌++◌, refl, subst}
use Rattle.std.specs.Prelude.{Contains}
use Rattle.js_base.proofs.Lists.{Contains-at_head, Contains-tail, Contains-middle}

-- no cut where the separator is missing
pub no_cut : {X : Type 0} (c : X) (whole a x : List X) → ¬ Contains whole c → whole ≡ a ++ c ∷ x → ⊥
no_cut {X} c whole a x missing is =
    let P : List X → Type 0 = λ w. ¬ Contains w c in
    subst P is missing (Contains-middle a c x)

-- what stands before the first separator, and after it, is determined
pub same_cut : {X : Type 0} (c : X) (a b x y : List X) →
    ¬ Contains a c → ¬ Contains b c → a ++ c ∷ x ≡ b ++ c ∷ y → (a ≡ b) × (x ≡ y)
same_cut c [] [] x y a_lacks b_lacks is = (refl, cc)
same_cut c [] (k ∷ b) x y a_lacks b_lacks is = absurd (b_lacks (Contains-at_head k c b cc))
same_cut c (h ∷ a) [] x y a_lacks b_lacks is = absurd (a_lacks (Contains-at_head h c a cc))
same_cut c (h ∷ a) (k ∷ b) x y a_lacks b_lacks is =
    let heads : h ≡ k = cc in
    let tails : a ++ c ∷ x ≡ b ++ c ∷ y = cc in
    let rest =
    same_cut c a b x y (λ found. a_lacks (Contains-tail h a c found))
    (λ found. b_lacks (Contains-tail k b c found)) tails in
    let first = rest.0 in
    (cc, rest.1)
