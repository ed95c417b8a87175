-- Two cuts of one list.
use Rattle.std.proofs.Common.{◌≡◌, ℕ, ◌⊎◌, inl, inr, List, [], ◌∷◌, ◌++◌, refl, sym, ap, ◌∙◌}
use Rattle.std.proofs.lemmas.List.{append-nil}

-- one of the fronts goes on where the other ends
pub two_fronts : (a b x y : List ℕ) → a ++ x ≡ b ++ y →
    ((more : List ℕ) × (a ≡ b ++ more) × (y ≡ more ++ x)) ⊎ ((more : List ℕ) × (b ≡ a ++ more) × (x ≡ more ++ y))
two_fronts [] b x y same = inr (b, refl, same)
two_fronts (h ∷ a) [] x y same = inl (h ∷ a, refl, sym same)
two_fronts (h ∷ a) (k ∷ b) x y same =
    let heads : h ≡ k = cc in
    let tails : a ++ x ≡ b ++ y = cc in
    elim (two_fronts a b x y tails) [
      | inl w ↦ (let is : a ≡ b ++ w.0 = w.1 in let is' : h ∷ a ≡ k ∷ (b ++ w.0) = cc in inl (w.0, is', w.2))
      | inr w ↦ (let is : b ≡ a ++ w.0 = w.1 in let is' : k ∷ b ≡ h ∷ (a ++ w.0) = cc in inr (w.0, is', w.2))
    ]

-- where neither front may go on, they are the same, and so is what follows
pub same_front : (a b x y : List ℕ) → a ++ x ≡ b ++ y
    → ((more : List ℕ) → a ≡ b ++ more → y ≡ more ++ x → more ≡ [])
    → ((more : List ℕ) → b ≡ a ++ more → x ≡ more ++ y → more ≡ []) → (a ≡ b) × (x ≡ y)
same_front a b x y same first second =
    elim (two_fronts a b x y same) [
      | inl w ↦ (let none =
          first w.0 w.1 w.2 in
          (w.1 ∙ ap (λ (m : List ℕ). b ++ m) none ∙ append-nil b, sym (w.2 ∙ ap (λ (m : List ℕ). m ++ x) none)))
      | inr w ↦ (let none =
          second w.0 w.1 w.2 in
          (sym (w.1 ∙ ap (λ (m : List ℕ). a ++ m) none ∙ append-nil a), w.2 ∙ ap (λ (m : List ℕ). m ++ y) none))
    ]
