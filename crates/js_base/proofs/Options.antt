-- What may be there.
use Rattle.std.proofs.Common.{◌≡◌, ◌⊎◌, ◌∙◌, inl, inr, Option, Some, None, refl, sym}

pub some_or_none : {X : Type 0} (found : Option X) → (found ≡ None) ⊎ ((x : X) × (found ≡ Some x))
some_or_none None = inl refl
some_or_none (Some x) = inr (x, refl)

pub some_same : {X : Type 0} (found : Option X) (x y : X) → found ≡ Some x → found ≡ Some y → x ≡ y
some_same found x y first second = let both : Some x ≡ Some y = sym first ∙ second in cc
