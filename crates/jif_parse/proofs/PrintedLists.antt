-- Lists of no faults.
use Rattle.std.proofs.Common.{◌≡◌, ℕ, Bool, true, false, List, [], ◌∷◌, ◌++◌, refl, ap, ◌∙◌}
use Rattle.js_base.proofs.Lists.{none_joined}
use Rattle.jif_resolve.specs.declared.fault.FaultKind.{FaultKind}
use Rattle.jif_resolve.specs.Faults.{fault_where}

pub none_where : (wrong : Bool) (kind : FaultKind) (at : ℕ) → fault_where wrong kind at ≡ [] → wrong ≡ false
none_where false kind at none = refl
none_where true kind at none = absurd cc

pub six_joined : {X : Type 0} (us vs xs ys zs ws : List X) → us ≡ [] → vs ≡ [] → xs ≡ [] → ys ≡ [] → zs ≡ [] → ws ≡ [] →
    us ++ vs ++ xs ++ ys ++ zs ++ ws ≡ []
six_joined us vs xs ys zs ws one two three four five six =
    none_joined (us ++ vs ++ xs ++ ys ++ zs) ws (none_joined (us ++ vs ++ xs ++ ys) zs
    (none_joined (us ++ vs ++ xs) ys (none_joined (us ++ vs) xs (none_joined us vs one two) three) four) five) six
