-- Lists of what is made of items by what is seen of them.
use Rattle.std.proofs.Common.{◌≡◌, List, [], ◌∷◌, map, refl, ap, ◌∙◌}

-- what is made of all items is made of what is seen of them
pub map_seen : {A B C : Type 0} (make : A → C) (see : A → B) (make_seen : B → C) →
    ((x : A) → make x ≡ make_seen (see x)) → (xs : List A) → map make xs ≡ map make_seen (map see xs)
map_seen make see make_seen same [] = refl
map_seen {A} {B} {C} make see make_seen same (x ∷ xs) =
    ap (λ (first : C). first ∷ map make xs) (same x)
    ∙ ap (λ (rest : List C). make_seen (see x) ∷ rest) (map_seen make see make_seen same xs)
