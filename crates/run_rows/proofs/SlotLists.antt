-- Lists of lists, of which one is replaced.
use Rattle.std.proofs.Common.{◌≡◌, ◌≢◌, ◌∙◌, ℕ, zero, suc, ◌<◌, List, [], ◌∷◌, length, map, get_or, ap, sym, refl}
use Rattle.std.proofs.Common.{arith}
use Rattle.std.specs.Prelude.{slice_get, slice_set, unwrap_or}
use Rattle.std.proofs.lemmas.List.{map-set}
use Rattle.net_world.proofs.Present.{get_other}

-- the list at a place, and nothing past the end
abbrev pub list_at : {Y : Type 0} → List (List Y) → ℕ → List Y
list_at lists place = unwrap_or (slice_get lists place) []

pub made_at : {X Y : Type 0} (make : X → List Y) (items : List X) (place : ℕ) (d : X) → place < length items →
    list_at (map make items) place ≡ make (get_or items place d)
made_at make [] place d within = absurd (omega arith)
made_at make (x ∷ items) zero d within = refl
made_at make (x ∷ items) (suc place) d within = made_at make items place d (omega arith)

pub at_put : {Y : Type 0} (lists : List (List Y)) (place : ℕ) (one : List Y) → place < length lists →
    list_at (slice_set lists place one) place ≡ one
at_put [] place one within = absurd (omega arith)
at_put (list ∷ lists) zero one within = refl
at_put (list ∷ lists) (suc place) one within = at_put lists place one (omega arith)

pub at_beside : {Y : Type 0} (lists : List (List Y)) (place other : ℕ) (one : List Y) → other ≢ place →
    list_at (slice_set lists place one) other ≡ list_at lists other
at_beside {Y} lists place other one apart = ap (λ o. unwrap_or o []) (get_other lists place other one apart)

-- one of the items is replaced, of which a list is made
pub made_put : {X Y : Type 0} (make : X → List Y) (items : List X) (place : ℕ) (one : X) (lists : List (List Y)) →
    lists ≡ map make items → map make (slice_set items place one) ≡ slice_set lists place (make one)
made_put {X} {Y} make items place one lists is =
    map-set make items place one ∙ ap (λ (all : List (List Y)). slice_set all place (make one)) (sym is)

-- a list becomes what is made of it
pub slot_put : {X Y : Type 0} (make : X → List Y) (items : List X) (place : ℕ) (old one : X) (lists : List (List Y))
    (next : List Y → List Y) → lists ≡ map make items → place < length items → old ≡ get_or items place old →
    make one ≡ next (make old) →
    map make (slice_set items place one) ≡ slice_set lists place (next (list_at lists place))
slot_put {X} {Y} make items place old one lists next is within there becomes =
    let here : list_at lists place ≡ make old =
    ap (λ (all : List (List Y)). list_at all place) is ∙ made_at make items place old within ∙ ap make (sym there) in
    made_put make items place one lists is
    ∙ ap (λ (list : List Y). slice_set lists place list) (becomes ∙ ap next (sym here))
