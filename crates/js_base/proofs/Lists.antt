-- Lists in general.
use Rattle.std.proofs.Common.{◌≡◌, ℕ, suc, ◌<◌, Bool, true, List, [], ◌∷◌, ◌++◌, length, get_or, drop, Some}
use Rattle.std.proofs.Common.{refl, ap, sym, ◌∙◌, arith}
use Rattle.std.specs.Prelude.{Contains, position, slice_get}
use Rattle.std.specs.List.{AllZip}
use Rattle.std.proofs.Math.Seq.{drop-cons}
use Rattle.std.proofs.lemmas.Option.{slice_get-get_or}
use Rattle.std.proofs.lemmas.List.Quantifiers.{position-Some}

-- ---- elements

pub Contains-at_head : {X : Type 0} (x c : X) (xs : List X) → x ≡ c → Contains (x ∷ xs) c
Contains-at_head x c xs same = (0, omega arith, same)

pub Contains-tail : {X : Type 0} (x : X) (xs : List X) (c : X) → Contains xs c → Contains (x ∷ xs) c
Contains-tail x xs c found = (suc found.0, omega (arith, found.1), found.2)

pub Contains-middle : {X : Type 0} (a : List X) (c : X) (x : List X) → Contains (a ++ c ∷ x) c
Contains-middle [] c x = (0, omega arith, refl)
Contains-middle (h ∷ a) c x = Contains-tail h (a ++ c ∷ x) c (Contains-middle a c x)

-- the element at a first place, and that it passes the test
pub first_passing : {X : Type 0} (p : X → Bool) (xs : List X) (place : ℕ) → position p xs ≡ Some place →
    (x : X) × (slice_get xs place ≡ Some x) × (p x ≡ true)
first_passing p [] place is = absurd (cc)
first_passing p (first ∷ xs) place is =
    let at = position-Some p (first ∷ xs) place first is in
    (get_or (first ∷ xs) place first, slice_get-get_or (first ∷ xs) place first at.0, at.1)

-- ---- two lists in step

pub zip_push : {X Y : Type 0} (R : X → Y → Type 0) (xs : List X) (ys : List Y) (x : X) (y : Y) →
    AllZip R xs ys → R x y → AllZip R (xs ++ x ∷ []) (ys ++ y ∷ [])
zip_push R [] [] x y all last = (last, tt)
zip_push R [] (w ∷ ys) x y all last = absurd all
zip_push R (z ∷ xs) [] x y all last = absurd all
zip_push R (z ∷ xs) (w ∷ ys) x y all last = (all.0, zip_push R xs ys x y all.1 last)

-- each element of the first list has one of the second
pub zip_at : {X Y : Type 0} (R : X → Y → Type 0) (before : List X) (x : X) (after : List X) (ys : List Y) →
    AllZip R (before ++ x ∷ after) ys → (y : Y) × R x y
zip_at R [] x after [] all = absurd all
zip_at R [] x after (y ∷ ys) all = (y, all.0)
zip_at R (z ∷ before) x after [] all = absurd all
zip_at R (z ∷ before) x after (y ∷ ys) all = zip_at R before x after ys all.1

-- what stands for each element of a list is determined, where it is for each element
pub one_zipped : {X Y : Type 0} (R : X → Y → Type 0) → ((x : X) (y z : Y) → R x y → R x z → y ≡ z) →
    (xs : List X) (ys zs : List Y) → AllZip R xs ys → AllZip R xs zs → ys ≡ zs
one_zipped R one [] [] [] first second = refl
one_zipped R one [] [] (z ∷ zs) first second = absurd second
one_zipped R one [] (y ∷ ys) zs first second = absurd first
one_zipped R one (x ∷ xs) [] zs first second = absurd first
one_zipped R one (x ∷ xs) (y ∷ ys) [] first second = absurd second
one_zipped R one (x ∷ xs) (y ∷ ys) (z ∷ zs) first second =
    ap (λ w. w ∷ ys) (one x y z first.0 second.0) ∙ ap (λ ws. z ∷ ws) (one_zipped R one xs ys zs first.1 second.1)

-- ---- what is left of a list

-- the items that are left begin with the next
pub next_of : {X : Type 0} (items : List X) (place : ℕ) (item : X) → place < length items →
    item ≡ get_or items place item → drop place items ≡ item ∷ drop (suc place) items
next_of {X = X} items place item within is =
    drop-cons items place item within ∙ ap (λ (next : X). next ∷ drop (suc place) items) (sym is)

-- ---- lists of nothing

pub none_joined : {X : Type 0} (xs ys : List X) → xs ≡ [] → ys ≡ [] → xs ++ ys ≡ []
none_joined xs ys one two = ap (λ r. r ++ ys) one ∙ two

pub none_in_two : {X : Type 0} (xs ys : List X) → xs ++ ys ≡ [] → (xs ≡ []) × (ys ≡ [])
none_in_two [] ys none = (refl, none)
none_in_two (x ∷ xs) ys none = absurd cc

pub none_in_three : {X : Type 0} (xs ys zs : List X) → xs ++ ys ++ zs ≡ [] → (xs ≡ []) × (ys ≡ []) × (zs ≡ [])
none_in_three xs ys zs none =
    let outer = none_in_two (xs ++ ys) zs none in
    let inner = none_in_two xs ys outer.0 in
    (inner.0, inner.1, outer.1)

pub none_in_four : {X : Type 0} (xs ys zs ws : List X) → xs ++ ys ++ zs ++ ws ≡ [] →
    (xs ≡ []) × (ys ≡ []) × (zs ≡ []) × (ws ≡ [])
none_in_four xs ys zs ws none =
    let outer = none_in_two (xs ++ ys ++ zs) ws none in
    let inner = none_in_three xs ys zs outer.0 in
    (inner.0, inner.1, inner.2, outer.1)

pub none_in_six : {X : Type 0} (us vs xs ys zs ws : List X) → us ++ vs ++ xs ++ ys ++ zs ++ ws ≡ [] →
    (us ≡ []) × (vs ≡ []) × (xs ≡ []) × (ys ≡ []) × (zs ≡ []) × (ws ≡ [])
none_in_six us vs xs ys zs ws none =
    let outer = none_in_three (us ++ vs ++ xs ++ ys) zs ws none in
    let inner = none_in_four us vs xs ys outer.0 in
    (inner.0, inner.1, inner.2, inner.3, outer.1, outer.2)
