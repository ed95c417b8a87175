-- Lists of which something holds of each element, and lists of which one element is set or that have one more.
use Rattle.std.proofs.Common.{◌≡◌, ◌≢◌, ap, refl, subst, inl, inr, ℕ, zero, suc, List, [], ◌∷◌, ◌++◌, length, Any, Some}
use Rattle.std.proofs.Common.{slice_get, slice_set}
use Rattle.std.specs.List.{AllByRecursion, AllZip}
use Rattle.need_labels.proofs.Somewhere.{any_here, any_later, any_first, any_none}

-- ---- some element, and each

pub any_also : {X : Type 0} (P Q : X → Type 0) → ((x : X) → P x → Q x) → (xs : List X) → Any P xs → Any Q xs
any_also P Q also [] some = absurd (any_none P some)
any_also P Q also (x ∷ xs) some = elim (any_first P x xs some) [
  | inl holds ↦ any_here Q x xs (also x holds)
  | inr later ↦ any_later Q x xs (any_also P Q also xs later)
]

pub all_first : {X : Type 0} (P : X → Type 0) (xs ys : List X) → AllByRecursion P (xs ++ ys) → AllByRecursion P xs
all_first P [] ys all = tt
all_first P (x ∷ xs) ys all = (all.0, all_first P xs ys all.1)

pub all_second : {X : Type 0} (P : X → Type 0) (xs ys : List X) → AllByRecursion P (xs ++ ys) → AllByRecursion P ys
all_second P [] ys all = all
all_second P (x ∷ xs) ys all = all_second P xs ys all.1

pub all_both : {X : Type 0} (P : X → Type 0) (xs ys : List X) → AllByRecursion P xs → AllByRecursion P ys →
    AllByRecursion P (xs ++ ys)
all_both P [] ys one two = two
all_both P (x ∷ xs) ys one two = (one.0, all_both P xs ys one.1 two)

-- ---- by places

pub each_there : {X : Type 0} (P : X → Type 0) (xs : List X) →
    ((place : ℕ) (x : X) → slice_get xs place ≡ Some x → P x) → AllByRecursion P xs
each_there P [] each = tt
each_there P (x ∷ xs) each = (each 0 x refl, each_there P xs (λ place y there. each (suc place) y there))

pub one_there : {X : Type 0} (P : X → Type 0) (xs : List X) → AllByRecursion P xs → (place : ℕ) (x : X) →
    slice_get xs place ≡ Some x → P x
one_there P [] all place x there = absurd (cc)
one_there P (y ∷ xs) all zero x there =
    let same : y ≡ x = cc in
    subst P same all.0
one_there P (y ∷ xs) all (suc place) x there = one_there P xs all.1 place x there

pub zipped_there : {X Y : Type 0} (P : X → Y → Type 0) (xs : List X) (ys : List Y) → AllZip P xs ys → (place : ℕ)
    (x : X) → slice_get xs place ≡ Some x → (y : Y) × (slice_get ys place ≡ Some y) × P x y
zipped_there P [] ys all place x there = absurd (cc)
zipped_there P (x ∷ xs) [] all place z there = absurd all
zipped_there P (x ∷ xs) (y ∷ ys) all zero z there =
    let same : x ≡ z = cc in
    let Q : _ → Type 0 = λ it. P it y in
    (y, refl, subst Q same all.0)
zipped_there P (x ∷ xs) (y ∷ ys) all (suc place) z there = zipped_there P xs ys all.1 place z there

-- ---- one element is set

pub set_there : {X : Type 0} (xs : List X) (place : ℕ) (old new : X) → slice_get xs place ≡ Some old →
    slice_get (slice_set xs place new) place ≡ Some new
set_there [] place old new there = absurd (cc)
set_there (x ∷ xs) zero old new there = refl
set_there (x ∷ xs) (suc place) old new there = set_there xs place old new there

pub set_elsewhere : {X : Type 0} (xs : List X) (place other : ℕ) (new : X) → other ≢ place →
    slice_get (slice_set xs place new) other ≡ slice_get xs other
set_elsewhere [] place other new apart = refl
set_elsewhere (x ∷ xs) zero zero new apart = absurd (apart refl)
set_elsewhere (x ∷ xs) (suc place) zero new apart = refl
set_elsewhere (x ∷ xs) zero (suc other) new apart = refl
set_elsewhere (x ∷ xs) (suc place) (suc other) new apart =
    set_elsewhere xs place other new (λ same. apart (ap suc same))

-- ---- one element more

pub still_there : {X : Type 0} (xs : List X) (new x : X) (place : ℕ) → slice_get xs place ≡ Some x →
    slice_get (xs ++ new ∷ []) place ≡ Some x
still_there [] new x place there = absurd (cc)
still_there (y ∷ xs) new x zero there = there
still_there (y ∷ xs) new x (suc place) there = still_there xs new x place there

pub last_there : {X : Type 0} (xs : List X) (new : X) → slice_get (xs ++ new ∷ []) (length xs) ≡ Some new
last_there [] new = refl
last_there (x ∷ xs) new = last_there xs new
