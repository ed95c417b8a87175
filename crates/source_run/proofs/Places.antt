-- Lists by place: what a changed, an added and a left out item do to the others.
use Rattle.std.proofs.Common.{◌≡◌, ℕ, zero, suc, ◌<◌, ◌≢◌, List, [], ◌∷◌, ◌++◌, length}
use Rattle.std.proofs.Common.{take, refl, ap, arith}
use Rattle.std.proofs.Common.{Some}
use Rattle.std.specs.Prelude.{slice_get, slice_set}

pub get-set_same : {X : Type 0} (xs : List X) (i : ℕ) (x : X) → i < length xs
    → slice_get (slice_set xs i x) i ≡ Some x
get-set_same [] i x within = absurd (omega arith)
get-set_same (y ∷ xs) zero x within = refl
get-set_same (y ∷ xs) (suc i) x within = get-set_same xs i x (omega arith)

pub get-set_other : {X : Type 0} (xs : List X) (i j : ℕ) (x : X) → j ≢ i
    → slice_get (slice_set xs i x) j ≡ slice_get xs j
get-set_other [] i j x differ = refl
get-set_other (y ∷ xs) zero zero x differ = absurd (differ refl)
get-set_other (y ∷ xs) zero (suc j) x differ = refl
get-set_other (y ∷ xs) (suc i) zero x differ = refl
get-set_other (y ∷ xs) (suc i) (suc j) x differ = get-set_other xs i j x (λ same. differ (ap suc same))

pub get-before : {X : Type 0} (xs : List X) (x : X) (i : ℕ) → i < length xs
    → slice_get (xs ++ x ∷ []) i ≡ slice_get xs i
get-before [] x i within = absurd (omega arith)
get-before (y ∷ xs) x zero within = refl
get-before (y ∷ xs) x (suc i) within = get-before xs x i (omega arith)

pub get-added : {X : Type 0} (xs : List X) (x : X) → slice_get (xs ++ x ∷ []) (length xs) ≡ Some x
get-added [] x = refl
get-added (y ∷ xs) x = get-added xs x

pub get-take : {X : Type 0} (n : ℕ) (xs : List X) (i : ℕ) → i < n → slice_get (take n xs) i ≡ slice_get xs i
get-take zero xs i within = absurd (omega arith)
get-take (suc n) [] i within = refl
get-take (suc n) (x ∷ xs) zero within = refl
get-take (suc n) (x ∷ xs) (suc i) within = get-take n xs i (omega arith)

-- an item within a list is there
pub is_there : {X : Type 0} (xs : List X) (i : ℕ) → i < length xs → (x : X) × (slice_get xs i ≡ Some x)
is_there [] i within = absurd (omega arith)
is_there (x ∷ xs) zero within = (x, refl)
is_there (x ∷ xs) (suc i) within = is_there xs i (omega arith)
