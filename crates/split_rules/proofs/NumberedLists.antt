-- Lists of which each item is made with its place.
use Rattle.std.proofs.Common.{◌≡◌, ◌∙◌, ℕ, zero, suc, ◌+◌, ◌<◌, inl, inr, List, [], ◌∷◌, length}
use Rattle.std.proofs.Common.{Some, slice_get, All, refl, ap, subst, arith, sum_by}
use Rattle.std.specs.List.{zip, range_with_len}
use Rattle.std.proofs.lemmas.List.FromFn.{length-range_with_len, get_or-range_with_len}
use Rattle.std.proofs.lemmas.List.Sums.{sum_by-cons}
use Rattle.std.proofs.lemmas.Option.{slice_get-get_or, slice_get_cases, slice_get_within, get_or_from_slice_get}

abbrev pub numbered : {X Y : Type 0} → (ℕ → X → Y) → ℕ → List X → List Y
numbered make number [] = []
numbered make number (x ∷ xs) = make number x ∷ numbered make (suc number) xs

pub length-numbered : {X Y : Type 0} (make : ℕ → X → Y) (number : ℕ) (xs : List X) →
    length (numbered make number xs) ≡ length xs
length-numbered make number [] = refl
length-numbered make number (x ∷ xs) = ap suc (length-numbered make (suc number) xs)

pub numbered_at : {X Y : Type 0} (make : ℕ → X → Y) (number : ℕ) (xs : List X) (place : ℕ) (x : X) →
    slice_get xs place ≡ Some x → slice_get (numbered make number xs) place ≡ Some (make (number + place) x)
numbered_at make number [] place x there = absurd (cc)
numbered_at make number (first ∷ xs) zero x there =
    let same : first ≡ x = cc in
    let sum : number ≡ number + 0 = omega arith in
    ap (λ one. Some (make number one)) same ∙ ap (λ at. Some (make at x)) sum
numbered_at make number (first ∷ xs) (suc place) x there =
    let sum : suc number + place ≡ number + suc place = omega arith in
    numbered_at make (suc number) xs place x there ∙ ap (λ at. Some (make at x)) sum

-- an item, and what it was made of
pub record Made {X Y : Type 0} (make : ℕ → X → Y) (xs : List X) (place : ℕ) (y : Y) : Type 0 where
  pub of : X
  pub there : slice_get xs place ≡ Some of
  pub is : y ≡ make place of

pub made : {X Y : Type 0} (make : ℕ → X → Y) (xs : List X) (place : ℕ) (y : Y) →
    slice_get (numbered make 0 xs) place ≡ Some y → Made make xs place y
made make xs place y there =
    let within = slice_get_within (numbered make 0 xs) place y there in
    let long = length-numbered make 0 xs in
    elim ((slice_get_cases xs place).1) [
      | inl found ↦
          let so = numbered_at make 0 xs place found.0 found.2 in
          let sum : 0 + place ≡ place = omega arith in
          let same : y ≡ make (0 + place) found.0 = cc in
          record { of = found.0; there = found.2; is = same ∙ ap (λ at. make at found.0) sum }
      | inr past ↦ let over = past.0 in absurd (omega arith)
    ]

pub sum_by-numbered : {X Y : Type 0} (make : ℕ → X → Y) (size : X → ℕ) (made_size : Y → ℕ) (number : ℕ) (xs : List X) →
    ((at : ℕ) (x : X) → made_size (make at x) ≡ size x) →
    sum_by made_size (numbered make number xs) ≡ sum_by size xs
sum_by-numbered make size made_size number [] same = refl
sum_by-numbered make size made_size number (x ∷ xs) same =
    let first = sum_by-cons made_size (make number x) (numbered make (suc number) xs) in
    let also = sum_by-cons size x xs in
    let one = same number x in
    let so = sum_by-numbered make size made_size (suc number) xs same in
    omega arith

-- ---- all items

pub all_at : {X : Type 0} (P : X → Type 0) (xs : List X) → ((place : ℕ) (x : X) → slice_get xs place ≡ Some x → P x) →
    All P xs
all_at P xs so = λ place default within. so place _ (slice_get-get_or xs place default within)

pub at_all : {X : Type 0} (P : X → Type 0) (xs : List X) (place : ℕ) (x : X) → All P xs →
    slice_get xs place ≡ Some x → P x
at_all P xs place x all there =
    subst P (get_or_from_slice_get xs place x x there) (all place x (slice_get_within xs place x there))

-- ---- pairs and numbers

pub length-zip : {X Y : Type 0} (xs : List X) (ys : List Y) → length ys ≡ length xs → length (zip xs ys) ≡ length xs
length-zip [] [] same = refl
length-zip [] (y ∷ ys) same = absurd (omega arith)
length-zip (x ∷ xs) [] same = absurd (omega arith)
length-zip (x ∷ xs) (y ∷ ys) same = ap suc (length-zip xs ys (omega arith))

pub zip_there : {X Y : Type 0} (xs : List X) (ys : List Y) (place : ℕ) (both : X × Y) →
    slice_get (zip xs ys) place ≡ Some both → (slice_get xs place ≡ Some both.0) × (slice_get ys place ≡ Some both.1)
zip_there [] [] place both there = absurd (cc)
zip_there [] (y ∷ ys) place both there = absurd (cc)
zip_there (x ∷ xs) [] place both there = absurd (cc)
zip_there (x ∷ xs) (y ∷ ys) zero both there =
    let same : (x, y) ≡ both = cc in
    (ap (λ one. Some one.0) same, ap (λ one. Some one.1) same)
zip_there (x ∷ xs) (y ∷ ys) (suc place) both there = zip_there xs ys place both there

pub number_there : (count place : ℕ) → place < count → slice_get (range_with_len 0 count) place ≡ Some place
number_there count place within =
    let long = length-range_with_len 0 count in
    let sum : 0 + place ≡ place = omega arith in
    slice_get-get_or (range_with_len 0 count) place 0 (omega arith)
    ∙ ap Some (get_or-range_with_len 0 count place 0 within ∙ sum)
