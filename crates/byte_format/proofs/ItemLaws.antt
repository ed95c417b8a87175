-- Laws of items one after another.
use Rattle.std.proofs.Common.{◌≡◌, ℕ, zero, suc, ◌^◌, ◌<◌, ◌≤◌, true, ◌&&◌, List, [], ◌∷◌, ◌++◌, length, take, Some}
use Rattle.std.proofs.Common.{refl, sym, ap, ◌∙◌, append_assoc, subst, arith}
use Rattle.std.specs.Prelude.{⊤, slice_get, All, nat_le}
use Rattle.std.specs.List.{flat_map, AllByRecursion}
use Rattle.std.proofs.lemmas.Bool.{and_parts, leb-true, le-leb}
use Rattle.std.proofs.lemmas.List.{append-nil}
use Rattle.std.proofs.lemmas.List.Elements.{All-from_recursion, recursion_from_All}
use Rattle.byte_format.specs.Numbers.{number_bytes}
use Rattle.byte_format.specs.Lists.{list_bytes}
use Rattle.byte_format.specs.Reader.{Reader, items_at, list_at}
use Rattle.byte_format.proofs.NumberLaws.{number_reads, number_again}
use Rattle.byte_format.proofs.Sequels.{Reads, Again, reads_then, reads_given, reads_weaker, again_then, again_given}

-- a fact for each item of a list behind some others, which may speak of what stands before it
abbrev pub AllIn : {A : Type 0} → (List A → A → Type 0) → List A → List A → Type 0
AllIn P before [] = ⊤
AllIn P before (x ∷ xs) = P before x × AllIn P (before ++ x ∷ []) xs

pub all_weaker : {A : Type 0} (P Q : List A → A → Type 0) → ((before : List A) (x : A) → P before x → Q before x) →
    (before xs : List A) → AllIn P before xs → AllIn Q before xs
all_weaker P Q step before [] all = tt
all_weaker P Q step before (x ∷ xs) all = (step before x all.0, all_weaker P Q step (before ++ x ∷ []) xs all.1)

pub each_by_recursion : {A : Type 0} (P : A → Type 0) (before xs : List A) → AllIn (λ _ x. P x) before xs →
    AllByRecursion P xs
each_by_recursion P before [] all = tt
each_by_recursion P before (x ∷ xs) all = (all.0, each_by_recursion P (before ++ x ∷ []) xs all.1)

pub all_of : {A : Type 0} (P : A → Type 0) (before xs : List A) → AllIn (λ _ x. P x) before xs → All P xs
all_of P before xs all = All-from_recursion P xs (each_by_recursion P before xs all)

pub in_by_recursion : {A : Type 0} (P : A → Type 0) (before xs : List A) → AllByRecursion P xs →
    AllIn (λ _ x. P x) before xs
in_by_recursion P before [] all = tt
in_by_recursion P before (x ∷ xs) all = (all.0, in_by_recursion P (before ++ x ∷ []) xs all.1)

pub in_all : {A : Type 0} (P : A → Type 0) (before xs : List A) → All P xs → AllIn (λ _ x. P x) before xs
in_all P before xs all = in_by_recursion P before xs (recursion_from_All P xs all)

-- the fact for the item at a place
pub at_place : {A : Type 0} (P : List A → A → Type 0) (before xs : List A) (at : ℕ) (x : A) → AllIn P before xs →
    slice_get xs at ≡ Some x → P (before ++ take at xs) x
at_place P before [] at x all is = absurd cc
at_place P before (y ∷ xs) zero x all is =
    let same : y ≡ x = cc in
    subst (λ z. P (before ++ []) z) same (subst (λ front. P front y) (sym (append-nil before)) all.0)
at_place P before (y ∷ xs) (suc at) x all is =
    subst (λ front. P front x) (append_assoc before (y ∷ []) (take at xs))
    (at_place P (before ++ y ∷ []) xs at x all.1 is)

-- each item by its place
pub by_place : {A : Type 0} (P : List A → A → Type 0) (whole : List A) →
    ((front : List A) (x : A) (back : List A) → front ++ x ∷ back ≡ whole → P front x) →
    (before xs : List A) → before ++ xs ≡ whole → AllIn P before xs
by_place P whole each before [] is = tt
by_place P whole each before (x ∷ xs) is =
    (each before x xs is, by_place P whole each (before ++ x ∷ []) xs (append_assoc before (x ∷ []) xs ∙ is))

-- ---- reading

-- what was read, behind what there was
pub record NewItems {A : Type 0} (s : A → List ℕ) (P : List A → A → Type 0) (before : List A) (count : ℕ)
    (all : List A) (text : List ℕ) : Type 0 where
  pub new : List A
  pub whole : all ≡ before ++ new
  pub count_is : length new ≡ count
  pub text_is : text ≡ flat_map s new
  pub each : AllIn P before new

pub items_read : {E A : Type 0} (item : List A → Reader E A) (s : A → List ℕ) (P : List A → A → Type 0) →
    ((before : List A) → Reads (item before) (λ x text. (text ≡ s x) × P before x)) → (before : List A) (count : ℕ) →
    Reads (items_at item before count) (NewItems s P before count)
unfolding items_at
items_read item s P one before zero =
    reads_given before (record {
      new = [];
      whole = sym (append-nil before);
      count_is = refl;
      text_is = refl;
      each =
          tt;
    })
items_read item s P one before (suc count) =
    reads_then (one before) (λ x is. reads_weaker (items_read item s P one (before ++ x ∷ []) count) (λ all text rest.
    record {
      new = x ∷ rest.new;
      whole = rest.whole ∙ append_assoc before (x ∷ []) rest.new;
      count_is = ap suc rest.count_is;
      text_is = ap (λ t. s x ++ t) rest.text_is;
      each = (is, rest.each);
    }))

pub all_read : {E A : Type 0} (item : List A → Reader E A) (s : A → List ℕ) (P : List A → A → Type 0) →
    ((before : List A) → Reads (item before) (λ x text. (text ≡ s x) × P before x)) → (count : ℕ) →
    Reads (items_at item [] count) (λ all text. (text ≡ flat_map s all) × ((length all ≡ count) × AllIn P [] all))
all_read item s P one count =
    reads_weaker (items_read item s P one [] count) (λ all text new. (
      new.text_is ∙ ap (flat_map s) (sym new.whole),
      (ap length new.whole ∙ new.count_is, subst (λ xs. AllIn P [] xs) (sym new.whole) new.each),
    ))

pub list_read : {E A : Type 0} (short : E) (item : List A → Reader E A) (s : A → List ℕ) (P : List A → A → Type 0) →
    ((before : List A) → Reads (item before) (λ x text. (text ≡ s x) × P before x)) →
    Reads (list_at short item) (λ all text. (text ≡ list_bytes s all) × ((length all < 2 ^ 32) × AllIn P [] all))
unfolding list_at
list_read short item s P one =
    reads_then (number_reads short) (λ count few. reads_weaker (all_read item s P one count) (λ all text is. (
      ap (λ t. number_bytes count ++ t) is.0 ∙ ap (λ n. number_bytes n ++ flat_map s all) (sym is.1.0),
      (subst (λ n. n < 2 ^ 32) (sym is.1.0) few, is.1.1),
    )))

-- ---- reading again

pub items_again : {E A : Type 0} (item : List A → Reader E A) (s : A → List ℕ) (before xs : List A) →
    AllIn (λ front x. Again (item front) x (s x)) before xs →
    Again (items_at item before (length xs)) (before ++ xs) (flat_map s xs)
unfolding items_at
items_again item s before [] all =
    subst (λ whole. Again (items_at item before 0) whole []) (sym (append-nil before)) (again_given before)
items_again item s before (x ∷ xs) all =
    subst (λ whole. Again (items_at item before (suc (length xs))) whole (s x ++ flat_map s xs))
    (append_assoc before (x ∷ []) xs)
    (again_then (λ next. items_at item (before ++ next ∷ []) (length xs)) all.0
    (items_again item s (before ++ x ∷ []) xs all.1))

pub list_again : {E A : Type 0} (short : E) (item : List A → Reader E A) (s : A → List ℕ) (xs : List A) →
    length xs < 2 ^ 32 →
    AllIn (λ front x. Again (item front) x (s x)) [] xs → Again (list_at short item) xs (list_bytes s xs)
unfolding list_at
list_again short item s xs few all =
    again_then (λ count. items_at item [] count) (number_again short (length xs) few) (items_again item s [] xs all)

-- ---- counts that have to be within two ends

pub counted_within : {A : Type 0} (low high count : ℕ) (xs : List A) → length xs ≡ count →
    (nat_le low count && nat_le count high) ≡ true → (low ≤ length xs) × (length xs ≤ high)
counted_within low high count xs is within =
    let parts = and_parts (nat_le low count) (nat_le count high) within in
    let some : low ≤ count = leb-true _ _ parts.0 in
    let most : count ≤ high = leb-true _ _ parts.1 in
    (omega (arith, is, some), omega (arith, is, most))

pub within_again : (low high count : ℕ) → low ≤ count → count ≤ high →
    (nat_le low count && nat_le count high) ≡ true
within_again low high count some most = rw (le-leb low count some, le-leb count high most) refl
