-- Each label of an emission, a field or a variable has its place among the labels of the code.
use Rattle.std.proofs.Common.{◌≡◌, ◌∙◌, ℕ, zero, suc, ◌+◌, ◌<◌, ◌⊎◌, inl, inr, Bool, true, false, List, [], ◌∷◌, ◌++◌}
use Rattle.std.proofs.Common.{length, Some, slice_get, if◌then◌else◌, ◌&&◌, ◌||◌, nat_eq, refl, ap, sym, subst}
use Rattle.std.proofs.Common.{arith, eq-eqb, eqb-true}
use Rattle.std.specs.List.{list_any, flat_map}
use Rattle.std.proofs.Math.Bool.{or-true}
use Rattle.std.proofs.lemmas.List.Folds.{list_any-append}
use Rattle.label_lattice.specs.declared.label.Label.{Label}
use Rattle.split_rules.specs.Emissions.{Emission}
use Rattle.split_rules.specs.SplitCode.{same_words, same_label, with_labels, label_place, label_of_emission}

-- ---- labels among labels

abbrev pub IsLabelIn : Label → List Label → Type 0
IsLabelIn label [] = ⊥
IsLabelIn label (first ∷ others) = (first ≡ label) ⊎ IsLabelIn label others

pub label_left : (label : Label) (front more : List Label) → IsLabelIn label front → IsLabelIn label (front ++ more)
label_left label [] more among = absurd among
label_left label (first ∷ front) more (inl same) = inl same
label_left label (first ∷ front) more (inr later) = inr (label_left label front more later)

pub label_right : (label : Label) (front more : List Label) → IsLabelIn label more → IsLabelIn label (front ++ more)
label_right label [] more among = among
label_right label (first ∷ front) more among = inr (label_right label front more among)

pub label_at : (labels : List Label) (place : ℕ) (label : Label) → slice_get labels place ≡ Some label →
    IsLabelIn label labels
label_at [] place label there = absurd (cc)
label_at (first ∷ labels) zero label there = inl (let same : first ≡ label = cc in same)
label_at (first ∷ labels) (suc place) label there = inr (label_at labels place label there)

pub label_of_one : (label : Label) (front : List Emission) (emission : Emission) (more : List Emission) →
    IsLabelIn label (label_of_emission emission) →
    IsLabelIn label (flat_map label_of_emission (front ++ emission ∷ more))
label_of_one label [] emission more among =
    label_left label (label_of_emission emission) (flat_map label_of_emission more) among
label_of_one label (first ∷ front) emission more among =
    label_right label (label_of_emission first) (flat_map label_of_emission (front ++ emission ∷ more))
    (label_of_one label front emission more among)

-- ---- the same label

words_themselves : (words : List ℕ) → same_words words words ≡ true
words_themselves [] = refl
words_themselves (word ∷ words) = rw (eq-eqb word word refl) (words_themselves words)

label_itself : (label : Label) → same_label label label ≡ true
label_itself label = rw (words_themselves label.rows) (eq-eqb label.trust label.trust refl)

either_way : {X : Type 0} (P : X → Type 0) (test : Bool) (one other : X) → P one → P other →
    P (if test then one else other)
either_way P true one other first second = first
either_way P false one other first second = second

-- ---- labels that are there stay there

with_one_more : (label : Label) (there : List Label) (test : Label → Bool) → list_any test there ≡ true →
    list_any test (there ++ label ∷ []) ≡ true
with_one_more label there test found =
    list_any-append test there (label ∷ []) ∙ ap (λ any. any || list_any test (label ∷ [])) found

with_itself : (label : Label) (there : List Label) → list_any (same_label label) (there ++ label ∷ []) ≡ true
with_itself label there =
    list_any-append (same_label label) there (label ∷ [])
    ∙ ap (λ same. list_any (same_label label) there || (same || false)) (label_itself label)
    ∙ or-true (list_any (same_label label) there)

stays : (test : Label → Bool) (there needed : List Label) → list_any test there ≡ true →
    list_any test (with_labels there needed) ≡ true
stays test there [] found = found
stays test there (label ∷ needed) found =
    let P : List Label → Type 0 = λ labels. list_any test labels ≡ true in
    either_way P (list_any (same_label label) there) (with_labels there needed)
    (with_labels (there ++ label ∷ []) needed) (stays test there needed found)
    (stays test (there ++ label ∷ []) needed (with_one_more label there test found))

added : (label : Label) (there needed : List Label) (test : Bool) → list_any (same_label label) there ≡ test →
    list_any (same_label label)
    (if test then with_labels there needed else with_labels (there ++ label ∷ []) needed) ≡ true
added label there needed true found = stays (same_label label) there needed found
added label there needed false missing = stays (same_label label) (there ++ label ∷ []) needed (with_itself label there)

is_there : (label : Label) (there needed : List Label) → IsLabelIn label needed →
    list_any (same_label label) (with_labels there needed) ≡ true
is_there label there [] among = absurd among
is_there label there (first ∷ needed) (inl same) =
    subst (λ (one : Label). list_any (same_label one) (with_labels there (first ∷ needed)) ≡ true) same
    (added first there needed (list_any (same_label first) there) refl)
is_there label there (first ∷ needed) (inr later) =
    let P : List Label → Type 0 = λ labels. list_any (same_label label) labels ≡ true in
    either_way P (list_any (same_label first) there) (with_labels there needed)
    (with_labels (there ++ first ∷ []) needed) (is_there label there needed later)
    (is_there label (there ++ first ∷ []) needed later)

-- ---- places

place_below : (same any : Bool) (number rest count : ℕ) → (same || any) ≡ true →
    (any ≡ true → rest < suc number + count) → (if same then number else rest) < number + suc count
place_below true any number rest count found later = omega arith
place_below false any number rest count found later = let so = later found in omega arith

place_within : (number : ℕ) (label : Label) (labels : List Label) → list_any (same_label label) labels ≡ true →
    label_place number label labels < number + length labels
place_within number label [] found = absurd (cc)
place_within number label (first ∷ labels) found =
    place_below (same_label label first) (list_any (same_label label) labels) number
    (label_place (suc number) label labels) (length labels) found (place_within (suc number) label labels)

pub label_there : (label : Label) (needed : List Label) → IsLabelIn label needed →
    label_place 0 label (with_labels [] needed) < length (with_labels [] needed)
label_there label needed among =
    let so = place_within 0 label (with_labels [] needed) (is_there label [] needed among) in
    omega arith

-- ---- what is at a place

both_hold : (first second : Bool) → (first && second) ≡ true → (first ≡ true) × (second ≡ true)
both_hold true second both = (refl, both)
both_hold false second both = absurd (cc)

words_same : (one other : List ℕ) → same_words one other ≡ true → one ≡ other
words_same [] [] same = refl
words_same [] (word ∷ words) same = absurd (cc)
words_same (word ∷ words) [] same = absurd (cc)
words_same (word ∷ words) (other ∷ others) same =
    let both = both_hold (nat_eq word other) (same_words words others) same in
    ap (λ first. first ∷ words) (eqb-true word other both.0) ∙ ap (λ more. other ∷ more)
    (words_same words others both.1)

labels_same : (one other : Label) → same_label one other ≡ true → one ≡ other
labels_same one other same =
    let both = both_hold (same_words one.rows other.rows) (nat_eq one.trust other.trust) same in
    let label : List ℕ → ℕ → Label = λ rows trust. record { rows = rows; trust = trust } in
    ap (λ rows. label rows one.trust) (words_same one.rows other.rows both.0)
    ∙ ap (λ trust. label other.rows trust) (eqb-true one.trust other.trust both.1)

place_counted : (number : ℕ) (label : Label) (labels : List Label) → list_any (same_label label) labels ≡ true →
    (place : ℕ) × (label_place number label labels ≡ number + place) × (slice_get labels place ≡ Some label)
place_counted number label [] found = absurd (cc)
place_counted number label (first ∷ labels) found =
    by (same_label label first) refl found (place_counted (suc number) label labels)
  where
    by : (b : Bool) → same_label label first ≡ b → (b || list_any (same_label label) labels) ≡ true →
        (list_any (same_label label) labels ≡ true → (place : ℕ)
        × (label_place (suc number) label labels ≡ suc number + place) × (slice_get labels place ≡ Some label)) →
        (place : ℕ) × ((if b then number else label_place (suc number) label labels) ≡ number + place)
        × (slice_get (first ∷ labels) place ≡ Some label)
    by true same any later = (0, omega arith, ap Some (sym (labels_same label first same)))
    by false same any later =
        let so = later any in
        let sum = so.1 in
        (suc so.0, omega arith, so.2)

-- a label that is needed is at its place
pub label_placed : (label : Label) (needed : List Label) → IsLabelIn label needed →
    slice_get (with_labels [] needed) (label_place 0 label (with_labels [] needed)) ≡ Some label
label_placed label needed among =
    let so = place_counted 0 label (with_labels [] needed) (is_there label [] needed among) in
    let place : label_place 0 label (with_labels [] needed) ≡ so.0 = let sum = so.1 in omega arith in
    ap (slice_get (with_labels [] needed)) place ∙ so.2
