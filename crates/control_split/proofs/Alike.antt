-- How labels are compared, and where one is found.
use Rattle.std.proofs.Common.{◌≡◌, ℕ, suc, ◌+◌, ◌<◌, ◌≤◌, Bool, true, false, ◌&&◌, nat_eq, nat_lt}
use Rattle.std.proofs.Common.{List, [], ◌∷◌, ◌++◌, length, get_or}
use Rattle.std.proofs.Common.{refl, sym, ap, subst, ◌∙◌, ◌⊎◌, inl, inr, arith}
use Rattle.std.specs.Prelude.{if◌then◌else◌}
use Rattle.std.specs.List.{list_any, position_or_len}
use Rattle.std.proofs.lemmas.Bool.{eqb-true, eq-eqb, ltb-true, lt-ltb, cases_lt}
use Rattle.std.proofs.lemmas.List.{get_or_default}
use Rattle.std.proofs.Math.Seq.{get_or-append_seam}
use Rattle.std.specs.Cmp.Lexicographic.{pointwise}
use Rattle.label_lattice.specs.declared.label.Label.{Label}
use Rattle.label_lattice.specs.Lattice.{empty_label}
use Rattle.split_rules.specs.SplitCode.{same_words, same_label, label_place, with_labels}
use Rattle.control_split.specs.Trace.{is_at, IsNamedLast}

words_compared : (first second : List ℕ) → pointwise nat_eq first second ≡ same_words first second
words_compared [] [] = refl
words_compared [] (word ∷ words) = refl
words_compared (word ∷ words) [] = refl
words_compared (word ∷ words) (other ∷ others) =
    ap (λ (rest : Bool). nat_eq word other && rest) (words_compared words others)

pub compared : (first second : Label) →
    (pointwise nat_eq first.rows second.rows && nat_eq first.trust second.trust) ≡ same_label first second
compared first second =
    ap (λ (rows : Bool). rows && nat_eq first.trust second.trust) (words_compared first.rows second.rows)

-- ---- labels that are alike are the same

and_true : (first second : Bool) → (first && second) ≡ true → (first ≡ true) × (second ≡ true)
and_true true second both = (refl, both)
and_true false second both = absurd (grind (arith, both))

words_same : (first second : List ℕ) → same_words first second ≡ true → first ≡ second
words_same [] [] alike = refl
words_same [] (word ∷ words) alike = absurd (grind (arith, alike))
words_same (word ∷ words) [] alike = absurd (grind (arith, alike))
words_same (word ∷ words) (other ∷ others) alike =
    let both = and_true (nat_eq word other) (same_words words others) alike in
    rw (eqb-true word other both.0, words_same words others both.1) refl

pub label_same : (first second : Label) → same_label first second ≡ true → first ≡ second
label_same first second alike =
    let both = and_true (same_words first.rows second.rows) (nat_eq first.trust second.trust) alike in
    rw (words_same first.rows second.rows both.0, eqb-true first.trust second.trust both.1) refl

-- ---- where a label is

pub true_or_false : (b : Bool) → (b ≡ true) ⊎ (b ≡ false)
true_or_false true = inl refl
true_or_false false = inr refl

-- a label is among labels, and stands where its place says, or it is not, and its place is behind them
pub data Found (number : ℕ) (label : Label) (labels : List Label) : Type 0 where
  there : (index : ℕ) → index < length labels → label_place number label labels ≡ number + index →
      ((other : Label) → get_or labels index other ≡ label) → list_any (same_label label) labels ≡ true →
      Found number label labels
  new : label_place number label labels ≡ number + length labels → list_any (same_label label) labels ≡ false →
      Found number label labels

pub found : (number : ℕ) (label : Label) (labels : List Label) → Found number label labels
found number label [] = new (omega arith) refl
found number label (other ∷ others) = elim (true_or_false (same_label label other)) [
  | inl same ↦ there 0 (omega arith) (rw same (omega arith)) (λ any. sym (label_same label other same)) (rw same refl)
  | inr apart ↦ elim (found (suc number) label others) [
    | there index within at is among ↦
        there (suc index) (omega arith) (rw apart (at ∙ omega arith)) is (rw (apart, among) refl)
    | new behind none ↦ new (rw apart (behind ∙ omega arith)) (rw (apart, none) refl)
  ]
]

-- ---- a label that is there

pub known_label : (label : Label) (labels : List Label) → label_place 0 label labels < length labels →
    list_any (same_label label) labels ≡ true
known_label label labels within = elim (found 0 label labels) [
  | there index inside at is among ↦ among
  | new behind none ↦ absurd (omega (arith, behind))
]

pub known_labels : (label : Label) (labels : List Label) → label_place 0 label labels < length labels →
    labels ≡ with_labels labels (label ∷ [])
known_labels label labels within = rw (known_label label labels within) refl

pub known_last : (label other : Label) (labels : List Label) → label_place 0 label labels < length labels →
    label_place 0 (get_or labels (label_place 0 label labels) other) labels ≡ label_place 0 label labels
known_last label other labels within = elim (found 0 label labels) [
  | there index inside at is among ↦
      let place_is : label_place 0 label labels ≡ index = omega (arith, at) in
      ap (λ place. label_place 0 (get_or labels place other) labels) place_is
      ∙ ap (λ (one : Label). label_place 0 one labels) (is other)
  | new behind none ↦ absurd (omega (arith, behind))
]

-- ---- and one that is not

pub new_label : (label : Label) (labels : List Label) → length labels ≤ label_place 0 label labels →
    list_any (same_label label) labels ≡ false
new_label label labels past = elim (found 0 label labels) [
  | there index inside at is among ↦ absurd (omega (arith, at))
  | new behind none ↦ none
]

pub new_labels : (label : Label) (labels : List Label) → length labels ≤ label_place 0 label labels →
    labels ++ label ∷ [] ≡ with_labels labels (label ∷ [])
new_labels label labels past = rw (new_label label labels past) refl

words_alike : (words : List ℕ) → same_words words words ≡ true
words_alike [] = refl
words_alike (word ∷ words) = rw (eq-eqb word word refl, words_alike words) refl

pub label_alike : (label : Label) → same_label label label ≡ true
label_alike label = rw (words_alike label.rows, eq-eqb label.trust label.trust refl) refl

place_behind : (number : ℕ) (label : Label) (labels : List Label) → list_any (same_label label) labels ≡ false →
    label_place number label (labels ++ label ∷ []) ≡ number + length labels
place_behind number label [] none = rw (label_alike label) (omega arith)
place_behind number label (other ∷ others) none = elim (true_or_false (same_label label other)) [
  | inl same ↦ absurd (grind (arith, rw same at none))
  | inr apart ↦ rw apart (place_behind (suc number) label others (rw apart at none) ∙ omega arith)
]

pub new_place : (label : Label) (labels : List Label) → length labels ≤ label_place 0 label labels →
    label_place 0 label (labels ++ label ∷ []) ≡ length labels
new_place label labels past = place_behind 0 label labels (new_label label labels past) ∙ omega arith

pub new_last : (label other : Label) (labels : List Label) → length labels ≤ label_place 0 label labels →
    label_place 0 (get_or (labels ++ label ∷ []) (length labels) other) (labels ++ label ∷ []) ≡ length labels
new_last label other labels past =
    ap (λ (one : Label). label_place 0 one (labels ++ label ∷ [])) (get_or-append_seam labels label [] other)
    ∙ new_place label labels past

-- ---- a label that is put into a set of labels

-- as a set compares labels
abbrev alike : Label → Label → Bool
alike label other = pointwise nat_eq label.rows other.rows && nat_eq label.trust other.trust

alike_is : (label : Label) → alike label ≡ same_label label
alike_is label = λ i other. compared label other i

-- the labels of the set
pub labels_put : (label : Label) (labels : List Label) →
    (if list_any (alike label) labels then labels else labels ++ label ∷ []) ≡ with_labels labels (label ∷ [])
labels_put label labels =
    ap (λ test. if list_any test labels then labels else labels ++ label ∷ []) (alike_is label)

place_counted : (number : ℕ) (label : Label) (labels : List Label) →
    number + position_or_len (same_label label) labels ≡ label_place number label labels
place_counted number label [] = omega arith
place_counted number label (other ∷ others) = elim (true_or_false (same_label label other)) [
  | inl same ↦ rw same (omega arith)
  | inr apart ↦ rw apart (omega (arith, place_counted (suc number) label others))
]

-- the place that it answers
pub place_put : (label : Label) (labels : List Label) →
    position_or_len (alike label) labels ≡ label_place 0 label labels
place_put label labels =
    ap (λ test. position_or_len test labels) (alike_is label) ∙ omega (arith, place_counted 0 label labels)

place_past : (label : Label) (labels : List Label) → length labels ≤ label_place 0 label labels →
    label_place 0 label labels ≡ length labels
place_past label labels past = elim (found 0 label labels) [
  | there index inside at is among ↦ absurd (omega (arith, at))
  | new behind none ↦ omega (arith, behind)
]

-- its place stays as it is put in, and from then on it stands there
abbrev IsPlaced : Label → Label → List Label → List Label → Type 0
IsPlaced label other labels all =
    (label_place 0 label labels ≡ label_place 0 label all)
    × (label_place 0 (get_or all (label_place 0 label labels) other) all ≡ label_place 0 label labels)

pub placed : (label other : Label) (labels : List Label) →
    IsPlaced label other labels (with_labels labels (label ∷ []))
placed label other labels = elim (cases_lt (label_place 0 label labels) (length labels)) [
  | inl within ↦
      subst (IsPlaced label other labels) (known_labels label labels within)
      (refl, known_last label other labels within)
  | inr past ↦
      let at = place_past label labels past in
      let all = labels ++ label ∷ [] in
      subst (IsPlaced label other labels) (new_labels label labels past) (
        at ∙ sym (new_place label labels past),
        ap (λ place. label_place 0 (get_or all place other) all) at ∙ new_last label other labels past ∙ sym at,
      )
]

-- ---- the label that was named last

pub last_place : (labels : List Label) (place : ℕ) (label : Label) → IsNamedLast labels place →
    is_at labels place label ≡ true → place ≡ label_place 0 label labels
last_place labels place label named at =
    let both = and_true (nat_lt place (length labels)) (same_label label (get_or labels place empty_label)) at in
    let same = label_same label (get_or labels place empty_label) both.1 in
    sym (ap (λ (one : Label). label_place 0 one labels) same ∙ named (ltb-true place (length labels) both.0))

pub at_within : (labels : List Label) (place : ℕ) (label other : Label) → place < length labels →
    same_label label (get_or labels place other) ≡ is_at labels place label
at_within labels place label other within =
    rw (lt-ltb place (length labels) within)
    (ap (same_label label) (get_or_default labels place other empty_label within))
