-- Labels by their places, which stay as more labels are named.
use Rattle.std.proofs.Common.{◌≡◌, ℕ, suc, inl, inr, Bool, true, false, List, [], ◌∷◌, ◌++◌, map}
use Rattle.std.proofs.Common.{refl, sym, ap, ◌∙◌, arith, append_assoc, ◌||◌}
use Rattle.std.specs.List.{list_any, flat_map}
use Rattle.std.proofs.lemmas.List.{append-nil}
use Rattle.std.proofs.lemmas.List.Folds.{list_any-append}
use Rattle.label_lattice.specs.declared.label.Label.{Label}
use Rattle.split_rules.specs.Emissions.{Emission, instruction, entry, stands, lands}
use Rattle.split_rules.specs.SplitCode.{same_label, with_labels, label_place, label_of_emission}
use Rattle.control_split.proofs.Alike.{true_or_false, label_alike}
use Rattle.control_split.specs.Trace.{TraceShape, item_of, traced, traced_one}

-- a label is one of these
abbrev pub IsAmong : Label → List Label → Type 0
IsAmong label labels = list_any (same_label label) labels ≡ true

or_true : (b : Bool) → (b || true) ≡ true
or_true true = refl
or_true false = refl

among_more : (label : Label) (labels more : List Label) → IsAmong label labels → IsAmong label (labels ++ more)
among_more label labels more among =
    list_any-append (same_label label) labels more ∙ ap (λ (there : Bool). there || list_any (same_label label) more)
    among

among_last : (label : Label) (labels : List Label) → IsAmong label (labels ++ label ∷ [])
among_last label labels =
    list_any-append (same_label label) labels (label ∷ [])
    ∙ ap (λ (alike : Bool). list_any (same_label label) labels || (alike || false)) (label_alike label)
    ∙ or_true (list_any (same_label label) labels)

-- labels that are named in two goes
pub with_labels_append : (there first second : List Label) →
    with_labels there (first ++ second) ≡ with_labels (with_labels there first) second
with_labels_append there [] second = refl
with_labels_append there (label ∷ first) second = elim (true_or_false (list_any (same_label label) there)) [
  | inl known ↦ rw known (with_labels_append there first second)
  | inr new ↦ rw new (with_labels_append (there ++ label ∷ []) first second)
]

-- a label that is there stays
pub among_kept : (label : Label) (there more : List Label) → IsAmong label there →
    IsAmong label (with_labels there more)
among_kept label there [] among = among
among_kept label there (other ∷ more) among = elim (true_or_false (list_any (same_label other) there)) [
  | inl known ↦ rw known (among_kept label there more among)
  | inr new ↦ rw new
      (among_kept label (there ++ other ∷ []) more (among_more label there (other ∷ []) among))
]

-- a label that is named is there
pub among_named : (label : Label) (there : List Label) → IsAmong label (with_labels there (label ∷ []))
among_named label there = elim (true_or_false (list_any (same_label label) there)) [
  | inl known ↦ rw known known
  | inr new ↦ rw new (among_last label there)
]

-- the place of a label that is there stays
place_stays : (number : ℕ) (label : Label) (labels more : List Label) → IsAmong label labels →
    label_place number label (labels ++ more) ≡ label_place number label labels
place_stays number label [] more among = absurd (grind (arith, among))
place_stays number label (other ∷ others) more among = elim (true_or_false (same_label label other)) [
  | inl same ↦ rw same refl
  | inr apart ↦ rw apart (place_stays (suc number) label others more (rw apart at among))
]

pub place_kept : (label : Label) (there more : List Label) → IsAmong label there →
    label_place 0 label (with_labels there more) ≡ label_place 0 label there
place_kept label there [] among = refl
place_kept label there (other ∷ more) among = elim (true_or_false (list_any (same_label other) there)) [
  | inl known ↦ rw known (place_kept label there more among)
  | inr new ↦ rw new
      (place_kept label (there ++ other ∷ []) more (among_more label there (other ∷ []) among)
      ∙ place_stays 0 label there (other ∷ []) among)
]

-- ---- traces

pub traced_labels : (trace : TraceShape) (emissions : List Emission) →
    (traced trace emissions).labels ≡ with_labels trace.labels (flat_map label_of_emission emissions)
traced_labels trace [] = refl
traced_labels trace (emission ∷ others) =
    traced_labels (traced_one trace emission) others
    ∙ sym (with_labels_append trace.labels (label_of_emission emission) (flat_map label_of_emission others))

-- an emission names the same places once its labels are there
item_kept : (there more : List Label) (emission : Emission) →
    item_of (with_labels (with_labels there (label_of_emission emission)) more) emission
    ≡ item_of (with_labels there (label_of_emission emission)) emission
item_kept there more (instruction one) =
    let same = place_kept one.label (with_labels there (one.label ∷ [])) more (among_named one.label there) in
    rw same refl
item_kept there more (entry named) =
    let same = place_kept named.label (with_labels there (named.label ∷ [])) more (among_named named.label there) in
    rw same refl
item_kept there more (stands on number) = refl
item_kept there more (lands on number) = refl

pub traced_items : (trace : TraceShape) (emissions : List Emission) →
    (traced trace emissions).items ≡ trace.items ++ map (item_of (traced trace emissions).labels) emissions
traced_items trace [] = sym (append-nil trace.items)
traced_items trace (emission ∷ others) =
    let next = traced_one trace emission in
    let labels = (traced next others).labels in
    traced_items next others
    ∙ append_assoc trace.items (item_of next.labels emission ∷ []) (map (item_of labels) others)
    ∙ ap (λ first. trace.items ++ first ∷ map (item_of labels) others)
    (sym (ap (λ (there : List Label). item_of there emission) (traced_labels next others)
    ∙ item_kept trace.labels (flat_map label_of_emission others) emission))
