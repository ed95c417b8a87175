-- Labels of variables stay: a variable that has one has the same behind all that follows.
use Rattle.std.proofs.Common.{◌≡◌, ◌∙◌, ℕ, zero, suc, inl, inr, List, [], ◌∷◌, length, refl, ap, sym, subst}
use Rattle.std.specs.Prelude.{Option, Some, None, slice_get, slice_set}
use Rattle.std.proofs.lemmas.Bool.Decides.{eqb_tells}
use Rattle.js_base.specs.declared.ids.VarId.{VarId}
use Rattle.label_lattice.specs.declared.label.Label.{Label}
use Rattle.label_lattice.specs.Lattice.{join_of}
use Rattle.jif_tree.specs.Trees.{BlockTree, done, set_local, set_field, set_element, branch, loop, call, give_back}
use Rattle.jif_tree.specs.LabelRules.{MethodSetting, VariableLabels, labels_after_assignment}
use Rattle.jif_tree.specs.LabelRules.{labels_after, expr_label, guarded}
use Rattle.jif_tree.specs.Labelling.{IsLabelled, IsLabelledIfAny}

-- each label that is there is there later, of as many variables
pub record Stay (labels later : VariableLabels) : Type 0 where
  pub kept : (x : ℕ) (label : Label) → slice_get labels x ≡ Some (Some label) → slice_get later x ≡ Some (Some label)
  pub many : length later ≡ length labels

pub stay_same : (labels : VariableLabels) → Stay labels labels
stay_same labels = record { kept = λ x label is. is; many = refl }

pub stay_then : (labels between later : VariableLabels) → Stay labels between → Stay between later →
    Stay labels later
stay_then labels between later one two = record {
  kept = λ x label is. two.kept x label (one.kept x label is);
  many = two.many ∙ one.many;
}

-- ---- a list with one item set

set_there : {X : Type 0} (xs : List X) (place : ℕ) (old new : X) → slice_get xs place ≡ Some old →
    slice_get (slice_set xs place new) place ≡ Some new
set_there [] place old new there = absurd (cc)
set_there (x ∷ xs) zero old new there = refl
set_there (x ∷ xs) (suc place) old new there = set_there xs place old new there

set_elsewhere : {X : Type 0} (xs : List X) (place other : ℕ) (new : X) → (other ≡ place → ⊥) →
    slice_get (slice_set xs place new) other ≡ slice_get xs other
set_elsewhere [] place other new apart = refl
set_elsewhere (x ∷ xs) zero zero new apart = absurd (apart refl)
set_elsewhere (x ∷ xs) zero (suc other) new apart = refl
set_elsewhere (x ∷ xs) (suc place) zero new apart = refl
set_elsewhere (x ∷ xs) (suc place) (suc other) new apart =
    set_elsewhere xs place other new (λ same. apart (ap suc same))

set_many : {X : Type 0} (xs : List X) (place : ℕ) (new : X) → length (slice_set xs place new) ≡ length xs
set_many [] place new = refl
set_many (x ∷ xs) zero new = refl
set_many (x ∷ xs) (suc place) new = ap suc (set_many xs place new)

-- ---- assignments and blocks

pub assignment_stays : (labels : VariableLabels) (x : VarId) (label : Label) →
    Stay labels (labels_after_assignment labels x label)
assignment_stays labels x label = by (slice_get labels x.0) refl
  where
    by : (found : Option (Option Label)) → slice_get labels x.0 ≡ found →
        Stay labels (labels_after_assignment labels x label)
    by None is = rw is (stay_same labels)
    by (Some (Some declared)) is = rw is (stay_same labels)
    by (Some None) is = rw is (record {
      kept = λ y other there. elim (eqb_tells y x.0) [
        | inl same ↦
            let P : ℕ → Type 0 = λ place. slice_get labels place ≡ Some (Some other) in
            let both : Some None ≡ Some (Some other) = sym is ∙ subst P same.1 there in absurd (cc)
        | inr apart ↦ set_elsewhere labels x.0 y (Some label) apart.1 ∙ there
      ];
      many = set_many labels x.0 (Some label);
    })

pub block_stays : (setting : MethodSetting) (pc : Label) (labels : VariableLabels) (block : BlockTree) →
    Stay labels (labels_after setting pc labels block)
block_stays setting pc labels done = stay_same labels
block_stays setting pc labels (set_local heading x value rest) =
    let after = labels_after_assignment labels x (join_of (expr_label setting pc labels value) pc) in
    stay_then labels after (labels_after setting pc after rest)
    (assignment_stays labels x (join_of (expr_label setting pc labels value) pc)) (block_stays setting pc after rest)
block_stays setting pc labels (set_field heading field value rest) = block_stays setting pc labels rest
block_stays setting pc labels (set_element heading field index value rest) = block_stays setting pc labels rest
block_stays setting pc labels (branch heading guard first second rest) =
    let inside = guarded setting pc labels guard in
    let between = labels_after setting inside labels first in
    let behind = labels_after setting inside between second in
    stay_then labels between (labels_after setting pc behind rest) (block_stays setting inside labels first)
    (stay_then between behind (labels_after setting pc behind rest) (block_stays setting inside between second)
    (block_stays setting pc behind rest))
block_stays setting pc labels (loop heading guard inner rest) =
    let inside = guarded setting pc labels guard in
    let behind = labels_after setting inside labels inner in
    stay_then labels behind (labels_after setting pc behind rest) (block_stays setting inside labels inner)
    (block_stays setting pc behind rest)
block_stays setting pc labels (call heading site method arguments into rest) = block_stays setting pc labels rest
block_stays setting pc labels (give_back heading value rest) = block_stays setting pc labels rest

-- what is assigned to has a label
pub assigned_labelled : (labels : VariableLabels) (x : VarId) (label : Label) (found : Option Label) →
    slice_get labels x.0 ≡ Some found → IsLabelled (labels_after_assignment labels x label) x
assigned_labelled labels x label (Some declared) is = rw is (declared, is)
assigned_labelled labels x label None is = rw is (label, set_there labels x.0 None (Some label) is)

-- and keeps it
pub labelled_later : (labels later : VariableLabels) → Stay labels later → (x : VarId) → IsLabelled labels x →
    IsLabelled later x
labelled_later labels later stay x (label, there) = (label, stay.kept x.0 label there)

pub labelled_later_if_any : (labels later : VariableLabels) → Stay labels later → (x : Option VarId) →
    IsLabelledIfAny labels x → IsLabelledIfAny later x
labelled_later_if_any labels later stay None is = tt
labelled_later_if_any labels later stay (Some x) is = labelled_later labels later stay x is
