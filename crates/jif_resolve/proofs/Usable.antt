-- Where there is no fault, what is written has a meaning.
use Rattle.std.proofs.Common.{◌≡◌, ℕ, zero, suc, Bool, true, false, not, ◌||◌, ◌⊎◌, inl, inr, List, [], ◌∷◌, ◌++◌}
use Rattle.std.proofs.Common.{Option, Some, None, slice_get, refl, ap, sym, ◌∙◌, subst}
use Rattle.std.specs.Prelude.{Contains}
use Rattle.std.specs.List.{AllZip, list_any, flat_map}
use Rattle.std.specs.Str.{bytes_eq}
use Rattle.std.proofs.lemmas.Bool.{false≢true}
use Rattle.std.proofs.lemmas.Slice.Eq.{bytes_eq-Decides}
use Rattle.js_base.specs.declared.ids.PrincipalId.{PrincipalId}
use Rattle.js_base.specs.declared.ids.FieldId.{FieldId}
use Rattle.js_base.specs.declared.ids.VarId.{VarId}
use Rattle.js_base.specs.declared.ids.MethodId.{MethodId}
use Rattle.js_base.proofs.Lists.{none_in_two}
use Rattle.principals.specs.ActsFor.{Declared}
use Rattle.label_lattice.specs.Written.{IsKnown, AreKnown}
use Rattle.label_lattice.proofs.KnownNames.{known_is_held}
use Rattle.label_lattice.specs.declared.label.Label.{Label}
use Rattle.jif_tree.specs.Trees.{ExprTree, local, scalar, Heading, BlockTree, set_local, set_field}
use Rattle.jif_grammar.specs.DraftShapes.{NameShape, LabelShape}
use Rattle.jif_resolve.specs.declared.fault.Fault.{Fault}
use Rattle.jif_resolve.specs.declared.fault.FaultKind.{FaultKind}
use Rattle.jif_resolve.specs.Faults.{fault_where, principal_faults, principals_faults}
use Rattle.jif_resolve.specs.Faults.{variable_faults, array_faults, keeper_faults, called_faults}
use Rattle.jif_resolve.specs.Faults.{label_faults, optional_label_faults}
use Rattle.jif_resolve.specs.Labels.{texts, IsLabelFor, IsOptionalLabelFor}
use Rattle.jif_resolve.specs.Resolved.{variable_tree, array_of, local_of, method_of, assignment_tree}
use Rattle.jif_resolve.specs.declared.meaning.Meaning.{Meaning}
use Rattle.jif_resolve.specs.declared.meaning.Meaning.TheVariants as sense

-- ---- lists of no faults

pub none_where : (wrong : Bool) (kind : FaultKind) (at : ℕ) → fault_where wrong kind at ≡ [] → wrong ≡ false
none_where false kind at none = refl
none_where true kind at none = absurd cc

-- what each item of a list becomes
pub each_made : {X Y : Type 0} (faults : X → List Fault) (R : X → Y → Type 0) →
    ((x : X) → faults x ≡ [] → (y : Y) × R x y) → (xs : List X) → flat_map faults xs ≡ [] →
    (ys : List Y) × AllZip R xs ys
each_made faults R made [] none = ([], tt)
each_made faults R made (x ∷ xs) none =
    let both = none_in_two (faults x) (flat_map faults xs) none in
    let head = made x both.0 in
    let rest = each_made faults R made xs both.1 in
    (head.0 ∷ rest.0, (head.1, rest.1))

-- ---- principals and labels

pub true_or_false : (b : Bool) → (b ≡ true) ⊎ (b ≡ false)
true_or_false true = inl refl
true_or_false false = inr refl

other_one : (a b : Bool) → a || b ≡ true → a ≡ false → b ≡ true
other_one true b both not_first = absurd (false≢true (sym not_first))
other_one false b both not_first = both

pub not_false : (b : Bool) → not b ≡ false → b ≡ true
not_false true is = refl
not_false false is = absurd (false≢true (sym is))

place_of : (names : List (List ℕ)) (name : List ℕ) → list_any (bytes_eq name) names ≡ true →
    (n : ℕ) × (slice_get names n ≡ Some name)
place_of [] name found = absurd (false≢true found)
place_of (next ∷ names) name found =
    elim (true_or_false (bytes_eq name next)) [
      | inl here ↦ (zero, ap Some (sym ((bytes_eq-Decides name next).0 here)))
      | inr elsewhere ↦
          let rest = place_of names name
          (other_one (bytes_eq name next) (list_any (bytes_eq name) names) found elsewhere) in
          (suc rest.0, rest.1)
    ]

pub principal_of : (principals : Declared) (name : NameShape) → principal_faults principals name ≡ [] →
    (p : PrincipalId) × IsKnown principals name.text p
principal_of principals name none =
    let any = list_any (bytes_eq name.text) principals.names in
    let found : any ≡ true = not_false any (none_where (not any) _ name.at none) in
    let place = place_of principals.names name.text found in
    (record { 0 = place.0 }, place.1)

pub principals_of : (principals : Declared) (names : List NameShape) → principals_faults principals names ≡ [] →
    (ps : List PrincipalId) × AreKnown principals (texts names) ps
principals_of principals [] none = ([], tt)
principals_of principals (name ∷ names) none =
    let both = none_in_two (principal_faults principals name) (principals_faults principals names) none in
    let head = principal_of principals name both.0 in
    let rest = principals_of principals names both.1 in
    (head.0 ∷ rest.0, (head.1, rest.1))

-- the names of each label without faults make a label
abbrev pub HasLabels : Declared → Type 0
HasLabels principals = (written : LabelShape) → label_faults principals written ≡ [] →
    (label : Label) × IsLabelFor principals written label

pub optional_label : (principals : Declared) → HasLabels principals → (written : Option LabelShape) →
    optional_label_faults principals written ≡ [] →
    (label : Option Label) × IsOptionalLabelFor principals written label
optional_label principals labels None none = (None, refl)
optional_label principals labels (Some written) none =
    let made = labels written none in
    (Some made.0, (made.0, refl, made.1))

-- ---- used names

pub use_variable : (at : ℕ) (means : Option Meaning) → variable_faults at means ≡ [] →
    (tree : ExprTree) × (variable_tree means ≡ Some tree)
use_variable at None none = absurd cc
use_variable at (Some (sense.Variable variable)) none = (local variable, refl)
use_variable at (Some (sense.Plain field)) none = (scalar field, refl)
use_variable at (Some (sense.Array field)) none = absurd cc
use_variable at (Some (sense.Method method params gives)) none = absurd cc

pub use_assigned : (at : ℕ) (heading : Heading) (means : Option Meaning) (value : ExprTree) (rest : BlockTree) →
    variable_faults at means ≡ [] → (tree : BlockTree) × (assignment_tree heading means value rest ≡ Some tree)
use_assigned at heading None value rest none = absurd cc
use_assigned at heading (Some (sense.Variable variable)) value rest none = (set_local heading variable value rest, refl)
use_assigned at heading (Some (sense.Plain field)) value rest none = (set_field heading field value rest, refl)
use_assigned at heading (Some (sense.Array field)) value rest none = absurd cc
use_assigned at heading (Some (sense.Method method params gives)) value rest none = absurd cc

pub use_array : (at : ℕ) (means : Option Meaning) → array_faults at means ≡ [] →
    (field : FieldId) × (array_of means ≡ Some field)
use_array at None none = absurd cc
use_array at (Some (sense.Variable variable)) none = absurd cc
use_array at (Some (sense.Plain field)) none = absurd cc
use_array at (Some (sense.Array field)) none = (field, refl)
use_array at (Some (sense.Method method params gives)) none = absurd cc

pub use_keeper : (at : ℕ) (means : Option Meaning) → keeper_faults at means ≡ [] →
    (variable : VarId) × (local_of means ≡ Some variable)
use_keeper at None none = absurd cc
use_keeper at (Some (sense.Variable variable)) none = (variable, refl)
use_keeper at (Some (sense.Plain field)) none = absurd cc
use_keeper at (Some (sense.Array field)) none = absurd cc
use_keeper at (Some (sense.Method method params gives)) none = absurd cc

pub use_called : (at : ℕ) (keeps : Bool) (args : ℕ) (means : Option Meaning) →
    called_faults at keeps args means ≡ [] → (method : MethodId) × (method_of means ≡ Some method)
use_called at keeps args None none = absurd cc
use_called at keeps args (Some (sense.Variable variable)) none = absurd cc
use_called at keeps args (Some (sense.Plain field)) none = absurd cc
use_called at keeps args (Some (sense.Array field)) none = absurd cc
use_called at keeps args (Some (sense.Method method params gives)) none = (method, refl)

-- a name without a fault is no unknown one
pub no_unknown : (principals : Declared) (name : NameShape) (text : List ℕ) → principal_faults principals name ≡ [] →
    text ≡ name.text → ¬ Contains principals.names text → ⊥
no_unknown principals name text none is unknown =
    let found = principal_of principals name none in
    unknown (subst (Contains principals.names) (sym is) (known_is_held principals name.text found.0 found.1))
