-- The label that the names of a draft's label make.
use Rattle.std.specs.Prelude.{◌≡◌, List, [], ◌∷◌, ◌++◌, map, ℕ, Option, Some, None}
use Rattle.std.specs.List.{AllZip}
use Rattle.principals.specs.ActsFor.{Declared}
use Rattle.label_lattice.specs.declared.label.Label.{Label}
use Rattle.label_lattice.specs.Over.{IsLabelOver}
use Rattle.label_lattice.specs.Written.{Part, policy, trust, KnownPart, IsKnownPart, IsMadeOf}
use Rattle.jif_grammar.specs.DraftShapes.{NameShape, PolicyShape, LabelShape}

abbrev pub texts : List NameShape → List (List ℕ)
texts names = map (λ name. name.text) names

abbrev pub policy_part : PolicyShape → Part
policy_part policy_shape = policy policy_shape.owner.text (texts policy_shape.readers)

abbrev pub trust_parts : Option (List NameShape) → List Part
trust_parts None = []
trust_parts (Some members) = trust (texts members) ∷ []

abbrev pub parts_of : LabelShape → List Part
parts_of label = map policy_part label.policies ++ trust_parts label.trust

-- every name is that of a declared principal, and the label is made of the parts
pub record IsLabelFor (principals : Declared) (written : LabelShape) (label : Label) : Type 0 where
  pub known : List KnownPart
  pub are_known : AllZip (IsKnownPart principals) (parts_of written) known
  pub over : IsLabelOver principals label
  pub means : IsMadeOf principals known label

-- a label stands in the tree exactly where one is written
abbrev pub IsOptionalLabelFor : Declared → Option LabelShape → Option Label → Type 0
IsOptionalLabelFor principals None label = label ≡ None
IsOptionalLabelFor principals (Some written) tree =
    (label : Label) × (tree ≡ Some label) × IsLabelFor principals written label
