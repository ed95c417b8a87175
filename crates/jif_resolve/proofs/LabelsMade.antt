-- The names of each label without faults make a label.
use Rattle.std.proofs.Common.{◌≡◌, List, [], ◌∷◌, ◌++◌, map, Option, Some, None}
use Rattle.std.specs.Prelude.{Contains}
use Rattle.std.specs.List.{AllByRecursion, AllZip, flat_map}
use Rattle.js_base.proofs.Lists.{none_in_two}
use Rattle.principals.specs.ActsFor.{Declared, IsDeclared}
use Rattle.label_lattice.specs.declared.label.Label.{Label}
use Rattle.label_lattice.specs.Over.{IsLabelOver}
use Rattle.label_lattice.specs.Written.{Part, HasDeclaredNames, KnownPart, IsKnownPart, IsMadeOf}
use Rattle.label_lattice.proofs.KnownNames.{known_is_held}
use Rattle.jif_grammar.specs.DraftShapes.{NameShape, PolicyShape}
use Rattle.jif_resolve.specs.Faults.{principal_faults, principals_faults, policy_faults, trust_faults}
use Rattle.jif_resolve.specs.Labels.{texts, policy_part, trust_parts, parts_of}
use Rattle.jif_resolve.proofs.Usable.{principal_of, HasLabels}

-- what the law of written labels says
abbrev pub PartsMake : Type 0
PartsMake = (principals : Declared) (parts : List Part) → IsDeclared principals →
    AllByRecursion (HasDeclaredNames principals) parts →
    (known : List KnownPart) × (label : Label) × AllZip (IsKnownPart principals) parts known
    × IsMadeOf principals known label × IsLabelOver principals label

name_held : (principals : Declared) (name : NameShape) → principal_faults principals name ≡ [] →
    Contains principals.names name.text
name_held principals name none =
    let found = principal_of principals name none in known_is_held principals name.text found.0 found.1

names_held : (principals : Declared) (names : List NameShape) → principals_faults principals names ≡ [] →
    AllByRecursion (Contains principals.names) (texts names)
names_held principals [] none = tt
names_held principals (name ∷ names) none =
    let both = none_in_two (principal_faults principals name) (principals_faults principals names) none in
    (name_held principals name both.0, names_held principals names both.1)

trust_held : (principals : Declared) (members : Option (List NameShape)) → trust_faults principals members ≡ [] →
    AllByRecursion (HasDeclaredNames principals) (trust_parts members)
trust_held principals None none = tt
trust_held principals (Some members) none = (names_held principals members none, tt)

parts_held : (principals : Declared) (policies : List PolicyShape) (rest : List Part) →
    flat_map (policy_faults principals) policies ≡ [] → AllByRecursion (HasDeclaredNames principals) rest →
    AllByRecursion (HasDeclaredNames principals) (map policy_part policies ++ rest)
parts_held principals [] rest none held = held
parts_held principals (policy ∷ policies) rest none held =
    let both = none_in_two (policy_faults principals policy) (flat_map (policy_faults principals) policies) none in
    let own = none_in_two (principal_faults principals policy.owner)
    (principals_faults principals policy.readers) both.0
    in (
      (name_held principals policy.owner own.0, names_held principals policy.readers own.1),
      parts_held principals policies rest both.1 held,
    )

pub has_labels : PartsMake → (principals : Declared) → IsDeclared principals → HasLabels principals
has_labels make principals declared written none =
    let both = none_in_two (flat_map (policy_faults principals) written.policies)
    (trust_faults principals written.trust) none in
    let made = make principals (parts_of written) declared
    (parts_held principals written.policies (trust_parts written.trust) both.0
    (trust_held principals written.trust both.1)) in
    (made.1, record { known = made.0; are_known = made.2; over = made.4; means = made.3 })
