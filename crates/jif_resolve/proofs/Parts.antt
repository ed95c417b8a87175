-- Labels to which parts are added one by one.
use Rattle.std.proofs.Common.{◌≡◌, ℕ, ◌+◌, ◌<◌, List, [], ◌∷◌, ◌++◌, map, length, take, get_or, sym, ap, ◌∙◌}
use Rattle.std.proofs.Common.{subst}
use Rattle.std.specs.List.{flat_map}
use Rattle.std.proofs.lemmas.List.{append-nil, map-append}
use Rattle.js_base.proofs.Lists.{zip_push}
use Rattle.js_base.specs.declared.ids.PrincipalId.{PrincipalId}
use Rattle.js_base.proofs.Lists.{none_in_two}
use Rattle.principals.specs.ActsFor.{Declared}
use Rattle.label_lattice.specs.declared.label.Label.{Label}
use Rattle.label_lattice.specs.Label.{ForbidsNothing, IsUntrusted, SameForbidden, SameTrust, AddsPolicy, AddsTrust}
use Rattle.label_lattice.specs.Over.{IsLabelOver}
use Rattle.label_lattice.specs.Written.{Part, trust, KnownPart, policy_of, trust_of, IsKnown, AreKnown, IsKnownPart}
use Rattle.label_lattice.specs.Reading.{Adds}
use Rattle.label_lattice.proofs.PartLemmas.{adds_policy, adds_trust}
use Rattle.label_lattice.proofs.PartsLoop.{made_of_none, made_of_more}
use Rattle.jif_tree.specs.declared.draft.PolicyDraft.{PolicyDraft}
use Rattle.jif_grammar.specs.DraftShapes.{NameShape, PolicyShape, LabelShape, policy_shape}
use Rattle.jif_resolve.specs.Labels.{texts, policy_part, parts_of, IsLabelFor}
use Rattle.jif_resolve.specs.Faults.{policy_faults, trust_faults, label_faults}
use Rattle.jif_resolve.specs.Making.{IsOfParts}
use Rattle.jif_resolve.proofs.Cleanly.{shapes_more}

pub of_none : (principals : Declared) (label : Label) → ForbidsNothing label → IsUntrusted label →
    IsLabelOver principals label → IsOfParts principals [] label
of_none principals label nothing untrusted over = record {
  known = [];
  are_known = tt;
  over = over;
  means = made_of_none principals label nothing untrusted;
}

of_more : (principals : Declared) (part : Part) (known : KnownPart) (old new : Label) →
    IsKnownPart principals part known → Adds principals known old new →
    (IsLabelOver principals old → IsLabelOver principals new) → (parts : List Part) →
    IsOfParts principals parts old → IsOfParts principals (parts ++ part ∷ []) new
of_more principals part known old new is_known adds over parts is = record {
  known = is.known ++ known ∷ [];
  are_known = zip_push (IsKnownPart principals) parts is.known part known is.are_known is_known;
  over = over is.over;
  means = made_of_more principals is.known known old new is.means adds;
}

pub of_policy : (principals : Declared) (policy : PolicyShape) (owner : PrincipalId) (readers : List PrincipalId)
    (old new : Label) → IsKnown principals policy.owner.text owner →
    AreKnown principals (texts policy.readers) readers → AddsPolicy old new principals owner readers →
    SameTrust old new → (IsLabelOver principals old → IsLabelOver principals new) → (parts : List Part) →
    IsOfParts principals parts old → IsOfParts principals (parts ++ policy_part policy ∷ []) new
of_policy principals policy owner readers old new is are adds same over =
    of_more principals (policy_part policy) (policy_of owner readers) old new (is, are)
    (adds_policy principals old new owner readers adds same) over

pub of_trust : (principals : Declared) (members : List NameShape) (known : List PrincipalId) (old new : Label) →
    AreKnown principals (texts members) known → SameForbidden old new → AddsTrust old new principals known →
    (IsLabelOver principals old → IsLabelOver principals new) → (parts : List Part) →
    IsOfParts principals parts old → IsOfParts principals (parts ++ trust (texts members) ∷ []) new
of_trust principals members known old new are same adds over =
    of_more principals (trust (texts members)) (trust_of known) old new are
    (adds_trust principals old new known same adds) over

-- a label without a part that says who trusts
pub of_no_trust : (principals : Declared) (label : Label) (parts : List Part) → IsOfParts principals parts label →
    IsOfParts principals (parts ++ []) label
of_no_trust principals label parts is = subst (λ ps. IsOfParts principals ps label) (sym (append-nil parts)) is

pub label_is_of_parts : (principals : Declared) (written : LabelShape) (label : Label) →
    IsOfParts principals (parts_of written) label → IsLabelFor principals written label
label_is_of_parts principals written label is =
    record { known = is.known; are_known = is.are_known; over = is.over; means = is.means }

pub policies_more : (principals : Declared) (policies : List PolicyDraft) (i : ℕ) (policy : PolicyDraft)
    (label : Label) → i < length policies → policy ≡ get_or policies i policy →
    IsOfParts principals (map policy_part (map policy_shape (take i policies))
    ++ policy_part (policy_shape policy) ∷ [])
    label → IsOfParts principals (map policy_part (map policy_shape (take (i + 1) policies))) label
policies_more principals policies i policy label less same is =
    let shapes = ap (map policy_part) (shapes_more policy_shape policies i policy less same)
    ∙ map-append policy_part (map policy_shape (take i policies)) (policy_shape policy ∷ []) in
    subst (λ ps. IsOfParts principals ps label) (sym shapes) is

pub clean_label : (principals : Declared) (written : LabelShape) → label_faults principals written ≡ [] →
    (flat_map (policy_faults principals) written.policies ≡ []) × (trust_faults principals written.trust ≡ [])
clean_label principals written none =
    none_in_two (flat_map (policy_faults principals) written.policies) (trust_faults principals written.trust) none
