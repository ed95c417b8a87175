-- The first of faults, part by part.
use Rattle.std.proofs.Common.{◌≡◌, ℕ, ◌+◌, ◌<◌, Bool, true, false, not, inl, inr, List, [], ◌∷◌, ◌++◌, map, length}
use Rattle.std.proofs.Common.{take, get_or, slice_get, Option, Some, refl, ap, ◌∙◌}
use Rattle.std.specs.Prelude.{Contains}
use Rattle.std.specs.List.{list_any, flat_map}
use Rattle.std.specs.Str.{bytes_eq}
use Rattle.std.proofs.lemmas.Grind.{flat_map-append, fold-append}
use Rattle.std.proofs.lemmas.List.{take_more, map-append, append-nil}
use Rattle.std.proofs.lemmas.Map.Views.{list_any-from_Contains, Contains-from_any}
use Rattle.std.proofs.lemmas.Option.{slice_get_within, get_or_from_slice_get}
use Rattle.std.proofs.lemmas.Slice.Eq.{bytes_eq-Decides}
use Rattle.js_base.proofs.Texts.{bytes_eq_laws}
use Rattle.principals.specs.ActsFor.{Declared}
use Rattle.jif_grammar.specs.DraftShapes.{NameShape}
use Rattle.jif_resolve.specs.declared.fault.Fault.{Fault}
use Rattle.jif_resolve.specs.declared.fault.FaultKind.{FaultKind}
use Rattle.jif_resolve.specs.declared.fault.FaultKind.TheVariants.{UnknownName}
use Rattle.jif_resolve.specs.First.{with_fault, with_faults}
use Rattle.jif_resolve.specs.Faults.{fault, fault_where, principal_faults}
use Rattle.jif_resolve.proofs.Usable.{true_or_false}

pub faults_joined : (first : Option Fault) (xs ys : List Fault) →
    with_faults first (xs ++ ys) ≡ with_faults (with_faults first xs) ys
faults_joined first xs ys = fold-append with_fault first xs ys

-- one more item of a list
pub faults_more : {X Y : Type 0} (shape : X → Y) (faults : Y → List Fault) (first : Option Fault) (xs : List X)
    (i : ℕ) (d : X) → i < length xs →
    with_faults first (flat_map faults (map shape (take (i + 1) xs)))
    ≡ with_faults (with_faults first (flat_map faults (map shape (take i xs)))) (faults (shape (get_or xs i d)))
faults_more shape faults first xs i d less =
    let x = get_or xs i d in
    let front = take i xs in
    let last : flat_map faults (map shape (x ∷ [])) ≡ faults (shape x) = append-nil (faults (shape x)) in
    ap (λ ys. with_faults first (flat_map faults (map shape ys))) (take_more xs i d less)
    ∙ ap (λ ys. with_faults first (flat_map faults ys)) (map-append shape front (x ∷ []))
    ∙ ap (with_faults first) (flat_map-append faults (map shape front) (map shape (x ∷ [])))
    ∙ faults_joined first (flat_map faults (map shape front)) (flat_map faults (map shape (x ∷ [])))
    ∙ ap (with_faults (with_faults first (flat_map faults (map shape front)))) last

no_fault : (wrong : Bool) (kind : FaultKind) (at : ℕ) → wrong ≡ false → fault_where wrong kind at ≡ []
no_fault false kind at is = refl
no_fault true kind at is = absurd cc

one_fault : (wrong : Bool) (kind : FaultKind) (at : ℕ) → wrong ≡ true → fault_where wrong kind at ≡ fault at kind ∷ []
one_fault true kind at is = refl
one_fault false kind at is = absurd cc

pub principal_known : (principals : Declared) (name : NameShape) (place : ℕ) →
    slice_get principals.names place ≡ Some name.text → principal_faults principals name ≡ []
principal_known principals name place is =
    let within : Contains principals.names name.text = (
      place,
      slice_get_within principals.names place name.text is,
      get_or_from_slice_get principals.names place name.text name.text is,
    ) in
    let found : list_any (bytes_eq name.text) principals.names ≡ true =
    list_any-from_Contains bytes_eq_laws name.text principals.names within in
    no_fault (not (list_any (bytes_eq name.text) principals.names)) UnknownName name.at (ap not found)

pub principal_unknown : (principals : Declared) (name : NameShape) → ¬ Contains principals.names name.text →
    principal_faults principals name ≡ fault name.at UnknownName ∷ []
principal_unknown principals name missing =
    let any = list_any (bytes_eq name.text) principals.names in
    elim (true_or_false any) [
      | inl found ↦ absurd (missing
          (Contains-from_any (λ x y same. (bytes_eq-Decides x y).0 same) name.text principals.names found))
      | inr not_found ↦ one_fault (not any) UnknownName name.at (ap not not_found)
    ]
