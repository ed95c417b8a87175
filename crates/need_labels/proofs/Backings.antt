-- Labels that just those trust who back a statement.
use Rattle.std.proofs.Common.{ℕ, ◌<◌, ◌≤◌, ◌≡◌, ◌↔◌, ◌⊎◌, ◌∙◌, sym, ap, subst, inl, inr, true, false, List, [], ◌∷◌}
use Rattle.std.proofs.Common.{◌++◌}
use Rattle.std.proofs.Common.{map, take, length, get_or, ◌+◌}
use Rattle.std.proofs.lemmas.List.{append-nil, map-append, take_all, take_more}
use Rattle.js_base.specs.declared.ids.VarId.{VarId}
use Rattle.std.specs.Prelude.{Any}
use Rattle.std.specs.List.{list_any}
use Rattle.js_base.specs.declared.ids.PrincipalId.{PrincipalId}
use Rattle.principals.specs.ActsFor.{Declared}
use Rattle.label_lattice.specs.declared.label.Label.{Label}
use Rattle.label_lattice.specs.declared.label.TheConstants.{READERS}
use Rattle.label_lattice.specs.Label.{Trusts, IsUntrusted, AddsTrust}
use Rattle.label_lattice.specs.Lattice.{IsIntegrityMeet}
use Rattle.jif_tree.specs.Trees.{ExprTree}
use Rattle.jif_tree.specs.LabelRules.{MethodSetting}
use Rattle.need_labels.specs.Needs.{Backing, for_label, for_release, Backs, for_releases, releases}
use Rattle.need_labels.specs.Finding.{IsBackedBy}
use Rattle.need_labels.proofs.Somewhere.{any_here, any_first, any_none, any_left, any_right, any_either}

pub none_back : (principals : Declared) (label : Label) → IsUntrusted label → IsBackedBy principals [] label
none_back principals label untrusted = record {
  each = λ p within. (λ trusts. absurd (untrusted p within trusts), λ some. absurd (any_none _ some));
}

-- one cause
one_backs : (principals : Declared) (one : Backing) (label : Label) →
    ((p : ℕ) → p < READERS → (Trusts label p ↔ Backs principals p one)) → IsBackedBy principals (one ∷ []) label
one_backs principals one label same = record {
  each = λ p within. (
    λ trusts. any_here (Backs principals p) one [] ((same p within).0 trusts),
    λ some. elim (any_first (Backs principals p) one [] some) [
      | inl here ↦ (same p within).1 here
      | inr later ↦ absurd (any_none _ later)
    ],
  );
}

pub label_backs : (principals : Declared) (label : Label) → IsBackedBy principals (for_label label ∷ []) label
label_backs principals label = one_backs principals (for_label label) label
    (λ p within. (λ trusts. trusts, λ trusts. trusts))

-- a label that is trusted by whoever trusts either
either_backs : {principals : Declared} (first second : List Backing) {left : Label} (both : Label) →
    ((p : ℕ) → p < READERS → (Trusts both p ↔ (Trusts left p ⊎ Any (Backs principals p) second))) →
    IsBackedBy principals first left → IsBackedBy principals (first ++ second) both
either_backs {principals} first second both either left_is = record {
  each = λ p within. (
    λ trusts. elim ((either p within).0 trusts) [
      | inl left ↦ any_left (Backs principals p) first second ((left_is.each p within).0 left)
      | inr right ↦ any_right (Backs principals p) first second right
    ],
    λ some. elim (any_either (Backs principals p) first second some) [
      | inl left ↦ (either p within).1 (inl ((left_is.each p within).1 left))
      | inr right ↦ (either p within).1 (inr right)
    ],
  );
}

pub both_back : {principals : Declared} (first second : List Backing) {left right both : Label} →
    IsIntegrityMeet left right both → IsBackedBy principals first left → IsBackedBy principals second right →
    IsBackedBy principals (first ++ second) both
both_back first second {left} {right} {both} meet left_is right_is =
    either_backs first second {left = left} both
    (λ p within. (
      λ trusts. elim ((meet.trusts p within).0 trusts) [
        | inl is ↦ inl is
        | inr is ↦ inr ((right_is.each p within).0 is)
      ],
      λ some. elim some [
        | inl is ↦ (meet.trusts p within).1 (inl is)
        | inr is ↦ (meet.trusts p within).1 (inr ((right_is.each p within).1 is))
      ],
    )) left_is

pub release_backs : {principals : Declared} (parts : List Backing) (authority : List PrincipalId) {old new : Label} →
    AddsTrust old new principals authority → IsBackedBy principals parts old →
    IsBackedBy principals (parts ++ for_release authority ∷ []) new
release_backs {principals} parts authority {old} {new} adds is =
    either_backs parts (for_release authority ∷ []) {left = old} new
    (λ p within. (
      λ trusts. elim ((adds p within).0 trusts) [
        | inl already ↦ inl already
        | inr acts ↦ inr (any_here (Backs principals p) (for_release authority) [] acts)
      ],
      λ some. elim some [
        | inl already ↦ (adds p within).1 (inl already)
        | inr acts ↦ (adds p within).1 (inr (first acts))
      ],
    )) is
  where
    first : {p : ℕ} → Any (Backs principals p) (for_release authority ∷ []) → Backs principals p (for_release authority)
    first {p} some = elim (any_first (Backs principals p) (for_release authority) [] some) [
      | inl here ↦ here
      | inr later ↦ absurd (any_none _ later)
    ]

pub releasing_is : (setting : MethodSetting) (exprs : List ExprTree) → true ≡ list_any releases exprs →
    for_releases setting exprs ≡ for_release setting.authority ∷ []
releasing_is setting exprs is = rw (← is)

pub not_releasing_is : (setting : MethodSetting) (exprs : List ExprTree) → false ≡ list_any releases exprs →
    for_releases setting exprs ≡ []
not_releasing_is setting exprs is = rw (← is)

pub with_releases_back : {principals : Declared} (setting : MethodSetting) (parts : List Backing)
    (exprs : List ExprTree) {old new : Label} → true ≡ list_any releases exprs →
    AddsTrust old new principals setting.authority → IsBackedBy principals parts old →
    IsBackedBy principals (parts ++ for_releases setting exprs) new
with_releases_back {principals} setting parts exprs {new = new} is adds backed =
    subst (λ (more : List Backing). IsBackedBy principals (parts ++ more) new) (sym (releasing_is setting exprs is))
    (release_backs parts setting.authority adds backed)

pub without_releases_back : {principals : Declared} (setting : MethodSetting) (parts : List Backing)
    (exprs : List ExprTree) {label : Label} → false ≡ list_any releases exprs → IsBackedBy principals parts label →
    IsBackedBy principals (parts ++ for_releases setting exprs) label
without_releases_back {principals} setting parts exprs {label} is backed =
    subst (λ (all : List Backing). IsBackedBy principals all label)
    (sym (ap (λ more. parts ++ more) (not_releasing_is setting exprs is) ∙ append-nil parts)) backed

-- one more parameter
pub param_backs : {principals : Declared} (labels : VarId → Label) (first : Label) (params : List VarId) (place : ℕ)
    (d : VarId) (label : Label) {old new : Label} → place < length params → label ≡ labels (get_or params place d) →
    IsIntegrityMeet old label new →
    IsBackedBy principals (map for_label (first ∷ map labels (take place params))) old →
    IsBackedBy principals (map for_label (first ∷ map labels (take (place + 1) params))) new
param_backs {principals} labels first params place d label {old} {new} within is meet backed =
    subst (λ (all : List Backing). IsBackedBy principals all new) (sym (
    ap (λ some. map for_label (first ∷ map labels some)) (take_more params place d within)
    ∙ ap (λ some. map for_label (first ∷ some)) (map-append labels (take place params) (get_or params place d ∷ []))
    ∙ map-append for_label (first ∷ map labels (take place params)) (labels (get_or params place d) ∷ [])
    ))
    (both_back (map for_label (first ∷ map labels (take place params)))
    (for_label (labels (get_or params place d)) ∷ [])
    meet backed
    (subst (λ (one : Label). IsBackedBy principals (for_label one ∷ []) label) is (label_backs principals label)))

-- all parameters, and the variable that keeps the result
pub call_backs : {principals : Declared} (labels : VarId → Label) (first : Label) (params : List VarId) (place : ℕ)
    (kept : List Label) {old more new : Label} → length params ≤ place →
    IsBackedBy principals (map for_label (first ∷ map labels (take place params))) old →
    IsIntegrityMeet old more new → IsBackedBy principals (map for_label kept) more →
    IsBackedBy principals (map for_label (first ∷ map labels params ++ kept)) new
call_backs {principals} labels first params place kept {old} {more} {new} all backed meet also =
    subst (λ (parts : List Backing). IsBackedBy principals parts new) (
    ap (λ some. map for_label (first ∷ map labels some) ++ map for_label kept) (take_all place params all)
    ∙ sym (map-append for_label (first ∷ map labels params) kept)
    )
    (both_back (map for_label (first ∷ map labels (take place params))) (map for_label kept) meet backed also)

-- a cause that stands twice
pub twice_back : {principals : Declared} (first second : List Backing) {label : Label} →
    IsBackedBy principals (first ++ second) label → IsBackedBy principals ((first ++ second) ++ second) label
twice_back {principals} first second is = record {
  each = λ p within. (
    λ trusts. any_left (Backs principals p) (first ++ second) second ((is.each p within).0 trusts),
    λ some. (is.each p within).1 (elim (any_either (Backs principals p) (first ++ second) second some) [
      | inl already ↦ already
      | inr right ↦ any_right (Backs principals p) first second right
    ]),
  );
}
