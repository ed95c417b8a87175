-- What may be listed.
use Rattle.std.proofs.Common.{◌≡◌, ◌↔◌, inl, inr, IsTrue, ℕ, ◌<◌, ◌≤◌, false, [], ◌∷◌, length, All, refl, subst, arith}
use Rattle.std.proofs.lemmas.Bool.{false_from_ne_true}
use Rattle.std.proofs.lemmas.List.Elements.{All-append, All-nil, All-cons, All-map}
use Rattle.principals.specs.ActsFor.{Declared, ActsFor, IsDeclared, IsReader, outsider}
use Rattle.label_reasons.specs.declared.reason.Trait.{Trait}
use Rattle.label_reasons.specs.declared.reason.Trait.TheVariants.{Keeps, Distrusts}
use Rattle.label_reasons.specs.Listed.{acts_for, declared_numbers, readers, pairs_of, all_pairs, all_distrusts}
use Rattle.label_reasons.specs.Listed.{IsListable}
use Rattle.label_reasons.proofs.Failing.{all_flat, all_range}

-- The outsider acts for no declared principal.
pub outsider_acts : (principals : Declared) → IsDeclared principals →
    ((first second : ℕ) → IsTrue (acts_for principals first second) ↔ ActsFor principals first second) →
    ((p : ℕ) → ActsFor principals outsider p → p ≡ outsider) → (first second : ℕ) → IsReader principals first →
    second < length principals.names → length principals.names ≤ first → acts_for principals first second ≡ false
outsider_acts principals declared tells alone first second reader within outside =
    false_from_ne_true (acts_for principals first second) (λ is. elim reader [
      | inl lt ↦ omega (arith, lt, outside)
      | inr same ↦
          let P : ℕ → Type 0 = λ one. ActsFor principals one second in
          let last : second ≡ outsider = alone second (subst P same ((tells first second).0 is)) in
          omega (arith, last, within, declared.names.few)
    ])

pub pairs_listable : (principals : Declared) → All (IsListable principals) (all_pairs principals)
pairs_listable principals =
    let P : Trait → Type 0 = IsListable principals in
    all_flat P (pairs_of principals) (declared_numbers principals)
    (all_range (λ owner. All P (pairs_of principals owner)) 0 (length principals.names)
    (λ owner owner_lt. All-map P (λ reader. Keeps owner reader) (readers principals)
    (All-append (λ reader. P (Keeps owner reader)) (declared_numbers principals) (outsider ∷ [])
    (all_range (λ reader. P (Keeps owner reader)) 0 (length principals.names)
    (λ reader lt. (omega (arith, owner_lt), inl (omega (arith, lt)))))
    (All-cons (λ reader. P (Keeps owner reader)) outsider [] (omega (arith, owner_lt), inr refl)
    (All-nil (λ reader. P (Keeps owner reader)))))))

pub distrusts_listable : (principals : Declared) → All (IsListable principals) (all_distrusts principals)
distrusts_listable principals =
    let P : Trait → Type 0 = IsListable principals in
    All-map P (λ principal. Distrusts principal) (declared_numbers principals)
    (all_range (λ principal. P (Distrusts principal)) 0 (length principals.names) (λ principal lt. omega (arith, lt)))
