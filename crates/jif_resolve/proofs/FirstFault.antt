-- One of some faults comes first.
use Rattle.std.proofs.Common.{◌≡◌, suc, ◌<◌, ◌⊎◌, inl, inr, List, [], ◌∷◌, All, length, arith, rules}
use Rattle.std.specs.Prelude.{Contains}
use Rattle.std.proofs.lemmas.Bool.{cases_lt}
use Rattle.std.proofs.lemmas.List.Elements.{All-nil, All-cons}
use Rattle.jif_resolve.specs.declared.fault.Fault.{Fault}
use Rattle.jif_resolve.specs.First.{rank}
use Rattle.jif_resolve.specs.Verdicts.{ComesBefore, IsFirst}

pub not_itself : (f : Fault) → ¬ ComesBefore f f
not_itself f before = grind (arith)

either : (f g : Fault) → ComesBefore f g ⊎ ¬ ComesBefore f g
either f g =
    elim (cases_lt f.at g.at) [
      | inl less ↦ inl (inl less)
      | inr more ↦ elim (cases_lt g.at f.at) [
        | inl greater ↦ inr (λ before. grind (arith))
        | inr also ↦ let same : f.at ≡ g.at = omega arith in
            elim (cases_lt (rank f.kind) (rank g.kind)) [
              | inl less ↦ inl (inr (same, less))
              | inr not_less ↦ inr (λ before. grind (arith))
            ]
      ]
    ]

pub goes_on : (f g h : Fault) → ComesBefore f g → ComesBefore g h → ComesBefore f h
goes_on f g h (inl one) (inl two) = inl (omega arith)
goes_on f g h (inl one) (inr two) = inl (let same : g.at ≡ h.at = two.0 in omega arith)
goes_on f g h (inr one) (inl two) = inl (let same : f.at ≡ g.at = one.0 in omega arith)
goes_on f g h (inr one) (inr two) =
    let same : f.at ≡ g.at = one.0 in
    let also : g.at ≡ h.at = two.0 in
    let less : rank f.kind < rank g.kind = one.1 in
    let more : rank g.kind < rank h.kind = two.1 in
    inr (omega arith, omega arith)

pub contains_head : (f : Fault) (fs : List Fault) → Contains (f ∷ fs) f
contains_head f fs = search rules

pub contains_tail : (f g : Fault) (fs : List Fault) → Contains fs g → Contains (f ∷ fs) g
contains_tail f g fs (k, within, same) =
    let less : k < length fs = within in
    (suc k, (let more : suc k < length (f ∷ fs) = omega arith in more), same)

none_before_all : (f g : Fault) (fs : List Fault) → ComesBefore f g → All (λ h. ¬ ComesBefore h g) fs →
    All (λ h. ¬ ComesBefore h f) fs
none_before_all f g fs before all k d within = λ earlier. all k d within (goes_on _ f g earlier before)

pub first_fault : (f : Fault) (fs : List Fault) → (first : Fault) × IsFirst (f ∷ fs) first
first_fault f [] = (
  f,
  record {
    among = contains_head f [];
    none_before = All-cons (λ h. ¬ ComesBefore h f) f [] (not_itself f) (All-nil (λ h. ¬ ComesBefore h f));
  },
)
first_fault f (g ∷ fs) =
    let rest = first_fault g fs in
    let h = rest.0 in
    elim (either f h) [
      | inl before ↦ (
        f,
        record {
          among = contains_head f (g ∷ fs);
          none_before = All-cons (λ x. ¬ ComesBefore x f) f (g ∷ fs) (not_itself f)
              (none_before_all f h (g ∷ fs) before rest.1.none_before);
        },
      )
      | inr not_before ↦ (
        h,
        record {
          among = contains_tail f h (g ∷ fs) rest.1.among;
          none_before = All-cons (λ x. ¬ ComesBefore x h) f (g ∷ fs) not_before rest.1.none_before;
        },
      )
    ]
