-- The fault that the test finds is the first.
use Rattle.std.proofs.Common.{◌≡◌, zero, suc, ◌<◌, inl, inr, Bool, true, false, if◌then◌else◌, List, [], ◌∷◌}
use Rattle.std.proofs.Common.{length, Option, Some, None, refl, ap, sym, ◌∙◌, subst, arith}
use Rattle.std.specs.Prelude.{Contains}
use Rattle.std.proofs.lemmas.Bool.Decides.{nat_tests}
use Rattle.std.proofs.lemmas.List.Elements.{All-nil, All-cons, All-head, All-tail}
use Rattle.jif_resolve.specs.declared.fault.Fault.{Fault}
use Rattle.jif_resolve.specs.First.{comes_before, with_faults}
use Rattle.jif_resolve.specs.Verdicts.{ComesBefore, IsFirst}
use Rattle.jif_resolve.proofs.FirstFault.{not_itself, contains_head, contains_tail}
use Rattle.jif_resolve.proofs.Usable.{true_or_false}

test_true : (a b : Fault) → comes_before a b ≡ true → ComesBefore a b
test_true a b is = grind (arith, nat_tests)

test_false : (a b : Fault) → comes_before a b ≡ false → ¬ ComesBefore a b
test_false a b is before = grind (arith, nat_tests)

-- what is not before one that is not before another is not before that one
not_before_either : (h g f : Fault) → ¬ ComesBefore h g → ¬ ComesBefore g f → ¬ ComesBefore h f
not_before_either h g f one two before = grind (arith)

with_head : (g h f : Fault) (hs : List Fault) → IsFirst (h ∷ hs) f → ¬ ComesBefore g f → IsFirst (g ∷ h ∷ hs) f
with_head g h f hs first not_before = record {
  among = contains_tail g f (h ∷ hs) first.among;
  none_before = All-cons (λ x. ¬ ComesBefore x f) g (h ∷ hs) not_before first.none_before;
}

contains_skip : (g h f : Fault) (hs : List Fault) → Contains (g ∷ hs) f → Contains (g ∷ h ∷ hs) f
contains_skip g h f hs (zero, within, same) = (zero, (let less : 0 < length (g ∷ h ∷ hs) = omega arith in less), same)
contains_skip g h f hs (suc k, within, same) =
    let less : suc k < length (g ∷ hs) = within in
    (suc (suc k), (let more : suc (suc k) < length (g ∷ h ∷ hs) = omega arith in more), same)

with_second : (g h f : Fault) (hs : List Fault) → IsFirst (g ∷ hs) f → ¬ ComesBefore h f → IsFirst (g ∷ h ∷ hs) f
with_second g h f hs first not_before = record {
  among = contains_skip g h f hs first.among;
  none_before = All-cons (λ x. ¬ ComesBefore x f) g (h ∷ hs)
      (All-head (λ x. ¬ ComesBefore x f) g hs first.none_before)
      (All-cons (λ x. ¬ ComesBefore x f) h hs not_before
      (All-tail (λ x. ¬ ComesBefore x f) g hs first.none_before));
}

head_not_before : (g f : Fault) (hs : List Fault) → IsFirst (g ∷ hs) f → ¬ ComesBefore g f
head_not_before g f hs first = All-head (λ x. ¬ ComesBefore x f) g hs first.none_before

asymmetric : (h g f : Fault) → ComesBefore h g → ¬ ComesBefore h f → ¬ ComesBefore g f
asymmetric h g f before not_first also = grind (arith)

first_from : (g : Fault) (hs : List Fault) (f : Fault) → with_faults (Some g) hs ≡ Some f → IsFirst (g ∷ hs) f
first_from g [] f is =
    let same : g ≡ f = cc in
    subst (IsFirst (g ∷ [])) same (record {
      among = contains_head g [];
      none_before = All-cons (λ x. ¬ ComesBefore x g) g [] (not_itself g) (All-nil (λ x. ¬ ComesBefore x g));
    })
first_from g (h ∷ hs) f is =
    let go : Bool → Option Fault = λ b. with_faults (if b then Some h else Some g) hs in
    elim (true_or_false (comes_before h g)) [
      | inl before ↦
          let rest = first_from h hs f (sym (ap go before) ∙ is) in
          with_head g h f hs rest (asymmetric h g f (test_true h g before) (head_not_before h f hs rest))
      | inr not_before ↦
          let rest = first_from g hs f (sym (ap go not_before) ∙ is) in
          with_second g h f hs rest
          (not_before_either h g f (test_false h g not_before) (head_not_before g f hs rest))
    ]

pub first_by_test : (faults : List Fault) (f : Fault) → with_faults None faults ≡ Some f → IsFirst faults f
first_by_test [] f is = absurd cc
first_by_test (g ∷ hs) f is = first_from g hs f is

some_from : (g : Fault) (hs : List Fault) → (f : Fault) × (with_faults (Some g) hs ≡ Some f)
some_from g [] = (g, refl)
some_from g (h ∷ hs) =
    let go : Bool → Option Fault = λ b. with_faults (if b then Some h else Some g) hs in
    elim (true_or_false (comes_before h g)) [
      | inl before ↦ let rest = some_from h hs in (rest.0, ap go before ∙ rest.1)
      | inr not_before ↦ let rest = some_from g hs in (rest.0, ap go not_before ∙ rest.1)
    ]

pub none_by_test : (faults : List Fault) → with_faults None faults ≡ None → faults ≡ []
none_by_test [] is = refl
none_by_test (g ∷ hs) is =
    let some = some_from g hs in
    let clash : None ≡ Some some.0 = sym is ∙ some.1 in
    absurd cc
