-- The first pair that is listed.
use Rattle.std.proofs.Common.{◌≡◌, inl, inr, Bool, true, List, [], ◌∷◌, All, ap, subst}
use Rattle.std.specs.Prelude.{not, Option, Some, None, slice_get, unwrap_or}
use Rattle.std.proofs.lemmas.Bool.{and_parts, false≢true}
use Rattle.std.proofs.lemmas.List.Elements.{All-head}
use Rattle.std.proofs.lemmas.Option.{none-some}
use Rattle.js_base.proofs.Options.{some_or_none}
use Rattle.principals.specs.ActsFor.{Declared, IsDeclared}
use Rattle.label_lattice.specs.declared.label.Label.{Label}
use Rattle.label_lattice.specs.Label.{ConfFlows}
use Rattle.jif_tree.specs.LabelRules.{may_release}
use Rattle.label_reasons.specs.declared.reason.Trait.{Trait}
use Rattle.label_reasons.specs.declared.reason.Trait.TheVariants.{Keeps, Distrusts}
use Rattle.label_reasons.specs.Traits.{has, TraitIsLacking, IsTrait, IsDeclaredTrait}
use Rattle.label_reasons.specs.Listed.{listed}
use Rattle.label_reasons.specs.Reasons.{fails, fails_in}
use Rattle.label_reasons.proofs.TraitTests.{forbids_is, not_both}
use Rattle.label_reasons.proofs.Listing.{listed_passes}
use Rattle.label_reasons.proofs.Failing.{listed_within}
use Rattle.label_reasons.proofs.ExpressionCauses.{is_trait}
use Rattle.place_reasons.specs.Reasons.{first_pair}

-- what fails where nobody may release
abbrev pub PairFails : Label → Label → Trait → Type 0
PairFails from to (Keeps owner reader) = TraitIsLacking (Keeps owner reader) from to
PairFails from to (Distrusts principal) = ⊥

pub pair_fails : (principals : Declared) (from to : Label) (trait : Trait) →
    fails_in principals (may_release [] from to) trait ≡ true → PairFails from to trait
pair_fails principals from to (Keeps owner reader) is =
    let parts = and_parts (fails (Keeps owner reader) from to) true is in
    let both = and_parts (has (Keeps owner reader) from) (not (has (Keeps owner reader) to)) parts.0 in
    (both.0, λ also. not_both (has (Keeps owner reader) to) also both.1)
pair_fails principals from to (Distrusts principal) is = absurd (false≢true is)

-- a listed pair has a place in labels, and fails
pub record IsPairOf (principals : Declared) (from to : Label) (pair : Trait) : Type 0 where
  pub within : IsDeclaredTrait principals pair
  pub fails : PairFails from to pair

pub first_of : {X : Type 0} (P : X → Type 0) (xs : List X) (x : X) → All P xs → slice_get xs 0 ≡ Some x → P x
first_of P [] x all is = absurd (none-some x is)
first_of {X} P (y ∷ ys) x all is =
    let same : y ≡ x = ap (λ (found : Option X). unwrap_or found y) is in
    subst P same (All-head P y ys all)

pub first_pair_is : (principals : Declared) → IsDeclared principals → (from to : Label) (pair : Trait) →
    first_pair principals from to ≡ Some pair → IsPairOf principals from to pair
first_pair_is principals declared from to pair is =
    let test : Trait → Bool = fails_in principals (may_release [] from to) in
    record {
      within = first_of (IsDeclaredTrait principals) (listed principals test) pair
          (listed_within principals declared test) is;
      fails = pair_fails principals from to pair
          (first_of (λ one. test one ≡ true) (listed principals test) pair (listed_passes principals test) is);
    }

-- where all may flow, there is none
pub flows_not : (principals : Declared) (from to : Label) (pair : Trait) → ConfFlows from to →
    IsPairOf principals from to pair → ⊥
flows_not principals from to (Keeps owner reader) flows is =
    is.fails.1 ((forbids_is to owner reader).1
    (flows owner reader is.within.0 is.within.1 ((forbids_is from owner reader).0 is.fails.0)))
flows_not principals from to (Distrusts principal) flows is = is.fails

pub no_pair : (principals : Declared) → IsDeclared principals → (from to : Label) → ConfFlows from to →
    first_pair principals from to ≡ None
no_pair principals declared from to flows = elim (some_or_none (first_pair principals from to)) [
  | inl none ↦ none
  | inr some ↦ absurd (flows_not principals from to some.0 flows
      (first_pair_is principals declared from to some.0 some.1))
]

pub is_pair : (principals : Declared) → IsDeclared principals → (from to : Label) (pair : Trait) →
    first_pair principals from to ≡ Some pair → IsTrait pair
is_pair principals declared from to pair is = is_trait principals pair
    (first_pair_is principals declared from to pair is).within
