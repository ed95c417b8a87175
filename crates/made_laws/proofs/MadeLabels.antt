-- The labels of the program that is made: one of Alice alone, one of Bob alone, and one that both trust and that
-- forbids nothing.
use Rattle.std.proofs.Common.{◌≡◌, ℕ, zero, suc, ◌<◌, List, [], ◌∷◌, Any, codes}
use Rattle.std.proofs.Common.{refl, sym, subst, ◌∙◌, arith}
use Rattle.std.specs.List.{AllByRecursion, AllZip, IsDistinct}
use Rattle.std.proofs.lemmas.List.Elements.{All-nil, All-cons}
use Rattle.js_base.specs.Name.{IsName}
use Rattle.js_base.specs.declared.ids.PrincipalId.{PrincipalId}
use Rattle.principals.specs.ActsFor.{Declared, IsDeclared, ActsFor, LeadsTo}
use Rattle.label_lattice.specs.declared.label.Label.{Label}
use Rattle.label_lattice.specs.Label.{Flows, IsBottom}
use Rattle.label_lattice.specs.Lattice.{bottom_of, join_of}
use Rattle.label_lattice.specs.Over.{IsLabelOver}
use Rattle.label_lattice.specs.PrintedExamples.{alice_and_bob}
use Rattle.label_lattice.specs.Written.{Part, KnownPart, trust_of, HasDeclaredNames}
use Rattle.label_lattice.specs.Written.{IsKnownPart, IsMadeOf, PartForbids, PartTrusts}
use Rattle.made_laws.proofs.MadeLimits.{alice_label, bob_label, both_label}

-- ---- laws of labels

pub record LabelLaws : Type 0 where
  pub reflexive : (label : Label) → Flows label label
  pub bottom_sets : (principals : Declared) → IsBottom principals (bottom_of principals)
  pub bottom_over : (principals : Declared) → IsDeclared principals → IsLabelOver principals (bottom_of principals)
  pub join_commutative : (first second : Label) → join_of first second ≡ join_of second first
  pub join_idempotent : (label : Label) → join_of label label ≡ label
  pub join_bottom : (principals : Declared) (label : Label) → IsDeclared principals → IsLabelOver principals label →
      join_of (bottom_of principals) label ≡ label
  pub parts_make : (principals : Declared) (parts : List Part) → IsDeclared principals →
      AllByRecursion (HasDeclaredNames principals) parts →
      (known : List KnownPart) × (label : Label) × AllZip (IsKnownPart principals) parts known
      × IsMadeOf principals known label × IsLabelOver principals label

-- ---- principals

pub two_declared : IsDeclared alice_and_bob
unfolding IsDistinct
two_declared = record {
  spelled = All-cons IsName (codes "Alice") (codes "Bob" ∷ []) refl
      (All-cons IsName (codes "Bob") [] refl (All-nil IsName));
  names = record { few = omega arith; distinct = ((refl, tt), (tt, tt)) };
  pairs = All-nil (λ (pair : ℕ × ℕ). (pair.0 < 2) × (pair.1 < 2));
}

-- with no pairs each acts for itself alone
only_itself : (first : ℕ) (between : List ℕ) (second : ℕ) → LeadsTo [] first between second → first ≡ second
only_itself first [] second leads = leads
only_itself first (next ∷ between) second leads = omega (arith, leads.0.1)

-- ---- what the labels are

-- the label is what these parts say
pub record IsSaid (parts : List Part) (label : Label) : Type 0 where
  pub known : List KnownPart
  pub are_known : AllZip (IsKnownPart alice_and_bob) parts known
  pub means : IsMadeOf alice_and_bob known label
  pub over : IsLabelOver alice_and_bob label

said_by : LabelLaws → (parts : List Part) → AllByRecursion (HasDeclaredNames alice_and_bob) parts →
    (label : Label) × IsSaid parts label
said_by laws parts names =
    let made = laws.parts_make alice_and_bob parts two_declared names in
    (made.1, record { known = made.0; are_known = made.2; means = made.3; over = made.4 })

-- the label that both trust
abbrev pub both : Label
both = bottom_of alice_and_bob

abbrev both_known : List KnownPart
both_known = trust_of (record { 0 = 0 } ∷ record { 0 = 1 } ∷ []) ∷ []

pub any_of_one : {X : Type 0} (P : X → Type 0) (x : X) → Any P (x ∷ []) → P x
any_of_one P x (zero, y, within, read, holds) = subst P (sym read) holds
any_of_one P x (suc k, y, within, read, holds) = absurd (omega (arith, within))

of_two : (principal : ℕ) →
    Any (λ (member : PrincipalId). ActsFor alice_and_bob member.0 principal)
    (record { 0 = 0 } ∷ record { 0 = 1 } ∷ []) → principal < 2
of_two principal (zero, member, within, read, acts) =
    let leads = subst (λ (one : PrincipalId). ActsFor alice_and_bob one.0 principal) (sym read) acts in
    omega (arith, only_itself 0 leads.0 principal leads.1)
of_two principal (suc zero, member, within, read, acts) =
    let leads = subst (λ (one : PrincipalId). ActsFor alice_and_bob one.0 principal) (sym read) acts in
    omega (arith, only_itself 1 leads.0 principal leads.1)
of_two principal (suc (suc k), member, within, read, acts) = absurd (omega (arith, within))

two_of : (principal : ℕ) → principal < 2 →
    Any (λ (member : PrincipalId). ActsFor alice_and_bob member.0 principal) (record { 0 = 0 } ∷ record { 0 = 1 } ∷ [])
two_of zero within = (0, record { 0 = 0 }, omega arith, refl, ([], refl))
two_of (suc zero) within = (1, record { 0 = 1 }, omega arith, refl, ([], refl))
two_of (suc (suc principal)) within = absurd (omega (arith, within))

pub both_said : LabelLaws → IsSaid both_label both
both_said laws =
    let sets = laws.bottom_sets alice_and_bob in
    record {
      known = both_known;
      are_known = ((refl, (refl, tt)), tt);
      means = record {
        forbids = λ owner reader own read. (
          λ forbids. absurd (sets.forbids owner reader own read forbids),
          λ forbids. absurd (any_of_one (PartForbids alice_and_bob owner reader) _ forbids),
        );
        trusts = λ principal within. (
          λ trusts. (0, _, omega arith, refl, two_of principal ((sets.trusts principal within).0 trusts)),
          λ trusts. (sets.trusts principal within).1
              (of_two principal (any_of_one (PartTrusts alice_and_bob principal) _ trusts)),
        );
      };
      over = laws.bottom_over alice_and_bob two_declared;
    }

-- ---- the three labels

pub record MadeLabels : Type 0 where
  pub alice : Label
  pub bob : Label
  pub alice_said : IsSaid alice_label alice
  pub bob_said : IsSaid bob_label bob
  pub both_is_said : IsSaid both_label both

pub made_labels : LabelLaws → MadeLabels
made_labels laws =
    let one = said_by laws alice_label (((0, omega arith, refl), tt), (((0, omega arith, refl), tt), tt)) in
    let other = said_by laws bob_label (((1, omega arith, refl), tt), (((1, omega arith, refl), tt), tt)) in
    record {
      alice = one.0;
      bob = other.0;
      alice_said = one.1;
      bob_said = other.1;
      both_is_said = both_said laws;
    }

-- a label of these principals is the same joined with the one that both trust
pub joined_both : LabelLaws → (label : Label) → IsLabelOver alice_and_bob label → join_of label both ≡ label
joined_both laws label over =
    laws.join_commutative label both ∙ laws.join_bottom alice_and_bob label two_declared over
