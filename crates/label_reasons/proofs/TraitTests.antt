-- The tests of traits, and the sets that they tell of.
use Rattle.std.proofs.Common.{◌↔◌, ◌⊎◌, inl, inr, IsTrue, ℕ, Bool, true, false, not, refl}
use Rattle.std.proofs.lemmas.Bool.{both_ways, cases_Bool, eqb-true, eq-eqb, not-true, not_from_false}
use Rattle.std.specs.Int.{bit_at}
use Rattle.std.specs.Prelude.{slice_index}
use Rattle.label_lattice.specs.declared.label.Label.{Label}
use Rattle.label_lattice.specs.Label.{Forbids, Trusts, IsLabel, Flows}
use Rattle.label_lattice.specs.Lattice.{IsJoin, join_of}
use Rattle.label_lattice.specs.Printed.{forbids, is_trusted_by}
use Rattle.label_reasons.specs.declared.reason.Trait.{Trait}
use Rattle.label_reasons.specs.declared.reason.Trait.TheVariants.{Keeps, Distrusts}
use Rattle.label_reasons.specs.Traits.{has, IsTrait, TraitIsLacking}

-- what the laws of labels say of joins, and those of their texts of tests
abbrev pub AreJoined : Type 0
AreJoined = (first second : Label) → IsLabel first → IsLabel second → IsJoin first second (join_of first second)

abbrev pub AreTrusted : Type 0
AreTrusted = (label : Label) (principal : ℕ) → IsTrue (is_trusted_by label principal) ↔ Trusts label principal

pub forbids_is : (label : Label) (owner reader : ℕ) → IsTrue (forbids label owner reader) ↔ Forbids label owner reader
forbids_is label owner reader = (
  eqb-true (bit_at (slice_index label.rows owner) reader) 0,
  eq-eqb (bit_at (slice_index label.rows owner) reader) 0,
)

pub not_both : (b : Bool) → IsTrue b → ¬ IsTrue (not b)
not_both b is denied = both_ways b (not-true b denied) is

-- where a test is true exactly where two others are, it is denied exactly where one of them is
denied_by_one : (both first second : Bool) → (IsTrue both ↔ (IsTrue first × IsTrue second)) →
    IsTrue (not both) ↔ (IsTrue (not first) ⊎ IsTrue (not second))
denied_by_one true true true are = (λ is. inl is, λ is. elim is [ inl one ↦ one | inr other ↦ other ])
denied_by_one true true false are = (λ is. inr refl, λ is. (are.0 refl).1)
denied_by_one true false second are = (λ is. inl refl, λ is. (are.0 refl).0)
denied_by_one false true true are = (λ is. inl (are.1 (refl, refl)), λ is. refl)
denied_by_one false true false are = (λ is. inr refl, λ is. refl)
denied_by_one false false second are = (λ is. inl refl, λ is. refl)

pub has_join : AreJoined → AreTrusted → (trait : Trait) (first second : Label) → IsTrait trait → IsLabel first →
    IsLabel second → IsTrue (has trait (join_of first second)) ↔ (IsTrue (has trait first) ⊎ IsTrue (has trait second))
has_join joined trusted (Keeps owner reader) first second within one two = (
  λ is. elim (sets.0 ((forbids_is (join_of first second) owner reader).0 is)) [
    | inl here ↦ inl ((forbids_is first owner reader).1 here)
    | inr here ↦ inr ((forbids_is second owner reader).1 here)
  ],
  λ is. (forbids_is (join_of first second) owner reader).1 (sets.1 (elim is [
    | inl here ↦ inl ((forbids_is first owner reader).0 here)
    | inr here ↦ inr ((forbids_is second owner reader).0 here)
  ])),
)
  where
    sets : Forbids (join_of first second) owner reader ↔ (Forbids first owner reader ⊎ Forbids second owner reader)
    sets = (joined first second one two).forbids owner reader within.0 within.1
has_join joined trusted (Distrusts principal) first second within one two =
    denied_by_one (is_trusted_by (join_of first second) principal) (is_trusted_by first principal)
    (is_trusted_by second principal) (
      λ is. let both = sets.0 ((trusted (join_of first second) principal).0 is) in
          ((trusted first principal).1 both.0, (trusted second principal).1 both.1),
      λ are. (trusted (join_of first second) principal).1
          (sets.1 ((trusted first principal).0 are.0, (trusted second principal).0 are.1)),
    )
  where
    sets : Trusts (join_of first second) principal ↔ (Trusts first principal × Trusts second principal)
    sets = (joined first second one two).trusts principal within

pub fails_flow : AreTrusted → (trait : Trait) (from to : Label) → IsTrait trait → TraitIsLacking trait from to →
    ¬ Flows from to
fails_flow trusted (Keeps owner reader) from to within fails flows =
    fails.1 ((forbids_is to owner reader).1
    (flows.0 owner reader within.0 within.1 ((forbids_is from owner reader).0 fails.0)))
fails_flow trusted (Distrusts principal) from to within fails flows = elim (cases_Bool (is_trusted_by to principal)) [
  | inl is ↦ not_both (is_trusted_by from principal)
      ((trusted from principal).1 (flows.1 principal within ((trusted to principal).0 is))) fails.0
  | inr lacks ↦ fails.1 (not_from_false (is_trusted_by to principal) lacks)
]

pub flows_else : AreTrusted → (from to : Label) → ((trait : Trait) → IsTrait trait → ¬ TraitIsLacking trait from to) →
    Flows from to
flows_else trusted from to none = (
  λ owner reader owner_in reader_in held. elim (cases_Bool (forbids to owner reader)) [
    | inl is ↦ (forbids_is to owner reader).0 is
    | inr free ↦ absurd (none (Keeps owner reader) (owner_in, reader_in)
        ((forbids_is from owner reader).1 held, both_ways (forbids to owner reader) free))
  ],
  λ principal within trusts. elim (cases_Bool (is_trusted_by from principal)) [
    | inl is ↦ (trusted from principal).0 is
    | inr lacks ↦ absurd (none (Distrusts principal) within (
      not_from_false (is_trusted_by from principal) lacks,
      not_both (is_trusted_by to principal) ((trusted to principal).1 trusts),
    ))
  ],
)
