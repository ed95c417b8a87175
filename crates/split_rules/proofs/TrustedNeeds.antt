-- Which needs a label is trusted for, and what a host of that label may affect then.
use Rattle.std.proofs.Common.{◌≡◌, ℕ, zero, suc, ◌<◌, ◌⊎◌, inl, inr, List, [], ◌∷◌, ◌++◌, map, refl, arith, bit_or}
use Rattle.std.specs.Prelude.{Any, slice_index}
use Rattle.std.specs.Int.{bit_at}
use Rattle.std.specs.List.{AllByRecursion}
use Rattle.std.proofs.lemmas.Nat.Bits.{bit_at_or, bit_at-zero}
use Rattle.js_base.specs.declared.ids.StmtId.{StmtId}
use Rattle.js_base.proofs.BitLemmas.{is_bit}
use Rattle.principals.specs.ActsFor.{Declared}
use Rattle.label_lattice.specs.declared.label.Label.{Label}
use Rattle.label_lattice.specs.declared.label.TheConstants.{READERS}
use Rattle.label_lattice.specs.Label.{IntegFlows, IsTrustedBy}
use Rattle.need_labels.specs.Needs.{Backing, for_label, Backs, IsNeed}
use Rattle.need_labels.proofs.Somewhere.{any_here, any_later, any_left, any_first, any_none}
use Rattle.msg_cost.specs.Moves.{PlannedShape}
use Rattle.split_rules.specs.Walk.{need_of}

-- ---- words

pub none_needed : (label : Label) → IsTrustedBy label 0
none_needed label p p_in set = let none = bit_at-zero p in absurd (omega arith)

either_set : (first second : ℕ) → first < 2 → second < 2 → (first ≡ 0 → second ≡ 0 → ⊥) → (first ≡ 1) ⊎ (second ≡ 1)
either_set zero zero one two apart = absurd (apart refl refl)
either_set zero (suc second) one two apart = inr (omega arith)
either_set (suc first) second one two apart = inl (omega arith)

pub both_needed : (label : Label) (first second : ℕ) → IsTrustedBy label first → IsTrustedBy label second →
    IsTrustedBy label (bit_or first second)
both_needed label first second one two p p_in set =
    let both = bit_at_or first second p in
    elim (either_set (bit_at first p) (bit_at second p) (is_bit first p) (is_bit second p)
    (λ clear none. omega (arith, both, set, clear, none))) [
      | inl own ↦ one p p_in own
      | inr other ↦ two p p_in other
    ]

-- ---- what a need backs

is_set : (own both : ℕ) → both ≡ own → both ≡ 1 → own ≡ 1
is_set own both same set = omega arith

-- a host that affects the begin label of a method is trusted for its head
pub head_needed : (planned : PlannedShape) (principals : Declared) (label : Label) (head : StmtId) (begin : Label) →
    IsNeed principals (for_label begin ∷ []) (slice_index planned.needs.need head.0) → IntegFlows label begin →
    IsTrustedBy label (need_of planned (head ∷ []))
head_needed planned principals label head begin need flows p p_in set =
    let word = slice_index planned.needs.need head.0 in
    let both = bit_at_or word 0 p in
    let none = bit_at-zero p in
    let same : bit_at (bit_or word 0) p ≡ bit_at word p = omega arith in
    let some = (need.members p p_in).0 (is_set (bit_at word p) (bit_at (bit_or word 0) p) same set) in
    elim (any_first (Backs principals p) (for_label begin) [] some) [
      | inl trusts ↦ flows p p_in trusts
      | inr nobody ↦ absurd (any_none (Backs principals p) nobody)
    ]

affects_all : (principals : Declared) (label : Label) (need : ℕ) → IsTrustedBy label need → (changed : List Label) →
    ((p : ℕ) → p < READERS → Any (Backs principals p) (map for_label changed) → bit_at need p ≡ 1) →
    AllByRecursion (IntegFlows label) changed
affects_all principals label need trusted [] within = tt
affects_all principals label need trusted (one ∷ changed) within = (
  λ p p_in trusts. trusted p p_in (within p p_in
      (any_here (Backs principals p) (for_label one) (map for_label changed) trusts)),
  affects_all principals label need trusted changed
      (λ p p_in some. within p p_in (any_later (Backs principals p) (for_label one) (map for_label changed) some)),
)

-- a host that is trusted for a statement affects all that the statement changes
pub changes_all : (principals : Declared) (label : Label) (need : ℕ) → IsTrustedBy label need →
    (changed : List Label) (released nested : List Backing) →
    IsNeed principals (map for_label changed ++ released ++ nested) need → AllByRecursion (IntegFlows label) changed
changes_all principals label need trusted changed released nested is =
    affects_all principals label need trusted changed
    (λ p p_in some. (is.members p p_in).1 (any_left (Backs principals p) (map for_label changed ++ released) nested
    (any_left (Backs principals p) (map for_label changed) released some)))
