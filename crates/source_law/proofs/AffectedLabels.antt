-- What may be affected goes up along the flows of labels.
use Rattle.std.proofs.Common.{◌≡◌, inr, arith, ℕ, ◌<◌, List, bit_or, Option, Some, None, IsSomeAnd, slice_get}
use Rattle.std.specs.Int.{bit_at}
use Rattle.std.proofs.lemmas.Nat.Bits.{bit_at_and, bit_at_or, bit_at-zero}
use Rattle.js_base.specs.declared.ids.FieldId.{FieldId}
use Rattle.js_base.specs.declared.ids.VarId.{VarId}
use Rattle.js_base.proofs.BitLemmas.{is_bit}
use Rattle.js_base.proofs.Decisions.{Decided, any_of}
use Rattle.label_lattice.specs.declared.label.Label.{Label}
use Rattle.label_lattice.specs.Label.{IntegFlows}
use Rattle.label_lattice.specs.Lattice.{join_of, meet_of, empty_label}
use Rattle.label_lattice.proofs.Decisions.{integ_flows}
use Rattle.jif_tree.specs.Altered.{Exposure, IsAffected, FieldIsAffected, VariableIsAffected}
use Rattle.jif_tree.specs.LabelRules.{crossed}
use Rattle.source_law.proofs.Lists.{any_also}

-- ---- labels

pub affected_up : (bad : List Label) (from to : Label) → IntegFlows from to → IsAffected bad from → IsAffected bad to
affected_up bad from to flows far =
    any_also (λ host. IntegFlows host from) (λ host. IntegFlows host to)
    (λ host own p within trusts. own p within (flows p within trusts)) bad far

affected_decided : (bad : List Label) (label : Label) → Decided (IsAffected bad label)
affected_decided bad label = any_of (λ host. IntegFlows host label) (λ host. integ_flows host label) bad

pub integ_first : (first second : Label) → IntegFlows first (join_of first second)
unfolding join_of
integ_first first second p within trusts =
    let both = bit_at_and first.trust second.trust p in
    let bit : bit_at first.trust p < 2 = is_bit first.trust p in
    omega (arith, both, bit, trusts)

pub integ_second : (first second : Label) → IntegFlows second (join_of first second)
unfolding join_of
integ_second first second p within trusts =
    let both = bit_at_and first.trust second.trust p in
    let bit : bit_at second.trust p < 2 = is_bit second.trust p in
    omega (arith, both, bit, trusts)

-- a value keeps its integrity where it is released
nobody_joins : (first : Label) (p : ℕ) → bit_at (join_of first empty_label).trust p ≡ 0
unfolding join_of empty_label
nobody_joins first p =
    let both = bit_at_and first.trust 0 p in
    let none = bit_at-zero p in
    omega (arith, both, none)

other_bit : (first second p : ℕ) → bit_at first p ≡ 0 → bit_at (bit_or first second) p ≡ 1 → bit_at second p ≡ 1
other_bit first second p clear set =
    let either = bit_at_or first second p in
    let bit : bit_at second p < 2 = is_bit second p in
    omega (arith, clear, set, either, bit)

pub integ_crossed : (first second : Label) → IntegFlows second (crossed first second)
unfolding meet_of
integ_crossed first second p within trusts =
    other_bit (join_of first empty_label).trust second.trust p (nobody_joins first p) trusts

-- ---- each is decided

found_decided : (bad : List Label) (found : Option Label) → Decided (IsSomeAnd found (IsAffected bad))
found_decided bad None = inr (λ never. never)
found_decided bad (Some label) = affected_decided bad label

pub variable_decided : (exposure : Exposure) (x : VarId) → Decided (VariableIsAffected exposure x)
variable_decided exposure x = found_decided exposure.bad (slice_get exposure.variables x.0)

pub field_decided : (exposure : Exposure) (field : FieldId) → Decided (FieldIsAffected exposure field)
field_decided exposure field = found_decided exposure.bad (slice_get exposure.fields field.0)
