-- Whatever an entry of split code leads to is open to who has the entry's need, so it names only what the need has.
use Rattle.std.proofs.Common.{◌≡◌, ◌≢◌, ◌⊎◌, ◌+◌, ℕ, zero, suc, List, [], ◌∷◌, sym, subst, inl, inr, refl, arith}
use Rattle.std.specs.Prelude.{Contains, Option, Some, slice_get, IsSomeAnd}
use Rattle.std.specs.List.{AllByRecursion}
use Rattle.std.specs.Int.{bit_at}
use Rattle.std.proofs.lemmas.List.Elements.{Contains-push_cases}
use Rattle.js_base.specs.declared.ids.HostId.{HostId}
use Rattle.js_base.specs.declared.ids.EntryId.{EntryId}
use Rattle.js_base.specs.declared.ids.FieldId.{FieldId}
use Rattle.js_base.specs.declared.ids.VarId.{VarId}
use Rattle.js_base.specs.Bits.{BitsWithin}
use Rattle.js_base.proofs.BitLemmas.{is_bit, bits_in_order}
use Rattle.label_lattice.specs.declared.label.Label.{Label}
use Rattle.label_lattice.specs.Label.{IntegFlows, IsTrustedBy}
use Rattle.host_code.specs.declared.code.Entry.{Entry}
use Rattle.host_code.specs.declared.instruction.Op.{Op}
use Rattle.host_code.specs.declared.instruction.Op.TheVariants as op
use Rattle.host_code.specs.Code.{CodeShape, CodeFieldShape, CodeVariableShape, halt}
use Rattle.entry_check.specs.Checks.{MayAffect, label_at}
use Rattle.msg_cost.specs.Moves.{PlannedShape}
use Rattle.split_rules.specs.Opening.{IsOpenTo, MayChange, MayChangeField, HasNeed, OpensOp, IsOpenCode}
use Rattle.split_rules.specs.TypedCode.{Table}
use Rattle.part_verify.specs.Paths.{LeadsIn, goes_on}
use Rattle.part_verify.specs.SoundPart.{EntryWithin, FieldWithin, VariableWithin, NamesWithin, AreNeedsKept}

-- a label that those of a word trust, and nobody else
abbrev of_need : ℕ → Label
of_need need = record { rows = []; trust = need }

none_there : (next : ℕ) → Contains [] next → ⊥
none_there next has = omega (arith, has.1)

-- the one place at which an instruction goes on that does not branch
next_place : (place next : ℕ) → Contains ((place + 1) ∷ []) next → next ≡ suc place
next_place place next goes = elim (Contains-push_cases [] (place + 1) next goes) [
  | inl none ↦ absurd (none_there next none)
  | inr same ↦ omega (arith, same)
]

-- and both of one that branches
next_places : (place target next : ℕ) → Contains (target ∷ (place + 1) ∷ []) next →
    (next ≡ target) ⊎ (next ≡ suc place)
next_places place target next goes = elim (Contains-push_cases (target ∷ []) (place + 1) next goes) [
  | inl first ↦ elim (Contains-push_cases [] target next first) [
    | inl none ↦ absurd (none_there next none)
    | inr same ↦ inl (sym same)
  ]
  | inr same ↦ inr (omega (arith, same))
]

module _ (planned : PlannedShape) (code : CodeShape) (table : Table) (need : ℕ) (me : HostId) where
  -- ---- places

  abbrev IsOpenAt : ℕ → Type 0
  IsOpenAt place = IsOpenTo planned (of_need need) (table.at me.0 place)

  on : (place next : ℕ) → IsOpenAt (suc place) → Contains ((place + 1) ∷ []) next → IsOpenAt next
  on place next here goes = subst IsOpenAt (sym (next_place place next goes)) here

  goes_open : (place next : ℕ) (does : Op) → OpensOp planned code table (of_need need) me place does →
      Contains (goes_on does place) next → IsOpenAt next
  goes_open place next (op.Read field index) law goes = on place next law goes
  goes_open place next (op.Let variable value) law goes = on place next law.1 goes
  goes_open place next (op.Put field index value) law goes = on place next law.1 goes
  goes_open place next (op.Send variable to) law goes = on place next law.1 goes
  goes_open place next (op.Frame site) law goes = on place next law goes
  goes_open place next (op.Arg variable value) law goes = on place next law.1 goes
  goes_open place next (op.Pass variable to) law goes = on place next law.1 goes
  goes_open place next (op.Push there) law goes = on place next law.1 goes
  goes_open place next (op.Ask there to) law goes = on place next law.1 goes
  goes_open place next (op.Go there to) law goes = absurd (none_there next goes)
  goes_open place next (op.Call there to) law goes = absurd (none_there next goes)
  goes_open place next (op.Ret variable value) law goes = on place next law.1 goes
  goes_open place next op.Back law goes = absurd (none_there next goes)
  goes_open place next (op.Branch guard target) law goes = elim (next_places place target next goes) [
    | inl same ↦ subst IsOpenAt (sym same) law.1
    | inr same ↦ subst IsOpenAt (sym same) law.0
  ]
  goes_open place next (op.GoWith there to riders) law goes = absurd (none_there next goes)
  goes_open place next (op.CallWith there to riders) law goes = absurd (none_there next goes)

  leads_open : IsOpenCode planned code table → (at : ℕ) → IsOpenAt at → (count place : ℕ) →
      LeadsIn code me count at place → IsOpenAt place
  leads_open opens at here zero place leads = subst IsOpenAt leads here
  leads_open opens at here (suc count) place (before, leads, (one, is, goes)) =
      goes_open before place one.op
      (opens.instructions (of_need need) me before one is (leads_open opens at here count before leads)) goes

  -- ---- what is named

  entry_within : (there : EntryId) → HasNeed code (of_need need) there → EntryWithin code need there
  entry_within there has entry is p p_in =
      let P : Option Entry → Type 0 = λ found. IsSomeAnd found (λ it. IsTrustedBy (of_need need) it.need) in
      let trusted : IsTrustedBy (of_need need) entry.need = subst P is has in
      bits_in_order (bit_at entry.need p) (bit_at need p) (is_bit entry.need p) (trusted p p_in)

  -- whoever trusts a label is in the need, where who is in the need may change what has the label
  label_within : (found : Option Label) (label : Label) → MayAffect (Some (of_need need)) found →
      found ≡ Some label → BitsWithin label.trust need
  label_within found label may is p p_in =
      let flows : IntegFlows (of_need need) label = subst (MayAffect (Some (of_need need))) is may in
      bits_in_order (bit_at label.trust p) (bit_at need p) (is_bit label.trust p) (flows p p_in)

  field_within : (field : FieldId) → MayChangeField code (of_need need) field → FieldWithin code need field
  field_within field may there is label found =
      let P : Option CodeFieldShape → Type 0 =
      λ it. IsSomeAnd it (λ one. MayAffect (Some (of_need need)) (label_at code one.label)) in
      label_within (label_at code there.label) label (subst P is may) found

  variable_within : (variable : VarId) → MayChange code (of_need need) variable → VariableWithin code need variable
  variable_within variable may there is label found =
      let P : Option CodeVariableShape → Type 0 =
      λ it. IsSomeAnd it (λ one. MayAffect (Some (of_need need)) (label_at code one.label)) in
      label_within (label_at code there.label) label (subst P is may) found

  variables_within : (riders : List VarId) → AllByRecursion (MayChange code (of_need need)) riders →
      AllByRecursion (VariableWithin code need) riders
  variables_within [] may = tt
  variables_within (rider ∷ riders) may = (variable_within rider may.0, variables_within riders may.1)

  names_within : (place : ℕ) (does : Op) → OpensOp planned code table (of_need need) me place does →
      NamesWithin code need does
  names_within place (op.Read field index) law = tt
  names_within place (op.Let variable value) law = variable_within variable law.0
  names_within place (op.Put field index value) law = field_within field law.0
  names_within place (op.Send variable to) law = variable_within variable law.0
  names_within place (op.Frame site) law = tt
  names_within place (op.Arg variable value) law = variable_within variable law.0
  names_within place (op.Pass variable to) law = variable_within variable law.0
  names_within place (op.Push there) law = entry_within there law.0
  names_within place (op.Ask there to) law = entry_within there law.0
  names_within place (op.Go there to) law = entry_within there law
  names_within place (op.Call there to) law = entry_within there law
  names_within place (op.Ret variable value) law = variable_within variable law.0
  names_within place op.Back law = tt
  names_within place (op.Branch guard target) law = tt
  names_within place (op.GoWith there to riders) law = (entry_within there law.0, variables_within riders law.1)
  names_within place (op.CallWith there to riders) law = (entry_within there law.0, variables_within riders law.1)

-- ---- entries

-- each entry but the one that ends the program opens its own place
entry_open : (planned : PlannedShape) (code : CodeShape) (table : Table) → IsOpenCode planned code table →
    (number : ℕ) (entry : Entry) → record { 0 = number } ≢ halt → slice_get code.entries number ≡ Some entry →
    IsOpenTo planned (of_need entry.need) (table.at entry.host.0 entry.at)
entry_open planned code table opens zero entry not_halt is = absurd (not_halt refl)
entry_open planned code table opens (suc number) entry not_halt is =
    opens.entries (of_need entry.need) number entry is (λ p p_in set. set)

pub needs_kept : (planned : PlannedShape) (code : CodeShape) (table : Table) (me : HostId) →
    IsOpenCode planned code table → AreNeedsKept code me
needs_kept planned code table me opens there place one under is =
    let need = under.entry.need in
    let at_entry = entry_open planned code table opens there.0 under.entry under.not_halt under.is in
    let begins = subst (λ (host : HostId). IsOpenTo planned (of_need need) (table.at host.0 under.entry.at))
    under.here at_entry in
    let here = leads_open planned code table need me opens under.entry.at begins under.leads.0 place under.leads.1 in
    names_within planned code table need me place one.op (opens.instructions (of_need need) me place one is here)
