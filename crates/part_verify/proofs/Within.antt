-- What needs have, where one need has another.
use Rattle.std.proofs.Common.{◌-◌, ◌^◌, ℕ, List, [], ◌∷◌, arith, bit_and}
use Rattle.std.specs.Int.{bit_at}
use Rattle.std.specs.List.{AllByRecursion}
use Rattle.std.proofs.Math.Nat.{le_trans, le_refl}
use Rattle.std.proofs.lemmas.Nat.Bits.{bit_at_and, bit_at_ones}
use Rattle.js_base.specs.Bits.{BitsWithin}
use Rattle.js_base.specs.declared.ids.FieldId.{FieldId}
use Rattle.js_base.specs.declared.ids.VarId.{VarId}
use Rattle.js_base.specs.declared.ids.EntryId.{EntryId}
use Rattle.js_base.proofs.BitLemmas.{is_bit}
use Rattle.host_code.specs.declared.instruction.Op.{Op}
use Rattle.host_code.specs.declared.instruction.Op.TheVariants as op
use Rattle.host_code.specs.Code.{CodeShape}
use Rattle.part_verify.specs.SoundPart.{LabelWithin, EntryWithin, FieldWithin, VariableWithin, NamesWithin}

pub within_itself : (word : ℕ) → BitsWithin word word
within_itself word k below = le_refl (bit_at word k)

pub within_through : (first second third : ℕ) → BitsWithin first second → BitsWithin second third →
    BitsWithin first third
within_through first second third inner outer k below = le_trans (inner k below) (outer k below)

pub common_in_first : (first second : ℕ) → BitsWithin (bit_and first second) first
common_in_first first second k below = omega (arith, bit_at_and first second k)

pub common_in_second : (first second : ℕ) → BitsWithin (bit_and first second) second
common_in_second first second k below = omega (arith, bit_at_and first second k)

pub in_common : (word first second : ℕ) → BitsWithin word first → BitsWithin word second →
    BitsWithin word (bit_and first second)
in_common word first second one other k below =
    omega (arith, bit_at_and first second k, one k below, other k below)

abbrev pub all_set : ℕ
all_set = 2 ^ 64 - 1

pub in_all_set : (word : ℕ) → BitsWithin word all_set
in_all_set word k below = omega (arith, bit_at_ones 64 k below, is_bit word k)

-- ---- what is named

module _ (code : CodeShape) (first second third : ℕ)
    (has : (word : ℕ) → BitsWithin word first → BitsWithin word second → BitsWithin word third) where
  entry_in_both : (entry : EntryId) → EntryWithin code first entry → EntryWithin code second entry →
      EntryWithin code third entry
  entry_in_both entry one other there is = has there.need (one there is) (other there is)

  label_in_both : (label : ℕ) → LabelWithin code first label → LabelWithin code second label →
      LabelWithin code third label
  label_in_both label one other there is = has there.trust (one there is) (other there is)

  field_in_both : (field : FieldId) → FieldWithin code first field → FieldWithin code second field →
      FieldWithin code third field
  field_in_both field one other there is = label_in_both there.label (one there is) (other there is)

  variable_in_both : (variable : VarId) → VariableWithin code first variable → VariableWithin code second variable →
      VariableWithin code third variable
  variable_in_both variable one other there is = label_in_both there.label (one there is) (other there is)

  variables_in_both : (riders : List VarId) → AllByRecursion (VariableWithin code first) riders →
      AllByRecursion (VariableWithin code second) riders → AllByRecursion (VariableWithin code third) riders
  variables_in_both [] one other = one
  variables_in_both (rider ∷ riders) one other =
      (variable_in_both rider one.0 other.0, variables_in_both riders one.1 other.1)

  -- a need that has what two needs have in common has what an operation names, where both do
  pub names_in_both : (does : Op) → NamesWithin code first does → NamesWithin code second does →
      NamesWithin code third does
  names_in_both (op.Read field index) one other = one
  names_in_both (op.Let variable value) one other = variable_in_both variable one other
  names_in_both (op.Put field index value) one other = field_in_both field one other
  names_in_both (op.Send variable to) one other = variable_in_both variable one other
  names_in_both (op.Frame site) one other = one
  names_in_both (op.Arg variable value) one other = variable_in_both variable one other
  names_in_both (op.Pass variable to) one other = variable_in_both variable one other
  names_in_both (op.Push entry) one other = entry_in_both entry one other
  names_in_both (op.Ask entry on) one other = entry_in_both entry one other
  names_in_both (op.Go entry on) one other = entry_in_both entry one other
  names_in_both (op.Call entry on) one other = entry_in_both entry one other
  names_in_both (op.Ret variable value) one other = variable_in_both variable one other
  names_in_both op.Back one other = one
  names_in_both (op.Branch guard target) one other = one
  names_in_both (op.GoWith entry on riders) one other =
      (entry_in_both entry one.0 other.0, variables_in_both riders one.1 other.1)
  names_in_both (op.CallWith entry on riders) one other =
      (entry_in_both entry one.0 other.0, variables_in_both riders one.1 other.1)

pub names_in_larger : (code : CodeShape) (first second : ℕ) (does : Op) → BitsWithin first second →
    NamesWithin code first does → NamesWithin code second does
names_in_larger code first second does larger names =
    names_in_both code first first second (λ word one other. within_through word first second one larger) does
    names names

pub names_in_common : (code : CodeShape) (first second : ℕ) (does : Op) → NamesWithin code first does →
    NamesWithin code second does → NamesWithin code (bit_and first second) does
names_in_common code first second does =
    names_in_both code first second (bit_and first second) (λ word. in_common word first second) does

-- a word with all bits set has whatever is named
module _ (code : CodeShape) where
  entry_in_all : (entry : EntryId) → EntryWithin code all_set entry
  entry_in_all entry there is = in_all_set there.need

  field_in_all : (field : FieldId) → FieldWithin code all_set field
  field_in_all field there is label found = in_all_set label.trust

  variable_in_all : (variable : VarId) → VariableWithin code all_set variable
  variable_in_all variable there is label found = in_all_set label.trust

  variables_in_all : (riders : List VarId) → AllByRecursion (VariableWithin code all_set) riders
  variables_in_all [] = tt
  variables_in_all (rider ∷ riders) = (variable_in_all rider, variables_in_all riders)

  pub names_in_all : (does : Op) → NamesWithin code all_set does
  names_in_all (op.Read field index) = tt
  names_in_all (op.Let variable value) = variable_in_all variable
  names_in_all (op.Put field index value) = field_in_all field
  names_in_all (op.Send variable to) = variable_in_all variable
  names_in_all (op.Frame site) = tt
  names_in_all (op.Arg variable value) = variable_in_all variable
  names_in_all (op.Pass variable to) = variable_in_all variable
  names_in_all (op.Push entry) = entry_in_all entry
  names_in_all (op.Ask entry on) = entry_in_all entry
  names_in_all (op.Go entry on) = entry_in_all entry
  names_in_all (op.Call entry on) = entry_in_all entry
  names_in_all (op.Ret variable value) = variable_in_all variable
  names_in_all op.Back = tt
  names_in_all (op.Branch guard target) = tt
  names_in_all (op.GoWith entry on riders) = (entry_in_all entry, variables_in_all riders)
  names_in_all (op.CallWith entry on riders) = (entry_in_all entry, variables_in_all riders)
