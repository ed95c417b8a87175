-- What an expression may give, without pointers, where hosts that misbehave may affect what it reads.
use Rattle.std.specs.Prelude.{◌≡◌, ◌⊎◌, ℕ, ℤ, pos, List}
use Rattle.js_base.specs.declared.ids.FrameId.{FrameId}
use Rattle.js_base.specs.declared.ids.FieldId.{FieldId}
use Rattle.js_base.specs.declared.ids.VarId.{VarId}
use Rattle.jif_tree.specs.Altered.{Exposure, FieldIsAffected, VariableIsAffected, MayRead}
use Rattle.jif_tree.specs.Numbers.{IsNumber}
use Rattle.jif_tree.specs.Operators.{binary_value, negation, inversion}
use Rattle.jif_tree.specs.Store.{element_at, row_of}
use Rattle.jif_tree.specs.Trees.{ExprTree, number, local, scalar, element, inverted, negated, binary, declassified}
use Rattle.jif_tree.specs.Trees.{endorsed}
use Rattle.host_core.specs.Host.{HostState}
use Rattle.split_rules.specs.Positions.{FieldRead}

-- what an expression may give, where the store and the variables are these
abbrev pub MayTree : Exposure → List (List ℤ) → (ℕ → ℤ) → ExprTree → ℤ → Type 0
MayTree exposure store values (number n) value = value ≡ n
MayTree exposure store values (local x) value = MayRead (VariableIsAffected exposure x) (values x.0) value
MayTree exposure store values (scalar field) value =
    MayRead (FieldIsAffected exposure field) (element_at (row_of store field.0) (pos 0)) value
MayTree exposure store values (element field index) value =
    (place : ℤ) × MayTree exposure store values index place
    × MayRead (FieldIsAffected exposure field) (element_at (row_of store field.0) place) value
MayTree exposure store values (inverted operand) value =
    (inner : ℤ) × MayTree exposure store values operand inner × (value ≡ inversion inner)
MayTree exposure store values (negated operand) value =
    (inner : ℤ) × MayTree exposure store values operand inner × (value ≡ negation inner)
MayTree exposure store values (binary operator left right) value =
    (first second : ℤ) × MayTree exposure store values left first × MayTree exposure store values right second
    × (value ≡ binary_value operator first second)
MayTree exposure store values (declassified operand label) value = MayTree exposure store values operand value
MayTree exposure store values (endorsed operand label) value = MayTree exposure store values operand value

-- what a read may give
abbrev pub MayHold : Exposure → List (List ℤ) → (ℕ → ℤ) → FieldRead → ℤ → Type 0
MayHold exposure store values read value =
    (place : ℤ) × MayTree exposure store values read.index place
    × MayRead (FieldIsAffected exposure read.field) (element_at (row_of store read.field.0) place) value

-- two values of a variable are the same, or it may be affected
abbrev pub AreAlike : Exposure → VarId → ℤ → ℤ → Type 0
AreAlike exposure x one other = (one ≡ other) ⊎ VariableIsAffected exposure x

-- and so are two rows of the field of a number
abbrev pub AreRowsAlike : Exposure → ℕ → List ℤ → List ℤ → Type 0
AreRowsAlike exposure row one other = (one ≡ other) ⊎ FieldIsAffected exposure (record { 0 = row })

-- what a host has is a number wherever it may be affected
pub record HoldsNumbers (exposure : Exposure) (state : HostState) : Type 0 where
  pub elements : (field : FieldId) (place : ℤ) → FieldIsAffected exposure field →
      IsNumber (element_at (row_of state.rows field.0) place)
  pub variables : (frame : FrameId) (x : VarId) → VariableIsAffected exposure x → IsNumber (state.variables frame x)
