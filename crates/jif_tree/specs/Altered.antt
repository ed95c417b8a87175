-- What hosts that misbehave may make of a plain run. Each is known by the label that says who trusts it.
use Rattle.std.specs.Prelude.{◌≡◌, ◌⊎◌, ℕ, ℤ, pos, List, [], ◌∷◌, Any, IsSomeAnd, slice_get, slice_index}
use Rattle.std.specs.List.{AllZip}
use Rattle.js_base.specs.declared.ids.FieldId.{FieldId}
use Rattle.js_base.specs.declared.ids.VarId.{VarId}
use Rattle.js_base.specs.declared.ids.StmtId.{StmtId}
use Rattle.label_lattice.specs.declared.label.Label.{Label}
use Rattle.label_lattice.specs.Label.{IntegFlows, IsTrustedBy}
use Rattle.jif_tree.specs.declared.program.Program.{Program}
use Rattle.jif_tree.specs.declared.program.Expr.{Expr}
use Rattle.jif_tree.specs.declared.program.Expr as expr
use Rattle.jif_tree.specs.Numbers.{IsNumber}
use Rattle.jif_tree.specs.Operators.{binary_value, negation, inversion}
use Rattle.jif_tree.specs.Store.{element_at, row_of, store_after_write}
use Rattle.jif_tree.specs.SourceRun.{Item, run, keep, Configuration, variable, calls_after, operands, executed}

-- ---- what they may affect

-- The labels of the hosts that misbehave; those of the fields and of the variables; and for each statement a word of
-- those who have to trust its host.
pub record Exposure : Type 0 where
  pub bad : List Label
  pub fields : List Label
  pub variables : List Label
  pub needs : List ℕ

-- whoever trusts the label trusts one of these hosts
abbrev pub IsAffected : List Label → Label → Type 0
IsAffected bad label = Any (λ host. IntegFlows host label) bad

abbrev pub FieldIsAffected : Exposure → FieldId → Type 0
FieldIsAffected exposure field = IsSomeAnd (slice_get exposure.fields field.0) (IsAffected exposure.bad)

abbrev pub VariableIsAffected : Exposure → VarId → Type 0
VariableIsAffected exposure x = IsSomeAnd (slice_get exposure.variables x.0) (IsAffected exposure.bad)

-- whoever has to trust the statement's host trusts one of these hosts
abbrev pub StatementIsAffected : Exposure → StmtId → Type 0
StatementIsAffected exposure statement =
    Any (λ host. IsTrustedBy host (slice_index exposure.needs statement.0)) exposure.bad

-- ---- what an expression may give

-- a single reading gives what is there, and any number where that may be affected
abbrev pub MayRead : Type 0 → ℤ → ℤ → Type 0
MayRead affected there value = (value ≡ there) ⊎ (affected × IsNumber value)

abbrev pub MayGive : Exposure → Configuration → ℕ → Expr → ℤ → Type 0
MayGive exposure c call (expr.Number n) value = value ≡ n
MayGive exposure c call (expr.Local x) value =
    MayRead (VariableIsAffected exposure x) (variable c.calls call x.0) value
MayGive exposure c call (expr.Scalar field) value =
    MayRead (FieldIsAffected exposure field) (element_at (row_of c.store field.0) (pos 0)) value
MayGive exposure c call (expr.Element' field p index) value =
    (place : ℤ) × MayGive exposure c call index place
    × MayRead (FieldIsAffected exposure field) (element_at (row_of c.store field.0) place) value
MayGive exposure c call (expr.Not' p operand) value =
    (inner : ℤ) × MayGive exposure c call operand inner × (value ≡ inversion inner)
MayGive exposure c call (expr.Negate' p operand) value =
    (inner : ℤ) × MayGive exposure c call operand inner × (value ≡ negation inner)
MayGive exposure c call (expr.Binary' operator p left q right) value =
    (first second : ℤ) × MayGive exposure c call left first × MayGive exposure c call right second
    × (value ≡ binary_value operator first second)
MayGive exposure c call (expr.Declassify' p inner label) value = MayGive exposure c call inner value
MayGive exposure c call (expr.Endorse' p inner label) value = MayGive exposure c call inner value

-- ---- what comes next

-- a step of the plain run, by what its readings may give
abbrev pub MayStep : Program → Exposure → Configuration → List Item → Configuration → Type 0
MayStep program exposure c [] next = ⊥
MayStep program exposure c (run call statement ∷ behind) next =
    (values : List ℤ) × AllZip (MayGive exposure c call) (operands statement.kind) values
    × (next ≡ executed program c call (run call statement) statement.kind values behind)
MayStep program exposure c (keep call into result ∷ behind) next =
    (value : ℤ) × MayRead (VariableIsAffected exposure result) (variable c.calls call result.0) value
    × (next ≡ record c { calls = calls_after c.calls call into.0 value; pending = behind })

-- An item may be left out where its statement may be affected. That of a result that is to be kept is a call, by which
-- whoever trusts the variable has to be asked for.
abbrev pub MayBeLeft : Exposure → Item → Type 0
MayBeLeft exposure (run call statement) = StatementIsAffected exposure statement.id
MayBeLeft exposure (keep call into result) = VariableIsAffected exposure into

-- What may come next: a step; any number in an element or a variable that may be affected; or what is left where the
-- front item is left out.
pub data Alters (program : Program) (exposure : Exposure) (c next : Configuration) : Type 0 where
  steps : MayStep program exposure c c.pending next → Alters program exposure c next
  changes_field : (field : FieldId) (index value : ℤ) → FieldIsAffected exposure field → IsNumber value →
      next ≡ record c { store = store_after_write c.store field.0 index value } → Alters program exposure c next
  changes_variable : (call : ℕ) (x : VarId) (value : ℤ) → VariableIsAffected exposure x → IsNumber value →
      next ≡ record c { calls = calls_after c.calls call x.0 value } → Alters program exposure c next
  leaves_out : (item : Item) (behind : List Item) → c.pending ≡ item ∷ behind → MayBeLeft exposure item →
      next ≡ record c { pending = behind } → Alters program exposure c next

-- ---- altered runs

-- what comes next, again and again or not at all: the configurations behind the first, of which this is the last
abbrev pub Altered : Program → Exposure → Configuration → List Configuration → Configuration → Type 0
Altered program exposure c [] now = now ≡ c
Altered program exposure c (next ∷ others) now =
    Alters program exposure c next × Altered program exposure next others now
