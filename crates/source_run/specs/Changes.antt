-- What a step may change of the store and of the calls, and what makes it do so.
use Rattle.std.specs.Prelude.{◌≡◌, ℕ, ℤ, List, [], ◌∷◌, ◌++◌, Option, Some, slice_get}
use Rattle.std.specs.Bool.{⊤}
use Rattle.js_base.specs.declared.ids.VarId.{VarId}
use Rattle.jif_tree.specs.declared.program.Program.{Program}
use Rattle.jif_tree.specs.declared.program.StmtKind.{StmtKind}
use Rattle.jif_tree.specs.declared.program.StmtKind as kind
use Rattle.jif_tree.specs.Store.{store_after_write}
use Rattle.jif_tree.specs.SourceRun.{Call, Item, run, keep, Configuration, variable, calls_after}
use Rattle.jif_tree.specs.SourceRun.{method_at, result_of}

-- one change, or none
pub data Change : Type 0 where
  nothing : Change
  -- of an element of a field
  write : (field : ℕ) (index value : ℤ) → Change
  -- of a variable of a call
  assignment : (call x : ℕ) (value : ℤ) → Change
  new_call : Call → Change

abbrev pub store_changed : Change → List (List ℤ) → List (List ℤ)
store_changed (write field index value) store = store_after_write store field index value
store_changed _ store = store

abbrev pub calls_changed : Change → List Call → List Call
calls_changed (assignment call x value) calls = calls_after calls call x value
calls_changed (new_call made) calls = calls ++ made ∷ []
calls_changed _ calls = calls

-- ---- which changes are due

abbrev pub Writes : StmtKind → ℕ → Type 0
Writes (kind.SetField into value) field = field ≡ into.0
Writes (kind.SetElement into index value) field = field ≡ into.0
Writes _ field = ⊥

-- a call was made by another one, and its method leaves its result in this variable of that one
abbrev pub ReturnsTo : Program → Option Call → ℕ → ℕ → Type 0
ReturnsTo program found caller x =
    (made : Call) × (found ≡ Some made) × (caller ≡ made.caller)
    × (result : VarId) × (result_of (method_at program made.method) ≡ Some result) × (x ≡ result.0)

-- a statement of call n sets a variable of its own call, or, where it is a `return`, of that which made its call
abbrev pub Assigns : Program → List Call → ℕ → StmtKind → ℕ → ℕ → Type 0
Assigns program calls n (kind.Let var value) call x = (call ≡ n) × (x ≡ var.0)
Assigns program calls n (kind.Return value) call x = ReturnsTo program (slice_get calls n) call x
Assigns program calls n _ call x = ⊥

-- a statement of call n makes this call
abbrev pub Calls : ℕ → StmtKind → Call → Type 0
Calls n (kind.Call site method args into) made = (made.caller ≡ n) × (made.method ≡ method.0)
Calls n _ made = ⊥

-- a statement of call n may make this change
abbrev pub IsOfStatement : Program → List Call → ℕ → StmtKind → Change → Type 0
IsOfStatement program calls n what nothing = ⊤
IsOfStatement program calls n what (write field index value) = Writes what field
IsOfStatement program calls n what (assignment call x value) = Assigns program calls n what call x
IsOfStatement program calls n what (new_call made) = Calls n what made

-- the first item may make this change
abbrev pub IsOfItems : Program → List Call → List Item → Change → Type 0
IsOfItems program calls [] change = change ≡ nothing
IsOfItems program calls (run n statement ∷ behind) change = IsOfStatement program calls n statement.kind change
IsOfItems program calls (keep n into result ∷ behind) change =
    change ≡ assignment n into.0 (variable calls n result.0)

-- the store and the calls of a configuration are those of another one after one change of these
pub record DiffersByOne (Due : Change → Type 0) (before after : Configuration) : Type 0 where
  pub change : Change
  pub due : Due change
  pub store : after.store ≡ store_changed change before.store
  pub calls : after.calls ≡ calls_changed change before.calls

-- one step does what its item may do
abbrev pub ChangesByOne : Program → Configuration → Configuration → Type 0
ChangesByOne program before after = DiffersByOne (IsOfItems program before.calls before.pending) before after
