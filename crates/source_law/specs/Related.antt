-- A configuration of an altered run, and one of the plain run from the same store.
--
-- Both runs have the same to do in the same order, but for items that are idle: what these change may be affected. So
-- nothing is said of idle items but that they are, nor of calls that only one run made. An altered run leaves calls
-- out, and makes others where a guard that may be affected has another value, so the numbers of calls differ between
-- the runs.
use Rattle.std.specs.Prelude.{◌≡◌, ◌⊎◌, ℕ, ℤ, List, [], ◌∷◌, Option, Some, slice_get, IsSomeAnd}
use Rattle.js_base.specs.declared.ids.FieldId.{FieldId}
use Rattle.js_base.specs.declared.ids.VarId.{VarId}
use Rattle.jif_tree.specs.declared.program.Program.{Program}
use Rattle.jif_tree.specs.Store.{row_of}
use Rattle.jif_tree.specs.SourceRun.{Call, Item, run, keep, Configuration, method_at, result_of}
use Rattle.jif_tree.specs.Altered.{Exposure, FieldIsAffected, VariableIsAffected}
use Rattle.source_law.specs.Steady.{IsIdle, IsSteady}

-- ---- stores

-- fields that may not be affected are the same
abbrev pub FieldsAgree : Exposure → List (List ℤ) → List (List ℤ) → Type 0
FieldsAgree exposure one other =
    (field : FieldId) → ¬ FieldIsAffected exposure field → row_of one field.0 ≡ row_of other field.0

-- ---- calls

-- Calls of the altered run with those of the plain run that are the same. Each run also makes calls that the other has
-- not, so their numbers differ.
abbrev pub Pairs : Type 0
Pairs = List (ℕ × ℕ)

-- a call of the altered run has this one of the plain run for its mate
abbrev pub IsPair : Pairs → ℕ → ℕ → Type 0
IsPair pairs i j = (place : ℕ) × (slice_get pairs place ≡ Some (i, j))

-- two calls of one method that were made by a pair, with the same values where these may not be affected
pub record AreCallsAlike (exposure : Exposure) (pairs : Pairs) (first second : Call) : Type 0 where
  pub method : first.method ≡ second.method
  pub callers : IsPair pairs first.caller second.caller
  pub values : (x : VarId) → ¬ VariableIsAffected exposure x → first.values x.0 ≡ second.values x.0

-- the calls of these numbers are there, and are alike
pub record AreMates (exposure : Exposure) (pairs : Pairs) (calls others : List Call) (i j : ℕ) : Type 0 where
  pub first : Call
  pub first_there : slice_get calls i ≡ Some first
  pub second : Call
  pub second_there : slice_get others j ≡ Some second
  pub alike : AreCallsAlike exposure pairs first second

-- ---- items

-- the call is there, and this holds of the result of its method
abbrev pub IsInCall : Program → List Call → ℕ → (Option VarId → Type 0) → Type 0
IsInCall program calls call Holds =
    IsSomeAnd (slice_get calls call) (λ made. Holds (result_of (method_at program made.method)))

-- what the item changes may be affected
abbrev pub ItemIsIdle : Program → Exposure → List Call → Item → Type 0
ItemIsIdle program exposure calls (run call statement) =
    IsInCall program calls call (λ result. IsIdle program exposure result statement.kind)
ItemIsIdle program exposure calls (keep call into result) = VariableIsAffected exposure into

-- the same is to be done in a pair of calls
abbrev pub AreItemsAlike : Program → Exposure → Pairs → List Call → Item → Item → Type 0
AreItemsAlike program exposure pairs calls (run i first) (run j second) =
    IsPair pairs i j × (first ≡ second)
    × IsInCall program calls i (λ result. IsSteady program exposure result first.id first.kind)
AreItemsAlike program exposure pairs calls (keep i into result) (keep j onto other) =
    IsPair pairs i j × (into ≡ onto) × (result ≡ other)
    × (VariableIsAffected exposure into ⊎ (¬ VariableIsAffected exposure result))
AreItemsAlike program exposure pairs calls first second = ⊥

-- The same is to be done in the same order, but for idle items, of which each side may have others.
pub data AreAligned (program : Program) (exposure : Exposure) (pairs : Pairs) (calls others : List Call) :
    List Item → List Item → Type 0 where
  ended : AreAligned program exposure pairs calls others [] []
  idles : (item : Item) (items more : List Item) → ItemIsIdle program exposure calls item →
      AreAligned program exposure pairs calls others items more →
      AreAligned program exposure pairs calls others (item ∷ items) more
  other_idles : (item : Item) (items more : List Item) → ItemIsIdle program exposure others item →
      AreAligned program exposure pairs calls others items more →
      AreAligned program exposure pairs calls others items (item ∷ more)
  alike : (first second : Item) (items more : List Item) → AreItemsAlike program exposure pairs calls first second →
      AreAligned program exposure pairs calls others items more →
      AreAligned program exposure pairs calls others (first ∷ items) (second ∷ more)

-- ---- configurations

-- The first is of an altered run, the second of the plain run. Each call has one mate at most.
pub record AreRelated (program : Program) (exposure : Exposure) (c d : Configuration) : Type 0 where
  pub fields : FieldsAgree exposure c.store d.store
  pub pairs : Pairs
  pub mates : (i j : ℕ) → IsPair pairs i j → AreMates exposure pairs c.calls d.calls i j
  pub one_there : (i j k : ℕ) → IsPair pairs i j → IsPair pairs i k → j ≡ k
  pub one_here : (i j k : ℕ) → IsPair pairs i k → IsPair pairs j k → i ≡ j
  pub pending : AreAligned program exposure pairs c.calls d.calls c.pending d.pending
