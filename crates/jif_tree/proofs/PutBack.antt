-- A variable that is set and then set back is as it was.
use Rattle.std.proofs.Common.{◌≡◌, ◌∙◌, ap, refl, sym, subst, inl, inr, ℕ, zero, suc, ℤ, List, []}
use Rattle.std.proofs.Common.{◌∷◌, Option, Some, None, slice_get}
use Rattle.std.specs.Prelude.{slice_set}
use Rattle.std.proofs.lemmas.Bool.Decides.{eqb_tells}
use mathlib.Core.Path.{fun_ext}
use Rattle.js_base.specs.declared.ids.VarId.{VarId}
use Rattle.jif_tree.specs.declared.program.Program.{Program}
use Rattle.jif_tree.specs.Altered.{Exposure, MayBeLeft, MayStep, Alters, changes_variable}
use Rattle.jif_tree.specs.Numbers.{IsNumber}
use Rattle.jif_tree.specs.SourceRun.{Call, Item, keep, Configuration, variable, with_value, calls_after}

-- ---- one call

-- a test on two numbers chooses a value that is the same either way
put_at : (values : ℕ → ℤ) (x y : ℕ) (value : ℤ) →
    with_value (with_value values x value) x (values x) y ≡ values y
put_at values x y value = elim (eqb_tells y x) [
  | inl same ↦ rw same.0 (ap values (sym same.1))
  | inr apart ↦ rw apart.0 refl
]

abbrev with_variable : Call → ℕ → ℤ → Call
with_variable made x value = record made { values = with_value made.values x value }

put_call : (made : Call) (x : ℕ) (value : ℤ) → with_variable (with_variable made x value) x (made.values x) ≡ made
put_call made x value =
    ap (λ (values : ℕ → ℤ). record { caller = made.caller; method = made.method; values = values })
    (fun_ext (λ y. put_at made.values x y value))

-- ---- all calls

-- what is changed at a place and changed back
set_back : (calls : List Call) (call : ℕ) (made other : Call) → slice_get calls call ≡ Some made →
    slice_set (slice_set calls call other) call made ≡ calls
set_back [] call made other is = absurd (cc)
set_back (first ∷ calls) zero made other is = let same : made ≡ first = cc in ap (λ c. c ∷ calls) same
set_back (first ∷ calls) (suc call) made other is = ap (λ more. first ∷ more) (set_back calls call made other is)

get_set : (calls : List Call) (call : ℕ) (made other : Call) → slice_get calls call ≡ Some made →
    slice_get (slice_set calls call other) call ≡ Some other
get_set [] call made other is = absurd (cc)
get_set (first ∷ calls) zero made other is = refl
get_set (first ∷ calls) (suc call) made other is = get_set calls call made other is

set_at : (calls : List Call) (call x : ℕ) (value : ℤ) (made : Call) → slice_get calls call ≡ Some made →
    calls_after calls call x value ≡ slice_set calls call (with_variable made x value)
set_at calls call x value made is = rw is refl

none_set : (calls : List Call) (call x : ℕ) (value : ℤ) → slice_get calls call ≡ None →
    calls_after calls call x value ≡ calls
none_set calls call x value is = rw is refl

variable_at : (calls : List Call) (call x : ℕ) (made : Call) → slice_get calls call ≡ Some made →
    variable calls call x ≡ made.values x
variable_at calls call x made is = rw is refl

put_found : (calls : List Call) (call x : ℕ) (value : ℤ) (found : Option Call) → slice_get calls call ≡ found →
    calls_after (calls_after calls call x value) call x (variable calls call x) ≡ calls
put_found calls call x value None is =
    ap (λ (cs : List Call). calls_after cs call x (variable calls call x)) (none_set calls call x value is)
    ∙ none_set calls call x (variable calls call x) is
put_found calls call x value (Some made) is =
    let once = with_variable made x value in
    ap (λ (cs : List Call). calls_after cs call x (variable calls call x)) (set_at calls call x value made is)
    ∙ ap (calls_after (slice_set calls call once) call x) (variable_at calls call x made is)
    ∙ set_at (slice_set calls call once) call x (made.values x) once (get_set calls call made once is)
    ∙ ap (slice_set (slice_set calls call once) call) (put_call made x value)
    ∙ set_back calls call made once is

-- ---- a result that is to be kept

pub left_kept : (program : Program) (exposure : Exposure) (c : Configuration) (call : ℕ) (into result : VarId)
    (behind : List Item) → c.pending ≡ keep call into result ∷ behind → MayBeLeft exposure (keep call into result) →
    IsNumber (variable c.calls call into.0) →
    (next : Configuration) × MayStep program exposure c c.pending next
    × Alters program exposure next (record c { pending = behind })
left_kept program exposure c call into result behind is may number =
    let value = variable c.calls call result.0 in
    let next : Configuration =
    record { store = c.store; calls = calls_after c.calls call into.0 value; pending = behind } in (
      next,
      subst (λ items. MayStep program exposure c items next) (sym is) (value, inl refl, refl),
      changes_variable call into (variable c.calls call into.0) may number
          (ap (λ (calls : List Call). record { store = c.store; calls = calls; pending = behind })
          (sym (put_found c.calls call into.0 value (slice_get c.calls call) refl))),
    )
