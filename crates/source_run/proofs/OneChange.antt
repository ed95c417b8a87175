-- A step makes one change at most.
use Rattle.std.proofs.Common.{◌≡◌, ℕ, ℤ, pos, List, [], ◌∷◌, Option, Some, None, refl, sym, subst, map}
use Rattle.std.specs.Prelude.{slice_get}
use Rattle.js_base.specs.declared.ids.VarId.{VarId}
use Rattle.jif_tree.specs.declared.program.Program.{Program}
use Rattle.jif_tree.specs.declared.program.StmtKind.{StmtKind}
use Rattle.jif_tree.specs.declared.program.StmtKind as kind
use Rattle.jif_tree.specs.declared.program.Expr.{Expr}
use Rattle.jif_tree.specs.SourceRun.{Call, Item, run, keep, Configuration, value_of, operands, variable}
use Rattle.jif_tree.specs.SourceRun.{params_of, result_of, passed, method_at, value_at, after_result}
use Rattle.jif_tree.specs.SourceRun.{calls_after_return, executed, after_item, step}
use Rattle.source_run.specs.Changes.{DiffersByOne, ChangesByOne, IsOfStatement, IsOfItems, nothing, write, assignment}
use Rattle.source_run.specs.Changes.{new_call}

-- what a `return` of a call leaves
abbrev left_by : Program → Configuration → Option Call → ℤ → List Call
left_by program c None value = c.calls
left_by program c (Some made) value = after_result c made (result_of (method_at program made.method)) value

left_is : (program : Program) (c : Configuration) (n : ℕ) (value : ℤ) (found : Option Call)
    → slice_get c.calls n ≡ found → calls_after_return program c n value ≡ left_by program c found value
left_is program c n value None is = rw is refl
left_is program c n value (Some made) is = rw is refl

result_changes : (program : Program) (c : Configuration) (n : ℕ) (expr : Expr) (made : Call)
    → slice_get c.calls n ≡ Some made → (result : Option VarId)
    → result_of (method_at program made.method) ≡ result → (value : ℤ) (behind : List Item)
    → DiffersByOne (IsOfStatement program c.calls n (kind.Return expr)) c
    (record c { calls = after_result c made result value; pending = behind })
result_changes program c n expr made there None is value behind =
    record { change = nothing; due = tt; store = refl; calls = refl }
result_changes program c n expr made there (Some result) is value behind = record {
  change = assignment made.caller result.0 value;
  due = (made, there, refl, result, is, refl);
  store = refl;
  calls = refl;
}

return_changes : (program : Program) (c : Configuration) (n : ℕ) (expr : Expr) (found : Option Call)
    → slice_get c.calls n ≡ found → (value : ℤ) (behind : List Item)
    → DiffersByOne (IsOfStatement program c.calls n (kind.Return expr)) c
    (record c { calls = left_by program c found value; pending = behind })
return_changes program c n expr None there value behind =
    record { change = nothing; due = tt; store = refl; calls = refl }
return_changes program c n expr (Some made) there value behind =
    result_changes program c n expr made there (result_of (method_at program made.method)) refl value behind

pub executed_changes : (program : Program) (c : Configuration) (n : ℕ) (again : Item) (what : StmtKind)
    (values : List ℤ) (behind : List Item)
    → DiffersByOne (IsOfStatement program c.calls n what) c (executed program c n again what values behind)
executed_changes program c n again (kind.Let x value) values behind =
    record { change = assignment n x.0 (value_at values 0); due = (refl, refl); store = refl; calls = refl }
executed_changes program c n again (kind.SetField field value) values behind =
    record { change = write field.0 (pos 0) (value_at values 0); due = refl; store = refl; calls = refl }
executed_changes program c n again (kind.SetElement field index value) values behind =
    record { change = write field.0 (value_at values 0) (value_at values 1); due = refl; store = refl; calls = refl }
executed_changes program c n again (kind.If' guard m first k second) values behind =
    record { change = nothing; due = tt; store = refl; calls = refl }
executed_changes program c n again (kind.While' guard m body) values behind =
    record { change = nothing; due = tt; store = refl; calls = refl }
executed_changes program c n again (kind.Call site method args into) values behind = record {
  change = new_call (record {
    caller = n;
    method = method.0;
    values = passed (params_of (method_at program method.0)) values;
  });
  due = (refl, refl);
  store = refl;
  calls = refl;
}
executed_changes program c n again (kind.Return expr) values behind =
    subst (λ (calls : List Call). DiffersByOne (IsOfStatement program c.calls n (kind.Return expr)) c
    (record c { calls = calls; pending = behind }))
    (sym (left_is program c n (value_at values 0) (slice_get c.calls n) refl))
    (return_changes program c n expr (slice_get c.calls n) refl (value_at values 0) behind)

pub item_changes : (program : Program) (c : Configuration) (items : List Item)
    → DiffersByOne (IsOfItems program c.calls items) c (after_item program c items)
item_changes program c [] = record { change = nothing; due = refl; store = refl; calls = refl }
item_changes program c (run n statement ∷ behind) =
    executed_changes program c n (run n statement) statement.kind (map (value_of c n) (operands statement.kind)) behind
item_changes program c (keep n into result ∷ behind) = record {
  change = assignment n into.0 (variable c.calls n result.0);
  due = refl;
  store = refl;
  calls = refl;
}

pub one_change : (program : Program) (c : Configuration) → ChangesByOne program c (step program c)
one_change program c = item_changes program c c.pending
