-- A step of an idle item changes only what may be affected, and leaves idle items.
use Rattle.std.proofs.Common.{◌≡◌, ap, refl, sym, subst, ℕ, ℤ, pos, List, [], ◌∷◌, ◌++◌, length, map, append_assoc}
use Rattle.std.proofs.Common.{Option, Some, None, IsSomeAnd, IfSome, slice_get, Bool, true, false, if◌then◌else◌}
use Rattle.std.specs.Prelude.{unwrap_or}
use Rattle.std.specs.List.{AllByRecursion}
use Rattle.js_base.specs.declared.ids.FieldId.{FieldId}
use Rattle.js_base.specs.declared.ids.VarId.{VarId}
use Rattle.jif_tree.specs.declared.program.Program.{Program}
use Rattle.jif_tree.specs.declared.program.Method.{Method}
use Rattle.jif_tree.specs.declared.program.Stmt.{Stmt}
use Rattle.jif_tree.specs.declared.program.StmtKind.{StmtKind}
use Rattle.jif_tree.specs.declared.program.StmtKind as kind
use Rattle.jif_tree.specs.Operators.{is_true}
use Rattle.jif_tree.specs.Store.{store_after_write}
use Rattle.jif_tree.specs.SourceRun.{Call, Item, run, keep, Configuration, method_at, result_of, executed}
use Rattle.jif_tree.specs.SourceRun.{statements_of, value_at, body_of, params_of, passed, kept, after_result}
use Rattle.jif_tree.specs.Altered.{Exposure, FieldIsAffected, VariableIsAffected, MayStep, IsAffected}
use Rattle.source_law.specs.Steady.{IsIdle, AreIdle, AllIdle, IsSteadyProgram}
use Rattle.source_law.specs.Related.{ItemIsIdle, FieldsAgree}
use Rattle.source_law.proofs.Lists.{all_both, set_elsewhere, last_there}
use Rattle.source_law.proofs.KeptCalls.{AreMore, same_calls, one_more_call, set_affected}

pub record LeavesIdle (program : Program) (exposure : Exposure) (c : Configuration) (behind : List Item)
    (next : Configuration) : Type 0 where
  pub fields : FieldsAgree exposure next.store c.store
  pub calls : AreMore exposure c.calls next.calls
  pub made : List Item
  pub pending : next.pending ≡ made ++ behind
  pub idle : AllByRecursion (ItemIsIdle program exposure next.calls) made

-- ---- the store

pub field_affected : (exposure : Exposure) (store : List (List ℤ)) (field : FieldId) (index value : ℤ) →
    FieldIsAffected exposure field → FieldsAgree exposure (store_after_write store field.0 index value) store
field_affected exposure store field index value far other clean =
    ap (λ found. unwrap_or found []) (set_elsewhere store field.0 other.0 _ (λ same.
    let P : ℕ → Type 0 = λ n. FieldIsAffected exposure (record { 0 = n }) in
    clean (subst P (sym same) far)))

-- ---- items

rows_idle : (program : Program) (exposure : Exposure) (calls : List Call) (call : ℕ) (made : Call) →
    slice_get calls call ≡ Some made → {n : _} → (row : kind.Row_of-Stmt n) →
    AreIdle program exposure (result_of (method_at program made.method)) row →
    AllByRecursion (ItemIsIdle program exposure calls) (map (run call) (statements_of row))
rows_idle program exposure calls call made is kind.end_of-Stmt idle = tt
rows_idle program exposure calls call made is (kind.more_of-Stmt id line what rest) idle =
    (rw is idle.0, rows_idle program exposure calls call made is rest idle.1)

body_idle : (program : Program) (exposure : Exposure) (calls : List Call) (call : ℕ) (made : Call) →
    slice_get calls call ≡ Some made → (body : List Stmt) →
    AllIdle program exposure (result_of (method_at program made.method)) body →
    AllByRecursion (ItemIsIdle program exposure calls) (map (run call) body)
body_idle program exposure calls call made is [] idle = tt
body_idle program exposure calls call made is (statement ∷ body) idle =
    (rw is idle.0, body_idle program exposure calls call made is body idle.1)

kept_idle : (program : Program) (exposure : Exposure) (calls : List Call) (call : ℕ) (into result : Option VarId) →
    IfSome into (VariableIsAffected exposure) →
    AllByRecursion (ItemIsIdle program exposure calls) (kept call into result)
kept_idle program exposure calls call None result far = tt
kept_idle program exposure calls call (Some x) None far = tt
kept_idle program exposure calls call (Some x) (Some result) far = (far, tt)

-- ---- what each kind leaves

pub idle_leaves : (program : Program) (exposure : Exposure) → IsSteadyProgram program exposure → (c : Configuration)
    (call : ℕ) (made : Call) → slice_get c.calls call ≡ Some made → (again : Item) →
    ItemIsIdle program exposure c.calls again → (what : StmtKind) (values : List ℤ) (behind : List Item) →
    IsIdle program exposure (result_of (method_at program made.method)) what →
    LeavesIdle program exposure c behind (executed program c call again what values behind)
idle_leaves program exposure steady c call made is again own (kind.Let x value) values behind idle = record {
  fields = λ field clean. refl;
  calls = set_affected exposure c.calls call x (value_at values 0) idle;
  made = [];
  pending = refl;
  idle = tt;
}
idle_leaves program exposure steady c call made is again own (kind.SetField field value) values behind idle = record {
  fields = field_affected exposure c.store field (pos 0) (value_at values 0) idle;
  calls = same_calls exposure c.calls;
  made = [];
  pending = refl;
  idle = tt;
}
idle_leaves program exposure steady c call made is again own (kind.SetElement field index value) values behind idle =
    record {
      fields = field_affected exposure c.store field (value_at values 0) (value_at values 1) idle;
      calls = same_calls exposure c.calls;
      made = [];
      pending = refl;
      idle = tt;
    }
idle_leaves program exposure steady c call made is again own (kind.If' guard m first n second) values behind idle =
    let one = map (run call) (statements_of first) in
    let two = map (run call) (statements_of second) in
    record {
      fields = λ field clean. refl;
      calls = same_calls exposure c.calls;
      made = if is_true (value_at values 0) then one else two;
      pending = refl;
      idle = either (is_true (value_at values 0));
    }
  where
    either : (b : Bool) → AllByRecursion (ItemIsIdle program exposure c.calls)
        (if b then map (run call) (statements_of first) else map (run call) (statements_of second))
    either true = rows_idle program exposure c.calls call made is first idle.0
    either false = rows_idle program exposure c.calls call made is second idle.1
idle_leaves program exposure steady c call made is again own (kind.While' guard m body) values behind idle =
    by (is_true (value_at values 0)) refl
  where
    inner : List Item
    inner = map (run call) (statements_of body)

    by : (b : Bool) → is_true (value_at values 0) ≡ b → LeavesIdle program exposure c behind
        (executed program c call again (kind.While' guard m body) values behind)
    by true holds = record {
      fields = λ field clean. refl;
      calls = same_calls exposure c.calls;
      made = inner ++ again ∷ [];
      pending = rw holds (sym (append_assoc inner (again ∷ []) behind));
      idle = all_both (ItemIsIdle program exposure c.calls) inner (again ∷ [])
          (rows_idle program exposure c.calls call made is body idle) (own, tt);
    }
    by false holds = record {
      fields = λ field clean. refl;
      calls = same_calls exposure c.calls;
      made = [];
      pending = rw holds refl;
      idle = tt;
    }
idle_leaves program exposure steady c call made is again own (kind.Call site method args into) values behind idle =
    by (method_at program method.0) refl idle.0
  where
    new : Call
    new = record {
      caller = call;
      method = method.0;
      values = passed (params_of (method_at program method.0)) values;
    }

    by : (found : Option Method) → method_at program method.0 ≡ found →
        IsSomeAnd found (λ there. IsAffected exposure.bad there.begin) → LeavesIdle program exposure c behind
        (executed program c call again (kind.Call site method args into) values behind)
    by None none far = absurd far
    by (Some it) there far =
        let body = map (run (length c.calls)) (body_of (method_at program method.0)) in
        let result = result_of (method_at program method.0) in
        let keeps = kept call into result in
        let Q : Option Method → Type 0 = λ found. AllIdle program exposure (result_of found) (body_of found) in
        record {
          fields = λ field clean. refl;
          calls = one_more_call exposure c.calls new;
          made = body ++ keeps;
          pending = refl;
          idle = all_both (ItemIsIdle program exposure (c.calls ++ new ∷ [])) body keeps
              (body_idle program exposure (c.calls ++ new ∷ []) (length c.calls) new (last_there c.calls new)
              (body_of (method_at program method.0)) (subst Q (sym there) (steady.idle method.0 it there far)))
              (kept_idle program exposure (c.calls ++ new ∷ []) call into result idle.1);
        }
idle_leaves program exposure steady c call made is again own (kind.Return value) values behind idle = record {
  fields = λ field clean. refl;
  calls = rw is (left (result_of (method_at program made.method)) idle);
  made = [];
  pending = refl;
  idle = tt;
}
  where
    left : (result : Option VarId) → IfSome result (VariableIsAffected exposure) →
        AreMore exposure c.calls (after_result c made result (value_at values 0))
    left None far = same_calls exposure c.calls
    left (Some x) far = set_affected exposure c.calls made.caller x (value_at values 0) far

-- a step of an idle item, whatever its readings give
pub idle_steps : (program : Program) (exposure : Exposure) → IsSteadyProgram program exposure → (c : Configuration)
    (item : Item) (behind : List Item) (next : Configuration) → ItemIsIdle program exposure c.calls item →
    MayStep program exposure c (item ∷ behind) next → LeavesIdle program exposure c behind next
idle_steps program exposure steady c (run call statement) behind next idle may =
    subst (LeavesIdle program exposure c behind) (sym may.2) (by (slice_get c.calls call) refl idle)
  where
    by : (found : Option Call) → slice_get c.calls call ≡ found →
        IsSomeAnd found (λ made. IsIdle program exposure (result_of (method_at program made.method)) statement.kind) →
        LeavesIdle program exposure c behind (executed program c call (run call statement) statement.kind may.0 behind)
    by None none holds = absurd holds
    by (Some made) is holds =
        idle_leaves program exposure steady c call made is (run call statement) idle statement.kind may.0 behind holds
idle_steps program exposure steady c (keep call into result) behind next idle may =
    subst (LeavesIdle program exposure c behind) (sym may.2) (record {
      fields = λ field clean. refl;
      calls = set_affected exposure c.calls call into may.0 idle;
      made = [];
      pending = refl;
      idle = tt;
    })
