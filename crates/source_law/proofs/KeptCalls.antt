-- What idle work leaves of the calls of a run.
use Rattle.std.proofs.Common.{◌≡◌, ◌∙◌, ap, refl, sym, subst, inl, inr, ℕ, ℤ, List, [], ◌∷◌, ◌++◌, Option, Some, None}
use Rattle.std.proofs.Common.{slice_get, slice_set}
use Rattle.std.proofs.lemmas.Bool.Decides.{eqb_tells}
use Rattle.js_base.specs.declared.ids.VarId.{VarId}
use Rattle.jif_tree.specs.SourceRun.{Call, calls_after, with_value}
use Rattle.jif_tree.specs.Altered.{Exposure, VariableIsAffected}
use Rattle.source_law.proofs.Lists.{set_there, set_elsewhere, still_there}

-- a call is still there, and what may not be affected of it is as it was
pub record StaysAs (exposure : Exposure) (more : List Call) (i : ℕ) (call : Call) : Type 0 where
  pub now : Call
  pub there : slice_get more i ≡ Some now
  pub method : now.method ≡ call.method
  pub caller : now.caller ≡ call.caller
  pub values : (x : VarId) → ¬ VariableIsAffected exposure x → now.values x.0 ≡ call.values x.0

abbrev pub AreMore : Exposure → List Call → List Call → Type 0
AreMore exposure calls more = (i : ℕ) (call : Call) → slice_get calls i ≡ Some call → StaysAs exposure more i call

pub same_calls : (exposure : Exposure) (calls : List Call) → AreMore exposure calls calls
same_calls exposure calls i call there = record {
  now = call;
  there = there;
  method = refl;
  caller = refl;
  values = λ x clean. refl;
}

-- a call that was made
pub one_more_call : (exposure : Exposure) (calls : List Call) (made : Call) →
    AreMore exposure calls (calls ++ made ∷ [])
one_more_call exposure calls made i call there = record {
  now = call;
  there = still_there calls made call i there;
  method = refl;
  caller = refl;
  values = λ x clean. refl;
}

-- ---- one variable

-- what is set may be affected
pub set_affected : (exposure : Exposure) (calls : List Call) (k : ℕ) (x : VarId) (value : ℤ) →
    VariableIsAffected exposure x → AreMore exposure calls (calls_after calls k x.0 value)
set_affected exposure calls k x value far i call there = by (slice_get calls k) refl
  where
    other_variable : (made : Call) (y : VarId) → ¬ VariableIsAffected exposure y →
        with_value made.values x.0 value y.0 ≡ made.values y.0
    other_variable made y clean = elim (eqb_tells y.0 x.0) [
      | inl same ↦
          let P : ℕ → Type 0 = λ n. VariableIsAffected exposure (record { 0 = n }) in
          absurd (clean (subst P (sym same.1) far))
      | inr other ↦ rw other.0 refl
    ]

    by : (found : Option Call) → slice_get calls k ≡ found → StaysAs exposure (calls_after calls k x.0 value) i call
    by None is = rw is (same_calls exposure calls i call there)
    by (Some made) is =
        let new : Call = record made { values = with_value made.values x.0 value } in
        let all = slice_set calls k new in
        rw is (elim (eqb_tells i k) [
          | inl same ↦
              let own : made ≡ call = cc in
              let P : ℕ → Type 0 = λ n. slice_get all n ≡ Some new in
              record {
                now = new;
                there = subst P (sym same.1) (set_there calls k made new is);
                method = ap (λ (c : Call). c.method) own;
                caller = ap (λ (c : Call). c.caller) own;
                values = λ y clean. other_variable made y clean ∙ ap (λ (c : Call). c.values y.0) own;
              }
          | inr other ↦ record {
            now = call;
            there = set_elsewhere calls k i new other.1 ∙ there;
            method = refl;
            caller = refl;
            values = λ y clean. refl;
          }
        ])
