-- A step of two items that are alike: the first is idle, or the step is the same on both sides.
use Rattle.std.proofs.Common.{◌≡◌, ◌∙◌, refl, sym, subst, inl, inr, ◌⊎◌, ⊎_elim, ℕ, List, ◌∷◌, map, Option, Some}
use Rattle.std.proofs.Common.{IsSomeAnd, slice_get}
use Rattle.js_base.specs.declared.ids.VarId.{VarId}
use Rattle.jif_tree.specs.declared.program.Program.{Program}
use Rattle.jif_tree.specs.declared.program.Stmt.{Stmt}
use Rattle.jif_tree.specs.SourceRun.{Call, Item, run, keep, Configuration, method_at, result_of, after_item}
use Rattle.jif_tree.specs.SourceRun.{calls_after, variable, executed, operands, value_of}
use Rattle.jif_tree.specs.Altered.{Exposure, VariableIsAffected, MayStep}
use Rattle.source_law.specs.Steady.{IsSteady, IsSteadyProgram}
use Rattle.source_law.specs.Related.{IsInCall, ItemIsIdle, AreItemsAlike, AreAligned, AreRelated}
use Rattle.source_law.proofs.CleanValues.{read_clean}
use Rattle.source_law.proofs.PairedStatements.{paired_executed, set_related}
use Rattle.source_law.proofs.CallPairs.{values_agree}

-- what holds of the call of an item holds of one that is there
pub in_call : (program : Program) (calls : List Call) (call : ℕ) (made : Call) (Holds : Option VarId → Type 0) →
    slice_get calls call ≡ Some made → IsInCall program calls call Holds →
    Holds (result_of (method_at program made.method))
in_call program calls call made Holds is holds =
    subst (λ found. IsSomeAnd found (λ (it : Call). Holds (result_of (method_at program it.method)))) is holds

pub paired_steps : (program : Program) (exposure : Exposure) → IsSteadyProgram program exposure →
    (c d next : Configuration) (first second : Item) (items more : List Item) → (r : AreRelated program exposure c d) →
    c.pending ≡ first ∷ items → d.pending ≡ second ∷ more →
    AreItemsAlike program exposure r.pairs c.calls first second →
    AreAligned program exposure r.pairs c.calls d.calls items more → MayStep program exposure c (first ∷ items) next →
    ItemIsIdle program exposure c.calls first ⊎ AreRelated program exposure next (after_item program d (second ∷ more))
paired_steps program exposure steady c d next (run i one) (run j two) items more r here there same rest may =
    let mates = r.mates i j same.0 in
    let well = in_call program c.calls i mates.first (λ result. IsSteady program exposure result one.id one.kind)
    mates.first_there same.2 in
    let P : Configuration → Type 0 = λ left. AreRelated program exposure left (after_item program d (run j two ∷
    more)) in
    let Q : Stmt → Type 0 = λ s. AreRelated program exposure
    (executed program c i (run i one) one.kind may.0 items)
    (executed program d j (run j s) s.kind (map (value_of d j) (operands s.kind)) more) in
    ⊎_elim (λ idle. inl (rw mates.first_there idle)) (λ related. inr (subst P (sym may.2) (subst Q same.1 related)))
    (paired_executed program exposure steady c d items more r rest i j same.0 mates.first mates.first_there mates.second
    mates.second_there (sym mates.alike.method) mates.alike.callers (run i one) (run j one) (same.0, refl, same.2)
    one.kind
    may.0 well.1 may.1)
paired_steps program exposure steady c d next (run i one) (keep j into result) items more r here there same rest may =
    absurd same
paired_steps program exposure steady c d next (keep i into result) (run j two) items more r here there same rest may =
    absurd same
paired_steps program exposure steady c d next (keep i into result) (keep j onto other) items more r here there same rest
    may =
    let mates = r.mates i j same.0 in
    let P : Configuration → Type 0 = λ left. AreRelated program exposure left
    (after_item program d (keep j onto other ∷ more)) in
    let Q : VarId → VarId → Type 0 = λ x y. AreRelated program exposure
    (record c { calls = calls_after c.calls i into.0 may.0; pending = items })
    (record d { calls = calls_after d.calls j x.0 (variable d.calls j y.0); pending = more }) in
    ⊎_elim (λ far. inl far) (λ clean. inr (subst P (sym may.2)
    (subst (λ y. Q onto y) same.2 (subst (λ x. Q x result) same.1
    (set_related program exposure c d items more r rest i j into.0 may.0 (variable d.calls j result.0) same.0
    (read_clean (VariableIsAffected exposure result) _ may.0 clean may.1
    ∙ values_agree exposure r.pairs c d i j mates result clean)))))) same.3
