-- A statement that is not idle does the same in both calls of a pair.
use Rattle.std.proofs.Common.{◌≡◌, ◌∙◌, ap, refl, sym, subst, inl, inr, ◌⊎◌, ⊎_elim, ℕ, ℤ, pos, List, [], ◌∷◌, ◌++◌}
use Rattle.std.proofs.Common.{length, map, Option, Some, None, IfSome, slice_get, true, false, Bool, if◌then◌else◌}
use Rattle.std.proofs.Common.{append_assoc}
use Rattle.std.specs.List.{AllZip}
use Rattle.js_base.specs.declared.ids.VarId.{VarId}
use Rattle.jif_tree.specs.declared.program.Program.{Program}
use Rattle.jif_tree.specs.declared.program.Method.{Method}
use Rattle.jif_tree.specs.declared.program.Stmt.{Stmt}
use Rattle.jif_tree.specs.declared.program.StmtKind.{StmtKind}
use Rattle.jif_tree.specs.declared.program.StmtKind as kind
use Rattle.jif_tree.specs.Operators.{is_true}
use Rattle.jif_tree.specs.SourceRun.{Call, Item, run, Configuration, method_at, result_of, params_of, body_of, passed}
use Rattle.jif_tree.specs.SourceRun.{kept, executed, after_call, calls_after, operands, statements_of, value_of}
use Rattle.jif_tree.specs.Altered.{Exposure, VariableIsAffected, MayGive}
use Rattle.source_law.specs.Steady.{IsClean, IsIdle, DoesWell, IsSteadyProgram, AllSteady}
use Rattle.source_law.specs.Related.{Pairs, IsPair, AreMates, AreItemsAlike, AreAligned, alike, AreRelated}
use Rattle.source_law.proofs.CleanValues.{clean_same}
use Rattle.source_law.proofs.KeptCalls.{one_more_call}
use Rattle.source_law.proofs.AlignedItems.{ArePairsKept, aligned_kept, kept_of, mates_more}
use Rattle.source_law.proofs.Lists.{last_there}
use Rattle.source_law.proofs.CallPairs.{set_both, kept_after, values_agree, write_both, rows_alike, body_alike}
use Rattle.source_law.proofs.CallPairs.{kept_alike, passed_alike, pair_more, pair_last, pair_cases, past_end}

-- ---- the same value is set in a pair

-- what is left where nothing but one variable of a pair is set
pub set_related : (program : Program) (exposure : Exposure) (c d : Configuration) (items more : List Item) →
    (r : AreRelated program exposure c d) → AreAligned program exposure r.pairs c.calls d.calls items more →
    (i j x : ℕ) (v w : ℤ) → IsPair r.pairs i j → v ≡ w →
    AreRelated program exposure (record c { calls = calls_after c.calls i x v; pending = items })
    (record d { calls = calls_after d.calls j x w; pending = more })
set_related program exposure c d items more r rest i j x v w pair same = record {
  fields = r.fields;
  pairs = r.pairs;
  mates = set_both exposure r.pairs c.calls d.calls r.mates r.one_there r.one_here i j x v w pair same;
  one_there = r.one_there;
  one_here = r.one_here;
  pending = aligned_kept program exposure r.pairs r.pairs c.calls (calls_after c.calls i x v) d.calls
      (calls_after d.calls j x w) items more (λ k l other. other) (kept_after c.calls i x v) (kept_after d.calls j x w)
      rest;
}

-- what is left where calls and store are as they were
going_on : (program : Program) (exposure : Exposure) (c d : Configuration) (items more : List Item) →
    (r : AreRelated program exposure c d) → AreAligned program exposure r.pairs c.calls d.calls items more →
    AreRelated program exposure (record c { pending = items }) (record d { pending = more })
going_on program exposure c d items more r rest = record {
  fields = r.fields;
  pairs = r.pairs;
  mates = r.mates;
  one_there = r.one_there;
  one_here = r.one_here;
  pending = rest;
}

-- ---- calls

-- the same method is called in a pair
call_related : (program : Program) (exposure : Exposure) → IsSteadyProgram program exposure → (c d : Configuration)
    (items more : List Item) → (r : AreRelated program exposure c d) →
    AreAligned program exposure r.pairs c.calls d.calls items more → (i j : ℕ) → IsPair r.pairs i j → (method : ℕ)
    (values others : List ℤ) (into : Option VarId) →
    ((x : VarId) → ¬ VariableIsAffected exposure x →
    passed (params_of (method_at program method)) values x.0
    ≡ passed (params_of (method_at program method)) others x.0) →
    ((pairs : Pairs) (calls too : List Call) → IsPair pairs i j → (left right : List Item) →
    AreAligned program exposure pairs calls too left right →
    AreAligned program exposure pairs calls too (kept i into (result_of (method_at program method)) ++ left)
    (kept j into (result_of (method_at program method)) ++ right)) →
    AreRelated program exposure (after_call program c i method values into items)
    (after_call program d j method others into more)
call_related program exposure steady c d items more r rest i j pair method values others into params keeps = record {
  fields = r.fields;
  pairs = wide;
  mates = mates;
  one_there = λ a b e one two. there a b e (pair_cases r.pairs m n a b one) (pair_cases r.pairs m n a e two);
  one_here = λ a b e one two. here a b e (pair_cases r.pairs m n a e one) (pair_cases r.pairs m n b e two);
  pending = by (method_at program method) refl;
}
  where
    m : ℕ
    m = length c.calls

    n : ℕ
    n = length d.calls

    first : Call
    first = record { caller = i; method = method; values = passed (params_of (method_at program method)) values }

    second : Call
    second = record { caller = j; method = method; values = passed (params_of (method_at program method)) others }

    wide : Pairs
    wide = r.pairs ++ (m, n) ∷ []

    wider : ArePairsKept r.pairs wide
    wider = pair_more r.pairs m n

    calls : List Call
    calls = c.calls ++ first ∷ []

    too : List Call
    too = d.calls ++ second ∷ []

    old : (a b : ℕ) → AreMates exposure r.pairs c.calls d.calls a b → AreMates exposure wide calls too a b
    old a b was = mates_more exposure r.pairs wide c.calls calls d.calls too a b wider
        (one_more_call exposure c.calls first) (one_more_call exposure d.calls second) was

    new : AreMates exposure wide calls too m n
    new = record {
      first = first;
      first_there = last_there c.calls first;
      second = second;
      second_there = last_there d.calls second;
      alike = record { method = refl; callers = wider i j pair; values = params };
    }

    mates : (a b : ℕ) → IsPair wide a b → AreMates exposure wide calls too a b
    mates a b other = ⊎_elim (λ was. old a b (r.mates a b was)) (λ is.
        let P : ℕ → Type 0 = λ k. AreMates exposure wide calls too a k in
        let Q : ℕ → Type 0 = λ k. AreMates exposure wide calls too k n in
        subst P (sym is.1) (subst Q (sym is.0) new)) (pair_cases r.pairs m n a b other)

    there : (a b e : ℕ) → IsPair r.pairs a b ⊎ ((a ≡ m) × (b ≡ n)) → IsPair r.pairs a e ⊎ ((a ≡ m) × (e ≡ n)) → b ≡ e
    there a b e (inl one) (inl two) = r.one_there a b e one two
    there a b e (inl one) (inr is) =
        let was = r.mates a b one in
        absurd (past_end c.calls a was.first was.first_there is.0)
    there a b e (inr is) (inl two) =
        let was = r.mates a e two in
        absurd (past_end c.calls a was.first was.first_there is.0)
    there a b e (inr is) (inr also) = is.1 ∙ sym also.1

    here : (a b e : ℕ) → IsPair r.pairs a e ⊎ ((a ≡ m) × (e ≡ n)) → IsPair r.pairs b e ⊎ ((b ≡ m) × (e ≡ n)) → a ≡ b
    here a b e (inl one) (inl two) = r.one_here a b e one two
    here a b e (inl one) (inr is) =
        let was = r.mates a e one in
        absurd (past_end d.calls e was.second was.second_there is.1)
    here a b e (inr is) (inl two) =
        let was = r.mates b e two in
        absurd (past_end d.calls e was.second was.second_there is.1)
    here a b e (inr is) (inr also) = is.0 ∙ sym also.0

    behind : AreAligned program exposure wide calls too (kept i into (result_of (method_at program method)) ++ items)
        (kept j into (result_of (method_at program method)) ++ more)
    behind = keeps wide calls too (wider i j pair) items more
        (aligned_kept program exposure r.pairs wide c.calls calls d.calls too items more wider
        (kept_of exposure c.calls calls (one_more_call exposure c.calls first))
        (kept_of exposure d.calls too (one_more_call exposure d.calls second)) rest)

    bodies : (body : List Stmt) → AllSteady program exposure (result_of (method_at program method)) body →
        AreAligned program exposure wide calls too
        (map (run m) body ++ kept i into (result_of (method_at program method)) ++ items)
        (map (run n) body ++ kept j into (result_of (method_at program method)) ++ more)
    bodies body all =
        subst (λ list. AreAligned program exposure wide calls too list
        (map (run n) body ++ kept j into (result_of (method_at program method)) ++ more))
        (sym (append_assoc (map (run m) body) (kept i into (result_of (method_at program method))) items))
        (subst (λ list. AreAligned program exposure wide calls too
        (map (run m) body ++ (kept i into (result_of (method_at program method)) ++ items)) list)
        (sym (append_assoc (map (run n) body) (kept j into (result_of (method_at program method))) more))
        (body_alike program exposure wide calls too m n first (pair_last r.pairs m n) (last_there c.calls first) body
        all (kept i into (result_of (method_at program method)) ++ items)
        (kept j into (result_of (method_at program method)) ++ more) behind))

    by : (found : Option Method) → method_at program method ≡ found →
        AreAligned program exposure wide calls too
        (map (run m) (body_of (method_at program method)) ++ kept i into (result_of (method_at program method))
        ++ items)
        (map (run n) (body_of (method_at program method)) ++ kept j into (result_of (method_at program method)) ++ more)
    by None none =
        let Q : Option Method → Type 0 = λ found. AllSteady program exposure (result_of found) (body_of found) in
        bodies (body_of (method_at program method)) (subst Q (sym none) tt)
    by (Some it) is =
        let Q : Option Method → Type 0 = λ found. AllSteady program exposure (result_of found) (body_of found) in
        bodies (body_of (method_at program method)) (subst Q (sym is) (steady.steady method it is))

-- ---- each kind of statement

-- either the statement is idle, or both go on
abbrev Either : Program → Exposure → Configuration → Configuration → ℕ → ℕ → Call → Item → Item → StmtKind →
    List ℤ → List Item → List Item → Type 0
Either program exposure c d i j made again too what values items more =
    IsIdle program exposure (result_of (method_at program made.method)) what
    ⊎ AreRelated program exposure (executed program c i again what values items)
    (executed program d j too what (map (value_of d j) (operands what)) more)

pub paired_executed : (program : Program) (exposure : Exposure) → IsSteadyProgram program exposure →
    (c d : Configuration) (items more : List Item) → (r : AreRelated program exposure c d) →
    AreAligned program exposure r.pairs c.calls d.calls items more → (i j : ℕ) → (pair : IsPair r.pairs i j) →
    (made : Call) → slice_get c.calls i ≡ Some made → (twin : Call) → slice_get d.calls j ≡ Some twin →
    twin.method ≡ made.method → IsPair r.pairs made.caller twin.caller →
    (again too : Item) → AreItemsAlike program exposure r.pairs c.calls again too → (what : StmtKind)
    (values : List ℤ) → DoesWell program exposure (result_of (method_at program made.method)) what →
    AllZip (MayGive exposure c i) (operands what) values →
    Either program exposure c d i j made again too what values items more
paired_executed program exposure steady c d items more r rest i j pair made is twin is_twin same callers again too own
    (kind.Let x value) (v ∷ []) well all = ⊎_elim (λ far. inl far) (λ clean. inr
    (set_related program exposure c d items more r rest i j x.0 v (value_of d j value) pair
    (clean_same exposure c d i j r.fields (values_agree exposure r.pairs c d i j (r.mates i j pair)) value v clean
    all.0)))
    well
paired_executed program exposure steady c d items more r rest i j pair made is twin is_twin same callers again too own
    (kind.Let x value) [] well all = absurd all
paired_executed program exposure steady c d items more r rest i j pair made is twin is_twin same callers again too own
    (kind.Let x value) (v ∷ (w ∷ vs)) well all = absurd all.1
paired_executed program exposure steady c d items more r rest i j pair made is twin is_twin same callers again too own
    (kind.SetField field value) (v ∷ []) well all = ⊎_elim (λ far. inl far) (λ clean. inr (record {
      fields = write_both exposure c.store d.store field (pos 0) v (pos 0) (value_of d j value) r.fields refl
          (clean_same exposure c d i j r.fields (values_agree exposure r.pairs c d i j (r.mates i j pair)) value v clean
          all.0);
      pairs = r.pairs;
      mates = r.mates;
      one_there = r.one_there;
      one_here = r.one_here;
      pending = rest;
    })) well
paired_executed program exposure steady c d items more r rest i j pair made is twin is_twin same callers again too own
    (kind.SetField field value) [] well all = absurd all
paired_executed program exposure steady c d items more r rest i j pair made is twin is_twin same callers again too own
    (kind.SetField field value) (v ∷ (w ∷ vs)) well all = absurd all.1
paired_executed program exposure steady c d items more r rest i j pair made is twin is_twin same callers again too own
    (kind.SetElement field index value) (k ∷ (v ∷ [])) well all = ⊎_elim (λ far. inl far) (λ clean. inr (record {
      fields = write_both exposure c.store d.store field k v (value_of d j index) (value_of d j value) r.fields
          (clean_same exposure c d i j r.fields (values_agree exposure r.pairs c d i j (r.mates i j pair)) index k
          clean.0
          all.0)
          (clean_same exposure c d i j r.fields (values_agree exposure r.pairs c d i j (r.mates i j pair)) value v
          clean.1
          all.1.0);
      pairs = r.pairs;
      mates = r.mates;
      one_there = r.one_there;
      one_here = r.one_here;
      pending = rest;
    })) well
paired_executed program exposure steady c d items more r rest i j pair made is twin is_twin same callers again too own
    (kind.SetElement field index value) [] well all = absurd all
paired_executed program exposure steady c d items more r rest i j pair made is twin is_twin same callers again too own
    (kind.SetElement field index value) (k ∷ []) well all = absurd all.1
paired_executed program exposure steady c d items more r rest i j pair made is twin is_twin same callers again too own
    (kind.SetElement field index value) (k ∷ (v ∷ (w ∷ vs))) well all = absurd all.1.1
paired_executed program exposure steady c d items more r rest i j pair made is twin is_twin same callers again too own
    (kind.If' guard m first n second) (v ∷ []) well all = ⊎_elim (λ idle. inl idle) (λ clean. inr (both clean))
    (either well.0)
  where
    either : IsClean exposure guard
        ⊎ IsIdle program exposure (result_of (method_at program made.method)) (kind.If' guard m first n second) →
        IsIdle program exposure (result_of (method_at program made.method)) (kind.If' guard m first n second)
        ⊎ IsClean exposure guard
    either (inl clean) = inr clean
    either (inr idle) = inl idle

    branches : (b : Bool) → AreAligned program exposure r.pairs c.calls d.calls
        ((if b then map (run i) (statements_of first) else map (run i) (statements_of second)) ++ items)
        ((if b then map (run j) (statements_of first) else map (run j) (statements_of second)) ++ more)
    branches true = rows_alike program exposure r.pairs c.calls d.calls i j made pair is first well.1 items more rest
    branches false = rows_alike program exposure r.pairs c.calls d.calls i j made pair is second well.2 items more rest

    both : IsClean exposure guard → AreRelated program exposure
        (executed program c i again (kind.If' guard m first n second) (v ∷ []) items)
        (executed program d j too (kind.If' guard m first n second) (value_of d j guard ∷ []) more)
    both clean =
        let given : v ≡ value_of d j guard =
        clean_same exposure c d i j r.fields (values_agree exposure r.pairs c d i j (r.mates i j pair)) guard v clean
        all.0 in
        let P : ℤ → Type 0 = λ w. AreRelated program exposure
        (executed program c i again (kind.If' guard m first n second) (w ∷ []) items)
        (executed program d j too (kind.If' guard m first n second) (value_of d j guard ∷ []) more) in
        subst P (sym given)
        (going_on program exposure c d _ _ r (branches (is_true (value_of d j guard))))
paired_executed program exposure steady c d items more r rest i j pair made is twin is_twin same callers again too own
    (kind.If' guard m first n second) [] well all = absurd all
paired_executed program exposure steady c d items more r rest i j pair made is twin is_twin same callers again too own
    (kind.If' guard m first n second) (v ∷ (w ∷ vs)) well all = absurd all.1
paired_executed program exposure steady c d items more r rest i j pair made is twin is_twin same callers again too own
    (kind.While' guard m body) (v ∷ []) well all = ⊎_elim (λ clean. inr (both clean)) (λ idle. inl idle) well.0
  where
    rounds : (b : Bool) → AreAligned program exposure r.pairs c.calls d.calls
        (if b then map (run i) (statements_of body) ++ again ∷ items else items)
        (if b then map (run j) (statements_of body) ++ too ∷ more else more)
    rounds true =
        rows_alike program exposure r.pairs c.calls d.calls i j made pair is body well.1 (again ∷ items) (too ∷ more)
        (alike again too items more own rest)
    rounds false = rest

    both : IsClean exposure guard → AreRelated program exposure
        (executed program c i again (kind.While' guard m body) (v ∷ []) items)
        (executed program d j too (kind.While' guard m body) (value_of d j guard ∷ []) more)
    both clean =
        let given : v ≡ value_of d j guard =
        clean_same exposure c d i j r.fields (values_agree exposure r.pairs c d i j (r.mates i j pair)) guard v clean
        all.0 in
        let P : ℤ → Type 0 = λ w. AreRelated program exposure
        (executed program c i again (kind.While' guard m body) (w ∷ []) items)
        (executed program d j too (kind.While' guard m body) (value_of d j guard ∷ []) more) in
        subst P (sym given)
        (going_on program exposure c d _ _ r (rounds (is_true (value_of d j guard))))
paired_executed program exposure steady c d items more r rest i j pair made is twin is_twin same callers again too own
    (kind.While' guard m body) [] well all = absurd all
paired_executed program exposure steady c d items more r rest i j pair made is twin is_twin same callers again too own
    (kind.While' guard m body) (v ∷ (w ∷ vs)) well all = absurd all.1
paired_executed program exposure steady c d items more r rest i j pair made is twin is_twin same callers again too own
    (kind.Call site method args into) values well all =
    inr (call_related program exposure steady c d items more r rest i j pair method.0 values
    (map (value_of d j) args.items) into
    (passed_alike exposure c d i j r.fields (values_agree exposure r.pairs c d i j (r.mates i j pair))
    (params_of (method_at program method.0)) args.items values well.0 all)
    (λ pairs calls others still left right behind. kept_alike program exposure pairs calls others i j still into
    (result_of (method_at program method.0)) well.1 left right behind))
paired_executed program exposure steady c d items more r rest i j pair made is twin is_twin same callers again too own
    (kind.Return value) (v ∷ []) well all = by (result_of (method_at program made.method)) refl well
  where
    by : (result : Option VarId) → result_of (method_at program made.method) ≡ result →
        IfSome result (λ x. VariableIsAffected exposure x ⊎ IsClean exposure value) →
        Either program exposure c d i j made again too (kind.Return value) (v ∷ []) items more
    by None none holds =
        let P : Option VarId → Type 0 = λ it. IfSome it (VariableIsAffected exposure) in
        inl (subst P (sym none) tt)
    by (Some x) there (inl far) =
        let P : Option VarId → Type 0 = λ it. IfSome it (VariableIsAffected exposure) in
        inl (subst P (sym there) far)
    by (Some x) there (inr clean) =
        let given : v ≡ value_of d j value =
        clean_same exposure c d i j r.fields (values_agree exposure r.pairs c d i j (r.mates i j pair)) value v clean
        all.0 in
        let also : result_of (method_at program twin.method) ≡ Some x =
        ap (λ n. result_of (method_at program n)) same ∙ there in
        inr (rw (is, is_twin, there, also)
        (set_related program exposure c d items more r rest made.caller twin.caller x.0 v (value_of d j value) callers
        given))
paired_executed program exposure steady c d items more r rest i j pair made is twin is_twin same callers again too own
    (kind.Return value) [] well all = absurd all
paired_executed program exposure steady c d items more r rest i j pair made is twin is_twin same callers again too own
    (kind.Return value) (v ∷ (w ∷ vs)) well all = absurd all.1
