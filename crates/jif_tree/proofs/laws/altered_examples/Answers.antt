use Rattle.std.proofs.Common.{◌≡◌, ◌∙◌, ap, refl, sym, subst, inl, inr, lit<, arith, ℕ, zero, suc, ℤ, pos, List, ◌∷◌, []}
use Rattle.std.proofs.Common.{length, Any}
use Rattle.jif_tree.specs.declared.program.Program.{Program}
use Rattle.jif_tree.specs.Store.{element_at, row_of, store_after_write}
use Rattle.jif_tree.specs.SourceRun.{Configuration}
use Rattle.jif_tree.specs.Altered.{FieldIsAffected, MayStep, MayBeLeft, Alters, steps, changes_field, changes_variable, leaves_out}
use Rattle.jif_tree.specs.AlteredExamples.{one_bad, none_bad, for_0, for_1, pending_with}
use Rattle.jif_tree.proofs.PlainRuns.{no_field}
use Rattle.jif_tree.proofs.laws.altered_examples.Goals as goal

any_one : {X : Type 0} (P : X → Type 0) (x : X) → P x → Any P (x ∷ [])
any_one P x holds = (0, x, omega arith, refl, holds)

of_one : {X : Type 0} (P : X → Type 0) (x : X) → Any P (x ∷ []) → P x
of_one P x (zero, y, within, read, holds) = subst P (sym read) holds
of_one P x (suc k, y, within, read, holds) = absurd (omega (arith, within))

not_both : (bit : ℕ) → bit ≡ 0 → bit ≡ 1 → ⊥
not_both bit clear set = omega arith

pub returns-clause-read_as_any : goal.returns-clause-read_as_any
returns-clause-read_as_any c value number = inr (any_one _ _ (λ principal reader trusts. trusts), number)

pub returns-clause-no_wider : goal.returns-clause-no_wider
returns-clause-no_wider c (inl is) = absurd (cc)
returns-clause-no_wider c (inr far) = omega (arith, far.1)

pub returns-clause-read_as_is : goal.returns-clause-read_as_is
returns-clause-read_as_is c = inl refl

pub returns-clause-no_other : goal.returns-clause-no_other
returns-clause-no_other c value other (inl is) = other is
returns-clause-no_other c value other (inr far) = not_both 0 refl (of_one _ _ far.0 1 (lit< tt) refl)

pub returns-clause-left_out : goal.returns-clause-left_out
returns-clause-left_out c program =
    leaves_out for_0 (for_1 ∷ []) refl (any_one _ _ (λ principal reader trusts. trusts)) refl

stays : ¬ MayBeLeft one_bad for_1
stays left = not_both 0 refl (of_one _ _ left 1 (lit< tt) refl)

pub returns-clause-stays : goal.returns-clause-stays
returns-clause-stays c = stays

many_pending : (before after : Configuration) → length before.pending ≡ 1 → length after.pending ≡ 0 →
    length after.pending ≡ length before.pending → ⊥
many_pending before after one none same = omega arith

-- the step writes 1 to the second field, which holds 7 in the end
steps_over : (program : Program) (after : Configuration) → after ≡ pending_with [] →
    MayStep program one_bad (pending_with (for_1 ∷ [])) (for_1 ∷ []) after → ⊥
steps_over program after last ([], all, is) = absurd all
steps_over program after last (value ∷ [], all, is) =
    let there : value ≡ pos 7 = ap (λ c. element_at (row_of c.store 1) (pos 0)) (sym is ∙ last) in
    let one : value ≡ pos 1 = all.0 in
    let both : pos 1 ≡ pos 7 = sym one ∙ there in
    absurd (cc)
steps_over program after last (value ∷ other ∷ others, all, is) = absurd all.1

skips : (program : Program) (before after : Configuration) → before ≡ pending_with (for_1 ∷ []) →
    after ≡ pending_with [] → Alters program one_bad before after → ⊥
skips program before after first last (steps may) =
    steps_over program after last (subst (λ c. MayStep program one_bad c c.pending after) first may)
skips program before after first last (changes_field field index value far number is) =
    many_pending before after (ap (λ c. length c.pending) first) (ap (λ c. length c.pending) last)
    (ap (λ c. length c.pending) is)
skips program before after first last (changes_variable call x value far number is) =
    many_pending before after (ap (λ c. length c.pending) first) (ap (λ c. length c.pending) last)
    (ap (λ c. length c.pending) is)
skips program before after first last (leaves_out item behind pending far is) =
    let front : for_1 ∷ [] ≡ item ∷ behind = sym (ap (λ c. c.pending) first) ∙ pending in
    let same : item ≡ for_1 = cc in
    stays (subst (MayBeLeft one_bad) same far)

pub returns-clause-not_skipped : goal.returns-clause-not_skipped
returns-clause-not_skipped c program = skips program _ _ refl refl

pub returns-clause-local_as_any : goal.returns-clause-local_as_any
returns-clause-local_as_any c value number = inr (any_one _ _ (λ principal reader trusts. trusts), number)

pub returns-clause-local_as_is : goal.returns-clause-local_as_is
returns-clause-local_as_is c value other (inl is) = other is
returns-clause-local_as_is c value other (inr far) = not_both 0 refl (of_one _ _ far.0 1 (lit< tt) refl)

pub returns-clause-result_left_out : goal.returns-clause-result_left_out
returns-clause-result_left_out c = any_one _ _ (λ principal reader trusts. trusts)

pub returns-clause-result_stays : goal.returns-clause-result_stays
returns-clause-result_stays c left = not_both 0 refl (of_one _ _ left 1 (lit< tt) refl)

-- what the second field holds
abbrev second : Configuration → ℤ
second c = element_at (row_of c.store 1) (pos 0)

seven : (before next : Configuration) → second before ≡ pos 7 → next.store ≡ before.store → second next ≡ pos 9 → ⊥
seven before next is same also =
    let both : pos 7 ≡ pos 9 =
    sym is ∙ ap (λ (store : List (List ℤ)). element_at (row_of store 1) (pos 0)) (sym same) ∙ also in
    cc

-- only the first field is affected, and a change of it leaves the second
changed : (number : ℕ) (index value : ℤ) → FieldIsAffected one_bad (record { 0 = number }) →
    element_at (row_of (store_after_write (pending_with []).store number index value) 1) (pos 0) ≡ pos 7
changed zero index value far = refl
changed (suc zero) index value far = absurd (not_both 0 refl (of_one _ _ far 1 (lit< tt) refl))
changed (suc (suc number)) index value far = absurd far

pub returns-clause-field_stays : goal.returns-clause-field_stays
returns-clause-field_stays c program next (steps may) also = absurd may
returns-clause-field_stays c program next (changes_field field index value far number is) also =
    let both : pos 7 ≡ pos 9 = sym (changed field.0 index value far) ∙ ap second (sym is) ∙ also in
    cc
returns-clause-field_stays c program next (changes_variable call x value far number is) also =
    seven (pending_with []) next refl (ap (λ (it : Configuration). it.store) is) also
returns-clause-field_stays c program next (leaves_out item behind pending far is) also = absurd (cc)

pub returns-clause-none_affected : goal.returns-clause-none_affected
returns-clause-none_affected c field = no_field none_bad refl field
