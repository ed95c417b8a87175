-- A run has one length at most, and what it answers is there and is determined.
use Rattle.std.proofs.Common.{◌≡◌, ◌⊎◌, ◌∙◌, ℕ, zero, suc, ◌≤◌, ℤ, List, [], ◌∷◌, inl, inr, arith, refl, ap, sym, subst}
use Rattle.std.proofs.lemmas.Bool.{cases_order}
use Rattle.jif_tree.specs.declared.program.Program.{Program}
use Rattle.jif_tree.specs.SourceRun.{Item, Configuration, after_item, step, prefix, IsAtEnd, HasLength}
use Rattle.source_run.specs.Runs.{RunsTo}
use Rattle.source_run.specs.declared.plain.RunEnd.{RunEnd}
use Rattle.source_run.specs.declared.plain.RunEnd.TheVariants.{Ended, NotYet}

pub one_length : (program : Program) (store : List (List ℤ)) (m n : ℕ) → HasLength program store m
    → HasLength program store n → m ≡ n
one_length program store m n one other = elim (cases_order m n) [
  | inl same ↦ same
  | inr apart ↦ elim apart [
    | inl less ↦ absurd (other.not_before m less one.ends)
    | inr more ↦ absurd (one.not_before n more other.ends)
  ]
]

-- ---- a run at its end stays there

end_stays : (program : Program) (c : Configuration) → IsAtEnd c → IsAtEnd (step program c)
end_stays program c ends = ap (λ (items : List Item). (after_item program c items).pending) ends ∙ ends

stays_at_end : (program : Program) (store : List (List ℤ)) (n m : ℕ) → n ≤ m →
    IsAtEnd (prefix program store n) → IsAtEnd (prefix program store m)
stays_at_end program store n zero within ends =
    let same : n ≡ 0 = omega arith in subst (λ k. IsAtEnd (prefix program store k)) same ends
stays_at_end program store n (suc m) within ends = elim (cases_order n (suc m)) [
  | inl same ↦ subst (λ k. IsAtEnd (prefix program store k)) same ends
  | inr apart ↦ elim apart [
    | inl less ↦ end_stays program (prefix program store m) (stays_at_end program store n m (omega arith) ends)
    | inr more ↦ absurd (omega arith)
  ]
]

-- ---- what is answered

pub one_answer : (program : Program) (start : List (List ℤ)) (steps : ℕ) (first second : RunEnd)
    (one other : List (List ℤ)) → RunsTo program start steps first one → RunsTo program start steps second other →
    (first ≡ second) × (one ≡ other)
one_answer program start steps (Ended m) (Ended n) one other (few, long, left) (also_few, also_long, also_left) =
    let same : m ≡ n = one_length program start m n long also_long in
    (ap Ended same, left ∙ ap (λ (k : ℕ). (prefix program start k).store) same ∙ sym also_left)
one_answer program start steps (Ended m) NotYet one other (few, long, left) (goes_on, also_left) =
    absurd (goes_on (stays_at_end program start m steps few long.ends))
one_answer program start steps NotYet (Ended n) one other (goes_on, left) (few, long, also_left) =
    absurd (goes_on (stays_at_end program start n steps few long.ends))
one_answer program start steps NotYet NotYet one other (goes_on, left) (also_goes_on, also_left) =
    (refl, left ∙ sym also_left)

-- ---- something is answered

at_end_or_not : (items : List Item) → (items ≡ []) ⊎ ¬ (items ≡ [])
at_end_or_not [] = inl refl
at_end_or_not (item ∷ items) = inr (λ same. let none : ⊥ = cc in none)

-- so many steps ended it, or did not
abbrev EndsBy : Program → List (List ℤ) → ℕ → Type 0
EndsBy program start steps = (n : ℕ) × (n ≤ steps) × HasLength program start n

abbrev GoesOn : Program → List (List ℤ) → ℕ → Type 0
GoesOn program start steps = (m : ℕ) → m ≤ steps → ¬ IsAtEnd (prefix program start m)

ends_or_goes_on : (program : Program) (start : List (List ℤ)) (steps : ℕ) →
    EndsBy program start steps ⊎ GoesOn program start steps
ends_or_goes_on program start zero = elim (at_end_or_not (prefix program start 0).pending) [
  | inl ends ↦ inl (0, omega arith, record { ends = ends; not_before = λ m less. absurd (omega arith) })
  | inr not ↦ inr (λ m few ends.
      let same : m ≡ 0 = omega arith in not (subst (λ k. IsAtEnd (prefix program start k)) same ends))
]
ends_or_goes_on program start (suc steps) = elim (ends_or_goes_on program start steps) [
  | inl (n, few, long) ↦ inl (n, omega arith, long)
  | inr goes_on ↦ elim (at_end_or_not (prefix program start (suc steps)).pending) [
    | inl ends ↦ inl (
      suc steps,
      omega arith,
      record {
        ends = ends;
        not_before = λ m less. goes_on m (omega arith);
      },
    )
    | inr not ↦ inr (λ m few ends. elim (cases_order m (suc steps)) [
      | inl same ↦ not (subst (λ k. IsAtEnd (prefix program start k)) same ends)
      | inr (inl less) ↦ goes_on m (omega arith) ends
      | inr (inr more) ↦ absurd (omega arith)
    ])
  ]
]

pub some_answer : (program : Program) (start : List (List ℤ)) (steps : ℕ) →
    (end : RunEnd) × (stop : List (List ℤ)) × RunsTo program start steps end stop
some_answer program start steps = elim (ends_or_goes_on program start steps) [
  | inl (n, few, long) ↦ (Ended n, (prefix program start n).store, (few, long, refl))
  | inr goes_on ↦ (NotYet, (prefix program start steps).store, (goes_on steps (omega arith), refl))
]
