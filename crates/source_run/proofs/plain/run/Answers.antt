use Rattle.std.proofs.Common.{◌≡◌, ◌+◌, ℕ, sym, ◌∙◌, subst, arith, below_more, add-one}
use Rattle.std.specs.Prelude.{Result, Ok, Err, OnErr}
use Rattle.std.proofs.lemmas.Bool.{false≢true}
use Rattle.jif_tree.specs.SourceRun.{prefix, IsAtEnd}
use Rattle.source_run.specs.Machine.{MachineShape}
use Rattle.source_run.specs.Windows.{window_of, blank_of}
use Rattle.source_run.proofs.OwnCells.{value-blank}
use Rattle.source_run.proofs.Steps.{Agrees, IsBlank, start_agrees, step_agrees, end_agrees}
use Rattle.source_run.proofs.plain.run.Goals as goal

on_err : {T E P : Type 0} (r : Result T E) → P → OnErr r P
on_err (Ok x) h = tt
on_err (Err e) h = h

pub loop-taken-init : goal.loop-taken-init
loop-taken-init c =
    let program = c.args.program.now in
    let store = c.args.store.now in
    let blank = blank_of c.deref.result.now in
    let unset : IsBlank blank = λ method. value-blank (window_of c.deref.result.now method) in
    record {
      agrees = subst (λ (m : MachineShape). Agrees program m (prefix program store 0))
          (sym (c.in_ok-machine.ensures store)) (start_agrees program blank unset store);
      before = λ n below. absurd (omega arith);
    }

pub returns-in_err-step-clause-err : goal.returns-in_err-step-clause-err
returns-in_err-step-clause-err c =
    let agrees = c.loop-taken.invariant.agrees in
    on_err c.from_residual-in_err-step.result
    (c.loop-taken.taken, omega arith, c.in_err-step.ensures.err ∙ sym agrees.store)

pub loop-taken-preserved : goal.loop-taken-preserved
loop-taken-preserved c =
    let program = c.args.program.now in
    let store = c.args.store.now in
    let agrees = c.loop-taken.invariant.agrees in
    let blank = blank_of c.deref-in-loop-taken.result.now in
    let unset : IsBlank blank = λ method. value-blank (window_of c.deref-in-loop-taken.result.now method) in
    record {
      agrees = subst (λ (m : MachineShape). Agrees program m (prefix program store (c.loop-taken.taken + 1)))
          (sym c.in_ok-step.ensures.ok)
          (rw add-one (step_agrees program blank unset _ (prefix program store c.loop-taken.taken) agrees));
      before = below_more (λ n. ¬ IsAtEnd (prefix program store n)) c.loop-taken.taken c.loop-taken.invariant.before
          (λ ends. false≢true (sym c.if-is_at_end.false ∙ c.is_at_end.ensures.1 (end_agrees agrees ends)));
    }

pub returns-clause-ok : goal.returns-clause-ok
returns-clause-ok c =
    let program = c.args.program.now in
    let store = c.args.store.now in
    let agrees = c.loop-taken.invariant.agrees in
    let all : c.loop-taken.taken ≡ c.args.steps = omega arith in
    subst (λ (n : ℕ). (¬ IsAtEnd (prefix program store n)) × (c.loop-taken.store ≡ (prefix program store n).store))
    all (
      λ ends. false≢true (sym c.if-is_at_end-2.false ∙ c.is_at_end-2.ensures.1 (end_agrees agrees ends)),
      sym agrees.store,
    )
