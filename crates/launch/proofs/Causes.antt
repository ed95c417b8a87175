-- Why a run answers that a child was not started or not waited for.
use Rattle.std.proofs.Common.{◌≡◌, ◌∙◌, ◌≤◌, ℕ, List, [], ◌∷◌, refl, sym, subst, inl, inr, arith, Result, Ok, Err}
use Rattle.std.specs.Prelude.{Bool, true, false, if◌then◌else◌, IfErr, IfOk}
use Rattle.std.specs.List.{list_any}
use Rattle.std.proofs.lemmas.List.Sums.{sum_by-append}
use Rattle.js_base.specs.declared.OutOfMemory.{OutOfMemory}
use Rattle.js_base.specs.declared.status.Status.{Status}
use Rattle.js_base.specs.declared.status.Status.TheVariants as status
use Rattle.host_decl.specs.Refusal.{HostsRefusal, refusal_shape}
use Rattle.front_end.specs.declared.verdict.Verdict.{Verdict}
use Rattle.front_end.specs.Answers.{AnswersTo, IsAnswered, PutsWhole, SinkChange}
use Rattle.front_end.specs.Loads.{FilesChange}
use Rattle.front_end.specs.Verdicts.{Print, VerdictShape, file_fault, hosts_refused, no_such_file, verdict_shape}
use Rattle.launch.specs.declared.child_end.ChildEnd.{ChildEnd}
use Rattle.launch.specs.declared.child_end.ChildEnd.TheVariants.{Ended, NotStarted, NotWaited, NoMemory}
use Rattle.launch.specs.Due.{IsDue, IsLaunchRefusal, IsUndueLaunch, usage}
use Rattle.launch.specs.Launching.{failures}
use Rattle.launch.specs.Report.{ended_otherwise, has_failed, report, status_of_ends, wants_memory}
use Rattle.launch.specs.Starts.{RoseBy, SpawnerState, failure}

-- what is known of the spawner, whether a verdict was due or memory ran out
pub before_due : (words : List (List ℕ)) (files : FilesChange) (old new : SpawnerState) (due : Result Verdict
    OutOfMemory) →
    IfOk due (λ verdict. IsDue words files old new (verdict_shape verdict)) →
    IfErr due (λ _. IsUndueLaunch words files old new) → IsUndueLaunch words files old new
before_due words files old new (Err memory) is ran_out = ran_out
before_due words files old new (Ok verdict) (inl refusal) ran_out = inl refusal.1
before_due words files old new (Ok verdict) (inr launch) ran_out = inr (launch.0, launch.1, launch.2)

-- ---- the status of a report

chosen : (a b c : Bool) →
    (if a then status.NoMemory else (if b then status.ChildFault else (if c then status.ChildEnded else status.Done)))
    ≡ status.ChildFault → b ≡ true
chosen true b c is = absurd (other is)
  where
    other : status.NoMemory ≡ status.ChildFault → ⊥
    other is = cc
chosen false true c is = refl
chosen false false true is = absurd (other is)
  where
    other : status.ChildEnded ≡ status.ChildFault → ⊥
    other is = cc
chosen false false false is = absurd (other is)
  where
    other : status.Done ≡ status.ChildFault → ⊥
    other is = cc

one_more : (end : ChildEnd) (ends : List ChildEnd) (n : ℕ) → failure end ≡ n → n ≤ failures (end ∷ ends)
one_more end ends n is = omega (arith, is, sum_by-append failure (end ∷ []) ends)

some_failure : (ends : List ChildEnd) → list_any has_failed ends ≡ true → 1 ≤ failures ends
some_failure [] none = absurd (other none)
  where
    other : false ≡ true → ⊥
    other is = cc
some_failure (NotStarted ∷ ends) some = one_more NotStarted ends 1 refl
some_failure (NotWaited ∷ ends) some = one_more NotWaited ends 1 refl
some_failure (Ended code ∷ ends) some =
    omega (arith, some_failure ends some, sum_by-append failure (Ended code ∷ []) ends)
some_failure (NoMemory ∷ ends) some =
    omega (arith, some_failure ends some, sum_by-append failure (NoMemory ∷ []) ends)

rose_by_one : (many before after : ℕ) → 1 ≤ many → RoseBy many before after → RoseBy 1 before after
rose_by_one many before after one rose = record {
  least = elim rose.least [
    | inl least ↦ inl (omega (arith, least, one))
    | inr last ↦ inr last
  ];
  more = rose.more;
  calm = λ none. absurd (omega (arith, none));
}

-- ---- what is answered to a verdict

puts_status : (text : List ℕ) (said answer : Status) (sink : SinkChange) → PutsWhole text said answer sink →
    answer ≡ status.ChildFault → said ≡ status.ChildFault
puts_status text said answer sink (inl put) is = sym put.0 ∙ is
puts_status text said answer sink (inr fault) is = absurd (other (sym fault.0 ∙ is))
  where
    other : status.OutFault ≡ status.ChildFault → ⊥
    other is = cc

-- no refusal of a run is answered so
abbrev never : (verdict : VerdictShape) → Type 0
never verdict = (program : List ℕ) (answer : Status) (out err : SinkChange) → IsAnswered program verdict answer out
    err →
    answer ≡ status.ChildFault → ⊥

usage_never : never usage
usage_never program answer out err answered is = other (puts_status _ _ answer err answered.1 is)
  where
    other : status.Usage ≡ status.ChildFault → ⊥
    other is = cc

file_never : (file : List ℕ) → never (no_such_file file)
file_never file program answer out err answered is = other (puts_status _ _ answer err answered.1 is)
  where
    other : status.InputRefused ≡ status.ChildFault → ⊥
    other is = cc

fault_never : (file : List ℕ) → never (file_fault file)
fault_never file program answer out err answered is = other (puts_status _ _ answer err answered.1 is)
  where
    other : status.FileFault ≡ status.ChildFault → ⊥
    other is = cc

hosts_never : (why : HostsRefusal) → never (hosts_refused why)
hosts_never why program answer out err answered is = other (puts_status _ _ answer err answered.1 is)
  where
    other : status.InputRefused ≡ status.ChildFault → ⊥
    other is = cc

refusal_never : (words : List (List ℕ)) (files : FilesChange) (verdict : VerdictShape) →
    IsLaunchRefusal words files verdict →
    never verdict
refusal_never words files verdict (inl form) = subst never (sym form.2) usage_never
refusal_never words files verdict (inr (run, is, inl (inl absent))) = subst never (sym absent.4) (file_never absent.1)
refusal_never words files verdict (inr (run, is, inl (inr fault))) =
    subst never (sym fault.verdict_is) (fault_never files.failed)
refusal_never words files verdict (inr (run, is, inr read)) =
    subst never (sym read.3.3) (hosts_never (refusal_shape read.3.0))

-- where it is answered that a child failed, the spawner counted a fault
pub child_cause : (program : List ℕ) (words : List (List ℕ)) (files : FilesChange) (old new : SpawnerState)
    (Before : Type 0) (answer : Status) (out err : SinkChange) →
    AnswersTo program Before (IsDue words files old new) answer out err → answer ≡ status.ChildFault →
    RoseBy 1 old.faults new.faults
child_cause program words files old new Before answer out err (inl memory) is = absurd (other (sym memory.0 ∙ is))
  where
    other : status.NoMemory ≡ status.ChildFault → ⊥
    other is = cc
child_cause program words files old new Before answer out err (inr (verdict, inl refusal, answered)) is =
    absurd (refusal_never words files verdict refusal.0 program answer out err answered is)
child_cause program words files old new Before answer out err (inr (verdict, inr launch, answered)) is =
    let ends : List ChildEnd = launch.0 in
    let told : IsAnswered program (Print (status_of_ends ends) (report _ ends)) answer out err =
    subst (λ (due : VerdictShape). IsAnswered program due answer out err) launch.3 answered in
    rose_by_one (failures ends) old.faults new.faults
    (some_failure ends (chosen (list_any wants_memory ends) (list_any has_failed ends) (list_any ended_otherwise ends)
    (puts_status _ _ answer out told.1 is)))
    launch.2.launched.faults
