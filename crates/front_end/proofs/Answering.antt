-- What a put leaves on a sink, what is then answered, and what follows of answers.
use Rattle.std.proofs.Common.{◌≡◌, ℕ, ◌<◌, List, length, [], ◌∷◌, Option, Some, None, refl}
use Rattle.std.proofs.Common.{sym, ◌∙◌, ap, subst, inl, inr, ⊎_elim, Result, Ok, Err, arith}
use Rattle.std.specs.Prelude.{◌⊎◌, ⊤, OnOk, OnErr, IfOk, IfErr, IsErrOf}
use Rattle.std.proofs.lemmas.List.{append-nil, take_all}
use Rattle.js_base.specs.Counts.{Rose, last_count}
use Rattle.js_base.specs.Sink.{Takes, TakesFront}
use Rattle.js_base.specs.declared.status.Status.{Status}
use Rattle.js_base.specs.declared.status.Status.TheVariants.{NoMemory, OutFault}
use Rattle.js_base.specs.declared.sink.PutError.{PutError}
use Rattle.js_base.specs.declared.sink.PutError.TheVariants as put_error
use Rattle.front_end.specs.declared.verdict.Verdict.{Verdict}
use Rattle.front_end.specs.Refusals.{RefusalShape, error_line, no_memory_line, refusal_status, refusal_text}
use Rattle.front_end.specs.Verdicts.{VerdictShape, Print, Refuse, verdict_shape}
use Rattle.front_end.specs.Answers.{SinkChange, IsUndue, IsUntouched, IsAnswered, AnswersRefusal, AnswersVerdict}
use Rattle.front_end.specs.Answers.{AnswersTo}

-- whatever a put answered, a front of the text was put
pub front_put : {T E : Type 0} (put : Result T E) (text : List ℕ) (before after : Option (List ℕ)) →
    OnOk put (Takes text before after) →
    OnErr put (TakesFront text before after) → TakesFront text before after
front_put (Ok x) text before after whole front = (
  length text,
  let P : List ℕ → Type 0 =
      λ t. Takes t before after in subst P (sym (take_all (length text) text (omega arith))) whole,
)
front_put (Err e) text before after whole front = front

-- nothing of a text was put
pub nothing_put : (text : List ℕ) (taken : Option (List ℕ)) → TakesFront text taken taken
nothing_put text None = (0, refl)
nothing_put [] (Some bytes) = (0, ap Some (sym (append-nil bytes)))
nothing_put (byte ∷ text) (Some bytes) = (0, ap Some (sym (append-nil bytes)))

-- ---- answers

-- what a put of its line leaves of a refusal: all of it, or a front where the sink failed, or a front and then a front
-- of
-- what is said where memory ran out
pub refuses_by_put : (program : List ℕ) (refusal : RefusalShape) (put : Result ⊤ PutError) (answer : Status)
    (err : SinkChange) (taken : Option (List ℕ)) (faults : ℕ) →
    let line = error_line program (refusal_text refusal) in
    OnOk put (Takes line err.taken_before taken) → OnErr put (TakesFront line err.taken_before taken) →
    IsErrOf put put_error.Failed ⊎ (faults ≡ err.faults_before) →
    (IsErrOf put put_error.Failed → Rose err.faults_before faults) →
    OnOk put (answer ≡ refusal_status refusal) → (IsErrOf put put_error.Failed → answer ≡ OutFault) →
    (IsErrOf put put_error.OutOfMemory → answer ≡ NoMemory) →
    (IsErrOf put put_error.OutOfMemory → TakesFront (no_memory_line program) taken err.taken_after) →
    (¬ IsErrOf put put_error.OutOfMemory → (err.taken_after ≡ taken) × (err.faults_after ≡ faults)) →
    AnswersRefusal program refusal answer err
refuses_by_put program refusal (Ok x) answer err taken faults whole front calm rose is failed memory said same =
    let line = error_line program (refusal_text refusal) in
    let kept = same (λ no. cc) in
    let quiet : faults ≡ err.faults_before = ⊎_elim (λ no. absurd (let n = no in cc)) (λ is. is) calm in
    inr (inl (
      is,
      subst (λ (after : Option (List ℕ)). Takes line err.taken_before after) (sym kept.0) whole,
      kept.1 ∙ quiet,
    ))
refuses_by_put program refusal (Err put_error.Failed) answer err taken faults whole front calm rose is failed memory
    said
    same =
    let line = error_line program (refusal_text refusal) in
    let kept = same (λ no. cc) in
    inr (inr (
      failed refl,
      subst (λ (after : ℕ). Rose err.faults_before after) (sym kept.1) (rose refl),
      subst (λ (after : Option (List ℕ)). TakesFront line err.taken_before after) (sym kept.0) front,
    ))
refuses_by_put program refusal (Err put_error.OutOfMemory) answer err taken faults whole front calm rose is failed
    memory
    said same =
    inl (memory refl, (taken, front, said refl))

-- the answer to a refusal, where nothing was put on the output
pub refusal_answered : (program : List ℕ) (refusal : RefusalShape) (answer : Status) (out err : SinkChange) →
    IsUntouched out → AnswersRefusal program refusal answer err → AnswersVerdict program (Refuse refusal) answer out err
refusal_answered program refusal answer out err untouched refuses =
    ⊎_elim (λ short. inl (short.0, (untouched, short.1))) (λ whole. inr (untouched, whole)) refuses

-- what is answered to what was found to be due, or to want of memory
pub answers_to : {X : Type 0} (program : List ℕ) (Before : Type 0) (IsDue : VerdictShape → Type 0)
    (due : Result Verdict X) (answer : Status) (out err : SinkChange) → Before →
    IfOk due (λ verdict. IsDue (verdict_shape verdict)) →
    IfOk due (λ verdict. AnswersVerdict program (verdict_shape verdict) answer out err) →
    IfErr due (λ _. (answer ≡ NoMemory) × IsUndue program out err) →
    AnswersTo program Before IsDue answer out err
answers_to program Before IsDue (Ok verdict) answer out err before due (inl short) none =
    inl (short.0, inr (verdict_shape verdict, due, short.1))
answers_to program Before IsDue (Ok verdict) answer out err before due (inr whole) none =
    inr (verdict_shape verdict, due, whole)
answers_to program Before IsDue (Err error) answer out err before due answered none =
    inl (none.0, inl (before, none.1))

-- a count that stands where it stood has not risen
pub no_fault_and_fault : (before after : ℕ) → before < last_count → after ≡ before → ¬ Rose before after
no_fault_and_fault before after below same rose = ⊎_elim (λ lt. omega arith) (λ last. omega arith) rose

-- where a report alone is due and the output counts no fault, it is answered, or memory ran out
pub report_answered : (program : List ℕ) (Before : Type 0) (IsDue : VerdictShape → Type 0) (answer : Status)
    (out err : SinkChange) (status : Status) (text : List ℕ) → AnswersTo program Before IsDue answer out err →
    ((verdict : VerdictShape) → IsDue verdict → verdict ≡ Print status text) →
    out.faults_after ≡ out.faults_before → out.faults_before < last_count → (answer ≡ status) ⊎ (answer ≡ NoMemory)
report_answered program Before IsDue answer out err status text (inl memory) one quiet under = inr memory.0
report_answered program Before IsDue answer out err status text (inr whole) one quiet under =
    let answered : IsAnswered program (Print status text) answer out err =
    subst (λ (verdict : VerdictShape). IsAnswered program verdict answer out err) (one whole.0 whole.1) whole.2 in
    inl (⊎_elim (λ put. put.0)
    (λ fault. absurd (no_fault_and_fault out.faults_before out.faults_after under quiet fault.1)) answered.1)
