-- Where a report is due, it is answered, or memory ran out, or a fault was counted.
use Rattle.std.proofs.Common.{◌≡◌, ℕ, List, Option, Some, codes, inl, inr, subst, ⊎_elim}
use Rattle.js_base.specs.Counts.{Rose}
use Rattle.js_base.specs.declared.status.Status.{Status}
use Rattle.front_end.specs.Answers.{SinkChange, IsAnswered}
use Rattle.front_end.specs.Loads.{FilesChange}
use Rattle.front_end.specs.Verdicts.{VerdictShape, Print, file_fault}
use Rattle.split_cli.specs.Answers.{AnswersTo, AnswersReport}
use Rattle.split_cli.specs.Due.{Due, IsDueByFiles, IsFaultOf}
use Rattle.split_cli.proofs.OneVerdict.{fault_rose, fault_verdict}

-- one verdict is due at most
abbrev pub OneVerdict : Type 0
OneVerdict = (words : List (List ℕ)) (holds : List ℕ → Option (List ℕ)) (number other : ℕ)
    (first second : VerdictShape) → Due words (Some holds) number first → Due words (Some holds) other second →
    (number ≡ other) × (first ≡ second)

module _ (files : FilesChange) (status answer : Status) (out err : SinkChange) where
  -- the report was put, or the output failed
  report_put : (text : List ℕ) → IsAnswered (codes "jifsplit") (Print status text) answer out err →
      AnswersReport status files answer out err
  report_put text answered =
      ⊎_elim (λ put. inl put.0) (λ fault. inr (inr (inr (fault.0, inl fault.1)))) answered.1

  -- the files failed, and a line told of it or the output of lines failed
  fault_told : Rose files.faults_before files.faults_after →
      IsAnswered (codes "jifsplit") (file_fault files.failed) answer out err →
      AnswersReport status files answer out err
  fault_told rose answered =
      ⊎_elim (λ put. inr (inr (inl (put.0, rose)))) (λ fault. inr (inr (inr (fault.0, inr (rose, fault.1)))))
      answered.1

  -- where no load fails, what is due is what is due by what the files hold
  due_answered : OneVerdict → (words : List (List ℕ)) (holds : List ℕ → Option (List ℕ)) (number : ℕ) (text : List ℕ)
      (verdict : VerdictShape) → files.held ≡ Some holds → Due words (Some holds) number (Print status text) →
      IsDueByFiles words files verdict → IsAnswered (codes "jifsplit") verdict answer out err →
      AnswersReport status files answer out err
  due_answered one words holds number text verdict tells due by_files answered =
      let is : verdict ≡ Print status text =
      (one words holds by_files.0 number verdict (Print status text)
      (subst (λ (held : Option (List ℕ → Option (List ℕ))). Due words held by_files.0 verdict) tells by_files.1)
      due).1 in
      report_put text (subst (λ (it : VerdictShape). IsAnswered (codes "jifsplit") it answer out err) is answered)

  fault_answered : (words : List (List ℕ)) (verdict : VerdictShape) → IsFaultOf words files verdict →
      IsAnswered (codes "jifsplit") verdict answer out err → AnswersReport status files answer out err
  fault_answered words verdict fault answered =
      fault_told (fault_rose fault.0 files verdict fault.3)
      (subst (λ (it : VerdictShape). IsAnswered (codes "jifsplit") it answer out err)
      (fault_verdict fault.0 files verdict fault.3) answered)

pub complete : OneVerdict → (words : List (List ℕ)) (files : FilesChange) (answer : Status) (out err : SinkChange)
    (holds : List ℕ → Option (List ℕ)) (number : ℕ) (status : Status) (text : List ℕ) →
    AnswersTo words files answer out err → files.held ≡ Some holds →
    Due words (Some holds) number (Print status text) → AnswersReport status files answer out err
complete one words files answer out err holds number status text answers tells due =
    ⊎_elim (λ memory. inr (inl memory.0))
    (λ whole. ⊎_elim
    (λ by_files. due_answered files status answer out err one words holds number text whole.0 tells due by_files whole.2)
    (λ fault. fault_answered files status answer out err words whole.0 fault whole.2) whole.1)
    answers
