-- What is due by what files hold, or for one of them whose load failed: it is one verdict where they tell what they hold,
-- and where no load failed it is due by what they hold. A program has its own `Due` of its words.
use Rattle.std.proofs.Common.{◌≡◌, ◌⊎◌, ◌∙◌, ℕ, ◌<◌, List, Option, Some, subst, sym, ⊎_elim}
use Rattle.js_base.specs.Counts.{Rose, last_count}
use Rattle.js_base.specs.declared.status.Status.{Status}
use Rattle.js_base.specs.declared.status.Status.TheVariants.{NoMemory}
use Rattle.front_end.specs.Answers.{AnswersTo, SinkChange}
use Rattle.front_end.specs.Loads.{FilesChange, LoadsWell}
use Rattle.front_end.specs.Verdicts.{VerdictShape, Print, file_fault}
use Rattle.front_end.proofs.Answering.{no_fault_and_fault, report_answered}

-- files failed, and this tells of it
abbrev pub TellsFault : FilesChange → VerdictShape → Type 0
TellsFault files verdict = Rose files.faults_before files.faults_after × (verdict ≡ file_fault files.failed)

-- it is due by what is held, or a load failed
abbrev pub IsDueOrFault : (Option (List ℕ → Option (List ℕ)) → ℕ → VerdictShape → Type 0) → FilesChange → VerdictShape →
    Type 0
IsDueOrFault Due files verdict =
    ((number : ℕ) × Due files.held number verdict × LoadsWell number files) ⊎ TellsFault files verdict

module _ (Due : Option (List ℕ → Option (List ℕ)) → ℕ → VerdictShape → Type 0) (files : FilesChange)
    (holds : List ℕ → Option (List ℕ)) where
  -- after one number of loads one verdict is due
  abbrev pub IsOneDue : Type 0
  IsOneDue = (number other : ℕ) (first second : VerdictShape) → Due (Some holds) number first →
      Due (Some holds) other second → (number ≡ other) × (first ≡ second)

  -- as they hold it
  held_due : files.held ≡ Some holds → (number : ℕ) (verdict : VerdictShape) → Due files.held number verdict →
      Due (Some holds) number verdict
  held_due tells number verdict due =
      subst (λ (held : Option (List ℕ → Option (List ℕ))). Due held number verdict) tells due

  pub due_or_fault_once : IsOneDue → files.held ≡ Some holds → files.faults_before < last_count →
      (first second : VerdictShape) → IsDueOrFault Due files first → IsDueOrFault Due files second → first ≡ second
  due_or_fault_once one tells below first second here there =
      ⊎_elim
      (λ due. ⊎_elim
      (λ also. (one due.0 also.0 first second (held_due tells due.0 first due.1) (held_due tells also.0 second also.1)).1)
      (λ fault. absurd (no_fault_and_fault files.faults_before files.faults_after below due.2.no_fault fault.0))
      there)
      (λ fault. ⊎_elim
      (λ also. absurd (no_fault_and_fault files.faults_before files.faults_after below also.2.no_fault fault.0))
      (λ also. fault.1 ∙ sym also.1)
      there)
      here

  -- where no load fails
  due_by_content : IsOneDue → files.held ≡ Some holds → files.faults_after ≡ files.faults_before →
      files.faults_before < last_count → (number : ℕ) (first second : VerdictShape) → Due (Some holds) number first →
      IsDueOrFault Due files second → second ≡ first
  due_by_content one tells calm below number first second due also =
      ⊎_elim (λ by_files. (one by_files.0 number second first (held_due tells by_files.0 second by_files.1) due).1)
      (λ fault. absurd (no_fault_and_fault files.faults_before files.faults_after below calm fault.0)) also

  -- where a report is due and neither the files nor the output count a fault, it is answered, or memory ran out
  pub due_report_answered : IsOneDue → (program : List ℕ) (Before : Type 0) (IsDue : VerdictShape → Type 0) →
      ((verdict : VerdictShape) → IsDue verdict → IsDueOrFault Due files verdict) → (answer : Status) (out err : SinkChange)
      (number : ℕ) (status : Status) (text : List ℕ) → AnswersTo program Before IsDue answer out err →
      files.held ≡ Some holds → Due (Some holds) number (Print status text) →
      files.faults_after ≡ files.faults_before → files.faults_before < last_count →
      out.faults_after ≡ out.faults_before → out.faults_before < last_count → (answer ≡ status) ⊎ (answer ≡ NoMemory)
  due_report_answered one program Before IsDue due_or answer out err number status text answers tells due calm below
      quiet under =
      report_answered program Before IsDue answer out err status text answers
      (λ verdict is. due_by_content one tells calm below number (Print status text) verdict due (due_or verdict is)) quiet
      under
