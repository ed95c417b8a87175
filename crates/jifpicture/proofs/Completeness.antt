-- Where a report is due and nothing outside fails, it is answered, or memory ran out.
use Rattle.std.proofs.Common.{◌≡◌, ◌⊎◌, ℕ, ◌<◌, List, Option, Some}
use Rattle.std.specs.Prelude.{⊤, codes}
use Rattle.js_base.specs.Counts.{last_count}
use Rattle.js_base.specs.declared.status.Status.{Status}
use Rattle.js_base.specs.declared.status.Status.TheVariants.{NoMemory}
use Rattle.front_end.specs.Answers.{SinkChange}
use Rattle.front_end.specs.Loads.{FilesChange}
use Rattle.front_end.specs.Verdicts.{VerdictShape, Print}
use Rattle.front_end.proofs.DueByFiles.{due_report_answered}
use Rattle.jifpicture.specs.Answers.{AnswersTo}
use Rattle.jifpicture.specs.Due.{Due, IsDue}
use Rattle.jifpicture.proofs.OneVerdict.{due_or_fault}

-- one verdict is due at most
abbrev pub OneVerdict : Type 0
OneVerdict = (words : List (List ℕ)) (holds : List ℕ → Option (List ℕ)) (number other : ℕ)
    (first second : VerdictShape) → Due words (Some holds) number first → Due words (Some holds) other second →
    (number ≡ other) × (first ≡ second)

pub complete : OneVerdict → (words : List (List ℕ)) (files : FilesChange) (answer : Status) (out err : SinkChange)
    (holds : List ℕ → Option (List ℕ)) (number : ℕ) (status : Status) (text : List ℕ) →
    AnswersTo words files answer out err → files.held ≡ Some holds →
    Due words (Some holds) number (Print status text) → files.faults_after ≡ files.faults_before →
    files.faults_before < last_count → out.faults_after ≡ out.faults_before → out.faults_before < last_count →
    (answer ≡ status) ⊎ (answer ≡ NoMemory)
complete one words files answer out err holds number status text answers tells due calm below quiet under =
    due_report_answered (Due words) files holds (one words holds) (codes "jifpicture") ⊤ (IsDue words files)
    (due_or_fault words files) answer out err number status text answers tells due calm below quiet under
