-- What the top call answers and puts out, by what is due.
use Rattle.std.specs.Prelude.{◌≡◌, ◌⊎◌, ℕ, List, codes}
use Rattle.js_base.specs.Counts.{Rose}
use Rattle.js_base.specs.declared.status.Status.{Status}
use Rattle.js_base.specs.declared.status.Status.TheVariants.{FileFault, OutFault, NoMemory}
use Rattle.front_end.specs.Answers as answers
use Rattle.front_end.specs.Answers.{SinkChange}
use Rattle.front_end.specs.Loads.{FilesChange}
use Rattle.split_cli.specs.Due.{IsDue, MaySave, OfCommand}

-- The answer is that to what is due, or want of memory. Where memory ran out before anything was due, no more was saved
-- than the command may save.
abbrev pub AnswersTo : List (List ℕ) → FilesChange → Status → SinkChange → SinkChange → Type 0
AnswersTo words files =
    answers.AnswersTo (codes "jifsplit") (OfCommand (λ command. MaySave command files) words files) (IsDue words files)

-- The answer where a report with this status is due for what the files hold: this status, or want of memory. Or the
-- files counted a fault. Or an output did: that of the report, or that of the line which tells of a fault of the files.
abbrev pub AnswersReport : (status : Status) → FilesChange → Status → SinkChange → SinkChange → Type 0
AnswersReport status files answer out err =
    let files_fail = Rose files.faults_before files.faults_after in
    (answer ≡ status) ⊎ (answer ≡ NoMemory) ⊎ ((answer ≡ FileFault) × files_fail)
    ⊎ ((answer ≡ OutFault)
    × (Rose out.faults_before out.faults_after ⊎ (files_fail × Rose err.faults_before err.faults_after)))
