-- What the top call answers and puts out, by what is due.
use Rattle.std.specs.Prelude.{⊤, ℕ, List, codes}
use Rattle.js_base.specs.declared.status.Status.{Status}
use Rattle.front_end.specs.Answers as answers
use Rattle.front_end.specs.Answers.{SinkChange}
use Rattle.front_end.specs.Loads.{FilesChange}
use Rattle.jifexplain.specs.Due.{IsDue}

-- the answer is that to what is due, or want of memory
abbrev pub AnswersTo : List (List ℕ) → FilesChange → Status → SinkChange → SinkChange → Type 0
AnswersTo words files = answers.AnswersTo (codes "jifexplain") ⊤ (IsDue words files)
