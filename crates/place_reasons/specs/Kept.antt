-- Answers that are kept for questions that were asked.
use Rattle.std.specs.Prelude.{◌≡◌, List, All, Option, None, slice_get, unwrap_or}
use Rattle.js_base.specs.declared.ids.StmtId.{StmtId}
use Rattle.principals.specs.ActsFor.{Declared}
use Rattle.jif_tree.specs.Trees.{ProgramTree}
use Rattle.label_reasons.specs.declared.reason.Cause.{Cause}
use Rattle.label_reasons.specs.declared.reason.Trait.{Trait}
use Rattle.place_reasons.specs.declared.kept.Kept.{Kept}
use Rattle.place_reasons.specs.declared.question.Question.{Question}
use Rattle.place_reasons.specs.Questions.{program_answers}

-- that of one statement
abbrev pub answer_in : List (Option Cause) → StmtId → Option Cause
answer_in answers statement = unwrap_or (slice_get answers statement.0) None

-- the answers to this question for this pair
abbrev pub AnswersQuestion : Question → Trait → Kept → Type 0
AnswersQuestion question held kept = (kept.question ≡ question) × (kept.held ≡ held)

-- each is what the question comes to in this program
abbrev pub AreAnswers : Declared → ProgramTree → List Kept → Type 0
AreAnswers principals program kept =
    All (λ one. one.answers.items ≡ program_answers one.question one.held principals program) kept
