-- What is due for a file of which this is loaded.
use Rattle.std.proofs.Common.{ℕ, List, Option, Some, Result}
use Rattle.std.specs.Prelude.{IfOk}
use Rattle.std.proofs.lemmas.Result.{IfOk-weaker}
use Rattle.jiftokens.specs.declared.answers.Answer.{Answer}
use Rattle.jiftokens.specs.Answers as answers
use Rattle.jiftokens.specs.Answers.{IsDueFor, IsDueForFile, Told}
use Rattle.jiftokens.specs.Shapes.{answer_shape}

pub due_loaded : {E : Type 0} (name text : List ℕ) (held : Option (List ℕ → Option (List ℕ))) (before after : ℕ)
    (result : Result Answer E) → Told held name (Some text) →
    IfOk result (λ answer. IsDueFor text (answer_shape answer)) →
    IfOk result (λ answer. IsDueForFile name held before after (answer_shape answer))
due_loaded name text held before after result told due =
    IfOk-weaker result _ _ (λ answer is. answers.loaded text told is) due
