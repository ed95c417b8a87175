use Rattle.std.proofs.lemmas.Result.{IfOk-weaker}
use Rattle.jiftokens.specs.Answers as answers
use Rattle.jiftokens.proofs.LoadedFiles.{due_loaded}
use Rattle.jiftokens.proofs.answers.answer_for_file.Goals as goal

pub returns-in-Ok-clause-due : goal.returns-in-Ok-clause-due
returns-in-Ok-clause-due g c =
    due_loaded c.args.name.now c.in-Ok.text.items _ _ _ c.answer_for_text.result c.in-Ok.ensures.gives
    (rw c.deref.ensures.value at c.answer_for_text.ensures)

pub returns-in-Err-TooLong-clause-due : goal.returns-in-Err-TooLong-clause-due
returns-in-Err-TooLong-clause-due g c =
    let over = rw c.in-Err-TooLong.field-0-is at c.in-Err-TooLong.ensures.gives in
    IfOk-weaker c.too_long.result _ _ (λ answer is. answers.oversized over is) c.too_long.ensures
