use Rattle.std.proofs.Common.{sym}
use Rattle.std.specs.String.{string_bytes}
use Rattle.std.proofs.lemmas.List.{append-nil}
use Rattle.plan_picture.proofs.TextsAt.{no_text, text_there}
use Rattle.plan_picture.proofs.boxes.push_statement_of.Goals as goal

pub returns-in-None : goal.returns-in-None
returns-in-None c =
    rw (no_text c.args.sheet.now.texts.now c.args.statement.0 c.in-None.ensures.lookup.3)
    (sym (append-nil (string_bytes c.args.text.now)))

pub returns-in-Some : goal.returns-in-Some
returns-in-Some c =
    rw (text_there c.args.sheet.now.texts.now c.args.statement.0 _ c.in-Some.ensures.lookup.3.0
    c.in-Some.ensures.lookup.1)
    (rw (c.line_at-line.ensures, c.is_released-released.ensures) at c.push_statement.ensures)
