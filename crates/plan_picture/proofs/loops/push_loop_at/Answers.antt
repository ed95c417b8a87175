use Rattle.std.proofs.Common.{sym}
use Rattle.std.proofs.lemmas.List.{append-nil}
use Rattle.plan_picture.proofs.TextsAt.{no_text}
use Rattle.plan_picture.proofs.loops.push_loop_at.Goals as goal

pub returns-in-None : goal.returns-in-None
returns-in-None c =
    rw (no_text c.args.sheet.now.texts.now c.args.statement.0 c.in-None.ensures.lookup.3)
    (sym (append-nil c.args.found.now.items))
