use Rattle.front_end.specs.Sources.{HostsRead}
use Rattle.front_end.proofs.Stages.{due_handed_on, due_stops}
use Rattle.jif_grammar.specs.DraftShapes.{draft_shape}
use Rattle.jifexplain.specs.Places.{DraftPlaced, SourcePlaced}
use Rattle.jifexplain.specs.Questions.{asked_shape}
use Rattle.jifexplain.proofs.places.draft_placed.Goals as goal

pub returns-in_err-file : goal.returns-in_err-file
returns-in_err-file c = λ p h text_is loaded_h.
    let question = c.args.question.now in
    due_handed_on (DraftPlaced question.shown.name.now p h (asked_shape question.asked) question.why c.args.tokens.now
    (draft_shape c.args.draft)) c.in_err-file.field-0.0 c.from_residual.result c.from_residual.ensures
    (due_stops (HostsRead h)
    (SourcePlaced question.shown.name.now p (asked_shape question.asked) question.why c.args.tokens.now
    (draft_shape c.args.draft)) c.in_err-file.field-0.0 (c.in_err-file.ensures.read h loaded_h))
