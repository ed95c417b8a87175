use Rattle.front_end.specs.Sources.{Parsed}
use Rattle.jif_grammar.specs.DraftShapes.{draft_shape}
use Rattle.jifexplain.specs.Places.{DraftPlaced}
use Rattle.jifexplain.specs.Questions.{asked_shape}
use Rattle.jifexplain.proofs.Rereading.{due_behind}
use Rattle.jifexplain.proofs.places.tokens_placed.Goals as goal

pub returns : goal.returns
returns c = λ p h text_is loaded_h.
    due_behind (Parsed c.args.tokens.now)
    (DraftPlaced c.args.question.now.shown.name.now p h (asked_shape c.args.question.now.asked)
    c.args.question.now.why c.args.tokens.now)
    (draft_shape c.in_ok-draft.draft) c.draft_placed.result c.in_ok-draft.ensures.parsed
    (c.draft_placed.ensures p h text_is loaded_h)
