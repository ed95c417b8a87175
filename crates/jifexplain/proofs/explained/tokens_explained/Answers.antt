use Rattle.front_end.specs.Refusals.{refusal_shape}
use Rattle.front_end.specs.Sources.{Parsed}
use Rattle.jif_grammar.specs.DraftShapes.{draft_shape}
use Rattle.jifexplain.specs.Explained.{DraftExplained}
use Rattle.jifexplain.proofs.Rereading.{due_behind}
use Rattle.jifexplain.proofs.explained.tokens_explained.Goals as goal

pub returns : goal.returns
returns c = λ p h text_is loaded_h.
    due_behind (Parsed c.args.tokens.now)
    (DraftExplained c.args.shown.now.name.now p h (refusal_shape c.args.refusal) c.args.tokens.now)
    (draft_shape c.in_ok-draft.draft) c.draft_explained.result c.in_ok-draft.ensures.parsed
    (c.draft_explained.ensures p h text_is loaded_h)
