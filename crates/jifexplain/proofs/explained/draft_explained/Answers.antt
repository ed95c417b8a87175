use Rattle.front_end.specs.Refusals.{refusal_shape}
use Rattle.front_end.specs.Sources.{HostsRead}
use Rattle.front_end.proofs.Stages.{due_handed_on, due_stops}
use Rattle.jif_grammar.specs.DraftShapes.{draft_shape}
use Rattle.jifexplain.specs.Explained.{DraftExplained, TreeExplained}
use Rattle.jifexplain.proofs.explained.draft_explained.Goals as goal

pub returns-in_err-file : goal.returns-in_err-file
returns-in_err-file c = λ p h text_is loaded_h.
    due_handed_on (DraftExplained c.args.shown.now.name.now p h (refusal_shape c.args.refusal) c.args.tokens.now
    (draft_shape c.args.draft)) c.in_err-file.field-0.0 c.from_residual.result c.from_residual.ensures
    (due_stops (HostsRead h)
    (TreeExplained c.args.shown.now.name.now p (refusal_shape c.args.refusal) c.args.tokens.now
    (draft_shape c.args.draft)) c.in_err-file.field-0.0 (c.in_err-file.ensures.read h loaded_h))
