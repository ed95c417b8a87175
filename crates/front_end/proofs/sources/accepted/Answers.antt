use Rattle.jif_grammar.specs.DraftShapes.{draft_shape}
use Rattle.jif_tree.specs.Trees.{program_tree}
use Rattle.front_end.specs.SourceShapes.{source_shape}
use Rattle.front_end.specs.Sources.{Resolved, ProgramLabelled, DraftAccepted}
use Rattle.front_end.proofs.Stages.{handed_on, then_ends, then_stops}
use Rattle.front_end.proofs.sources.accepted.Goals as goal

pub returns-in_err-program : goal.returns-in_err-program
returns-in_err-program c =
    handed_on source_shape (DraftAccepted c.args.hosts (draft_shape c.args.draft)) c.in_err-program.field-0.0
    c.from_residual.result c.from_residual.ensures
    (then_stops (Resolved c.args.hosts (draft_shape c.args.draft)) (ProgramLabelled c.args.hosts)
    c.in_err-program.field-0.0
    c.in_err-program.ensures.resolved)

pub returns : goal.returns
returns c =
    then_ends program_tree source_shape (Resolved c.args.hosts (draft_shape c.args.draft))
    (ProgramLabelled c.args.hosts)
    c.in_ok-program.program c.labelled.result c.in_ok-program.ensures.resolved c.labelled.ensures
