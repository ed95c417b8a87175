use Rattle.std.proofs.Common.{◌∙◌, arith}
use Rattle.control_split.proofs.Alike.{compared, at_within}
use Rattle.control_split.proofs.trace.is_at.Goals as goal

pub returns : goal.returns
returns c =
    c.eq.ensures ∙ compared c.args.label.now _ ∙ at_within c.args.labels.now c.args.place c.args.label.now _
    (omega arith)
