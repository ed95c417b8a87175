use Rattle.std.proofs.Common.{◌∙◌}
use Rattle.jif_tree.specs.Trees.{program_tree}
use Rattle.label_reasons.proofs.FoundReasons.{reason_is}
use Rattle.label_reasons.proofs.refusal.reason_by.Goals as goal

pub returns : goal.returns
returns c ask first =
    c.found_reason.ensures ∙ reason_is c.args.principals.now (program_tree c.args.program.now) c.args.held
    c.in_ok-located.located ask c.in_ok-located.ensures first
