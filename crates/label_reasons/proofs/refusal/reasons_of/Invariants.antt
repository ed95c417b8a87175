use Rattle.std.proofs.Common.{◌≡◌, take}
use Rattle.std.specs.List.{filter_map}
use Rattle.jif_tree.specs.Trees.{program_tree}
use Rattle.label_reasons.specs.Asks.{Ask}
use Rattle.label_reasons.specs.Reasons.{reason_of}
use Rattle.label_reasons.specs.Search.{IsFirstRefused}
use Rattle.label_reasons.proofs.refusal.reasons_of.Given as goal

-- the reasons by the first of what is held are there
abbrev pub invariant-loop-held : goal.invariant-loop-held
invariant-loop-held l =
    (ask : Ask) → IsFirstRefused l.principals (program_tree l.program) ask →
    l.reasons.items ≡ filter_map (reason_of ask.cause) (take l.held-index l.traits)
