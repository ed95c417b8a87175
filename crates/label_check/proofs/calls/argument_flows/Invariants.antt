use Rattle.std.proofs.Common.{length}
use Rattle.label_check.specs.Parts.{flows_to_params}
use Rattle.label_check.proofs.Arguments.{FlowsFrom}
use Rattle.label_check.proofs.calls.argument_flows.Given as goal

-- the flows so far are met
abbrev pub invariant-flowing : goal.invariant-flowing
invariant-flowing l =
    FlowsFrom l.statement (flows_to_params l.pc l.labels l.fn.from l.fn.params)
    (flows_to_params l.pc l.labels l.given l.left)

abbrev pub decreases-flowing : goal.decreases-flowing
decreases-flowing l = length l.left
