use Rattle.front_end.specs.Stages.{stopped}
use Rattle.front_end.proofs.Stages.{stops_weaker}
use Rattle.node_starts.specs.NodeSources.{PartChecked, PartRefused, node_start}
use Rattle.node_starts.specs.SourceNames.{Code as from_code}
use Rattle.node_starts.proofs.node_part.sound_node.Goals as goal

pub returns-in-Err-clause-due : goal.returns-in-Err-clause-due
returns-in-Err-clause-due c =
    stops_weaker (PartRefused c.args.name.now c.in-Err.why)
    (λ verdict. PartChecked (from_code c.args.name.now) (node_start c.args.node) (stopped verdict))
    c.part_refused.result (λ verdict was. (c.in-Err.why, c.in-Err.ensures.refused, was)) c.part_refused.ensures
