use Rattle.std.proofs.Common.{refl}
use Rattle.node_engine.specs.Nodes.{end_shape}
use Rattle.node_engine.specs.Options.{asked_shape}
use Rattle.node_engine.proofs.Ends.{stopped_answer, stopped_calmly}
use Rattle.node_engine.proofs.top.asked.Goals as goal

pub returns-in-Err-clause-answer : goal.returns-in-Err-clause-answer
returns-in-Err-clause-answer g c =
    stopped_answer (asked_shape c.args.options.now) _ c.in-Err.stop (end_shape c.node_end.result) _ _
    c.in-Err.ensures.due c.node_end.ensures (record { outside = refl; names = refl })

pub returns-in-Err-clause-faults : goal.returns-in-Err-clause-faults
returns-in-Err-clause-faults g c = stopped_calmly c.in-Err.stop (end_shape c.node_end.result) _ c.node_end.ensures
