use Rattle.std.proofs.Common.{arith}
use Rattle.need_labels.specs.Labelled.{labelled_of}
use Rattle.msg_cost.specs.Moves.{planned_of}
use Rattle.msg_cost.specs.Steps.{moved}
use Rattle.msg_cost.proofs.Bounds.{program_small}
use Rattle.msg_cost.proofs.program_cost.cost_moved.Goals as goal

pub returns-clause-cost : goal.returns-clause-cost
returns-clause-cost c =
    let planned = planned_of (labelled_of c.args.checked.now) c.args.needs.now c.args.hosts.now
    (moved c.args.plan.now c.args.step) in
    let small = program_small planned c.hosts-sound.ensures.sound c.requires in
    omega arith

pub returns-clause-small : goal.returns-clause-small
returns-clause-small c =
    let planned = planned_of (labelled_of c.args.checked.now) c.args.needs.now c.args.hosts.now
    (moved c.args.plan.now c.args.step) in
    let small = program_small planned c.hosts-sound.ensures.sound c.requires in
    omega arith
