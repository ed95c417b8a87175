use Rattle.std.proofs.Common.{arith}
use Rattle.need_labels.specs.Labelled.{labelled_of}
use Rattle.msg_cost.specs.Moves.{planned_of}
use Rattle.msg_cost.proofs.Bounds.{program_small}
use Rattle.msg_cost.proofs.program_cost.cost.Goals as goal

pub returns : goal.returns
returns c =
    let planned = planned_of (labelled_of c.args.checked.now) c.args.needs.now c.args.hosts.now c.args.plan.now in
    let small = program_small planned c.hosts-sound.ensures.sound c.requires in
    omega arith
