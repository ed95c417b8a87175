use Rattle.need_labels.specs.Labelled.{labelled_of}
use Rattle.msg_cost.specs.Moves.{planned_of}
use Rattle.msg_cost.proofs.Touched.{others_small}
use Rattle.msg_cost.proofs.change.cost_before.Goals as goal

pub returns-clause-cost : goal.returns-clause-cost
returns-clause-cost c =
    let planned = planned_of (labelled_of c.args.checked.now) c.args.needs.now c.args.hosts.now c.args.plan.now in
    (others_small planned c.hosts-sound.ensures.sound c.requires.within c.args.index.now c.requires.index.rows
    c.args.step c.others_touched.result c.others_touched.ensures).0

pub returns-clause-small : goal.returns-clause-small
returns-clause-small c =
    let planned = planned_of (labelled_of c.args.checked.now) c.args.needs.now c.args.hosts.now c.args.plan.now in
    (others_small planned c.hosts-sound.ensures.sound c.requires.within c.args.index.now c.requires.index.rows
    c.args.step c.others_touched.result c.others_touched.ensures).1
