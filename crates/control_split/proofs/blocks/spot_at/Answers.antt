use Rattle.msg_cost.proofs.Riding.{carried_behind}
use Rattle.msg_cost.specs.Views.{shape_of}
use Rattle.control_split.proofs.blocks.spot_at.Goals as goal

pub returns-then-place-block-clause-carried : goal.returns-then-place-block-clause-carried
returns-then-place-block-clause-carried c =
    carried_behind (shape_of c.args.planned.now) c.args.spot c.next_spot.result c.args.block.now c.args.place
    c.if-place-block.true c.next_spot.ensures.result
