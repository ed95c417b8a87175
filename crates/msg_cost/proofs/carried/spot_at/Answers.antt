use Rattle.std.proofs.Common.{add-one, arith}
use Rattle.msg_cost.specs.Moves.{on}
use Rattle.msg_cost.specs.Views.{seated_shape}
use Rattle.msg_cost.proofs.Riding.{one_behind}
use Rattle.msg_cost.proofs.carried.spot_at.Goals as goal

pub loop-place-preserved : goal.loop-place-preserved
loop-place-preserved c =
    let most = c.requires.count in
    rw add-one (record {
      spot = one_behind (seated_shape c.args.planned.now) (on c.args.home) c.args.block.now c.loop-place.place
          c.loop-place.spot c.next_spot-spot.result (omega arith) c.loop-place.invariant.spot
          c.next_spot-spot.ensures.result;
      right = rw add-one at c.next_spot-spot.ensures.right;
    })
