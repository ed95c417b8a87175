use Rattle.net_world.specs.Fits.{world_of}
use Rattle.net_world.proofs.Seeing.{no, untrue, fly_more}
use Rattle.net_world.proofs.world.World.fly_openly.Goals as goal

pub returns-then-not-fly_openly_from : goal.returns-then-not-fly_openly_from
returns-then-not-fly_openly_from c =
    no (λ all. untrue c.fly_openly_from.result c.if-not-fly_openly_from.true c.fly_openly_from.ensures
    (all (record { 0 = c.loop-from.from })))

pub loop-from-preserved : goal.loop-from-preserved
loop-from-preserved c = record {
  openly = fly_more c.args.code.now (world_of c.args.self.now) c.loop-from.from c.loop-from.invariant.openly
      (c.fly_openly_from.ensures.0 c.if-not-fly_openly_from.false);
}
