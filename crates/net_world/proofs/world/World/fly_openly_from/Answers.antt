use Rattle.net_world.specs.Fits.{world_of}
use Rattle.net_world.proofs.Seeing.{no, untrue, fly_to_more}
use Rattle.net_world.proofs.world.World.fly_openly_from.Goals as goal

pub returns-then-not-fly_openly_to : goal.returns-then-not-fly_openly_to
returns-then-not-fly_openly_to c =
    no (λ all. untrue c.fly_openly_to.result c.if-not-fly_openly_to.true c.fly_openly_to.ensures
    (all (record { 0 = c.loop-to.to })))

pub loop-to-preserved : goal.loop-to-preserved
loop-to-preserved c = record {
  openly = fly_to_more c.args.code.now (world_of c.args.self.now) c.args.from c.loop-to.to c.loop-to.invariant.openly
      (c.fly_openly_to.ensures.0 c.if-not-fly_openly_to.false);
}
