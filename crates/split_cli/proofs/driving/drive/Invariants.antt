use Rattle.net_world.specs.Fits.{world_of}
use Rattle.split_cli.proofs.NextEvents.{HasGone}
use Rattle.split_cli.proofs.driving.drive.Given as goal

abbrev pub invariant-loop-made : goal.invariant-loop-made
invariant-loop-made l = HasGone l.code (world_of l.initial.world) l.made l.world
