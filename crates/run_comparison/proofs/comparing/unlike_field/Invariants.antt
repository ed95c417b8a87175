use Rattle.net_world.specs.Fits.{world_of}
use Rattle.run_comparison.proofs.AlikeLists.{AlikeBelow}
use Rattle.run_comparison.proofs.comparing.unlike_field.Given as goal

-- no field so far starts unlike
abbrev pub invariant-loop-number : goal.invariant-loop-number
invariant-loop-number l = AlikeBelow l.code (world_of l.world) l.one l.other l.number
