use Rattle.std.proofs.Common.{◌≡◌}
use Rattle.std.specs.Prelude.{filter}
use Rattle.net_world.specs.Fits.{world_of}
use Rattle.net_world.specs.World.{misbehaves}
use Rattle.run_sheet.specs.RunSources.{hosts_below}
use Rattle.run_sheet.proofs.fields.misbehaving_of.Given as goal

-- those of the hosts so far
abbrev pub invariant-loop-number : goal.invariant-loop-number
invariant-loop-number l = l.bad.items ≡ filter (misbehaves (world_of l.world)) (hosts_below l.number)
