use Rattle.std.proofs.Common.{◌≡◌, drop}
use Rattle.std.specs.List.{list_any}
use Rattle.plan_picture.specs.Legend.{has_riders}
use Rattle.plan_picture.proofs.legend.some_rider.Given as goal

abbrev pub invariant-loop-way : goal.invariant-loop-way
invariant-loop-way l = list_any has_riders (drop l.way-index l.ways) ≡ list_any has_riders l.ways
