use Rattle.std.proofs.Common.{◌≡◌, drop}
use Rattle.std.specs.List.{list_any}
use Rattle.plan_picture.specs.Legend.{is_of}
use Rattle.plan_picture.proofs.legend.some_of.Given as goal

abbrev pub invariant-loop-way : goal.invariant-loop-way
invariant-loop-way l = list_any (is_of l.kind) (drop l.way-index l.ways) ≡ list_any (is_of l.kind) l.ways
