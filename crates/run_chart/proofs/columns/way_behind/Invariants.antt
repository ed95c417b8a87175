use Rattle.std.proofs.Common.{◌≡◌, drop}
use Rattle.run_chart.specs.Columns.{way_behind}
use Rattle.run_chart.proofs.columns.way_behind.Given as goal

abbrev pub invariant-loop-stand : goal.invariant-loop-stand
invariant-loop-stand l =
    way_behind l.x (drop l.stand-index l.stands) ≡ way_behind l.x l.stands
