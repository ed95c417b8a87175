use Rattle.std.proofs.Common.{◌≡◌, drop}
use Rattle.run_chart.specs.Columns.{way_before}
use Rattle.run_chart.proofs.columns.way_before.Given as goal

abbrev pub invariant-loop-stand : goal.invariant-loop-stand
invariant-loop-stand l =
    way_before l.x l.way (drop l.stand-index l.stands) ≡ way_before l.x 200 l.stands
