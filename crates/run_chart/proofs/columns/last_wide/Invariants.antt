use Rattle.std.proofs.Common.{◌≡◌, drop}
use Rattle.run_chart.specs.Columns.{last_wide}
use Rattle.run_chart.proofs.columns.last_wide.Given as goal

abbrev pub invariant-loop-number : goal.invariant-loop-number
invariant-loop-number l =
    last_wide l.last l.number (drop l.number l.stands) ≡ last_wide 0 0 l.stands
