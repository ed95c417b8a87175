use Rattle.std.proofs.Common.{◌≡◌, drop, map}
use Rattle.run_chart.specs.Bars.{all_moments, moments_from, with_moments}
use Rattle.run_chart.specs.Sheets.{chart_row_shape}
use Rattle.run_chart.proofs.bars.all_moments.Given as goal

-- with the rows that are left, they are all of them
abbrev pub invariant-loop-number : goal.invariant-loop-number
invariant-loop-number l =
    with_moments l.found.items (moments_from l.places l.number (map chart_row_shape (drop l.number l.rows)))
    ≡ all_moments l.count (moments_from l.places 0 (map chart_row_shape l.rows))
