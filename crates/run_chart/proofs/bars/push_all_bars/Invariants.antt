use Rattle.std.proofs.Common.{◌≡◌, ◌++◌, drop, map}
use Rattle.std.specs.String.{string_bytes}
use Rattle.run_chart.specs.Bars.{all_bars, moments_from}
use Rattle.run_chart.specs.Sheets.{chart_host_shape, chart_row_shape}
use Rattle.run_chart.proofs.bars.push_all_bars.Given as goal

-- what was written, and the bars of the hosts that are left, are all of them
abbrev pub invariant-loop-number : goal.invariant-loop-number
invariant-loop-number l =
    string_bytes l.text
    ++ all_bars l.from l.end l.columns (moments_from l.places 0 (map chart_row_shape l.rows)) l.number
    (map chart_host_shape (drop l.number l.hosts))
    ≡ string_bytes l.initial.text
    ++ all_bars l.from l.end l.columns (moments_from l.places 0 (map chart_row_shape l.rows)) 0
    (map chart_host_shape l.hosts)
