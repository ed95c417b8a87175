use Rattle.std.proofs.Common.{◌≡◌, map}
use Rattle.run_chart.specs.Sheets.{chart_host_shape}
use Rattle.run_sheet.specs.ChartColumns.{chart_column}
use Rattle.run_sheet.specs.RunSources.{hosts_below, run_source_shape}
use Rattle.run_sheet.proofs.columns.chart_columns.Given as goal

-- the hosts so far
abbrev pub invariant-loop-number : goal.invariant-loop-number
invariant-loop-number l =
    map chart_host_shape l.hosts.items ≡ map (chart_column (run_source_shape l.source) l.bad) (hosts_below l.number)
