use Rattle.std.proofs.Common.{◌≡◌, drop, map}
use Rattle.run_chart.specs.Chart.{most_fields}
use Rattle.run_chart.specs.Sheets.{chart_host_shape}
use Rattle.run_chart.proofs.chart.most_fields.Given as goal

abbrev pub invariant-loop-host : goal.invariant-loop-host
invariant-loop-host l =
    most_fields l.most (map chart_host_shape (drop l.host-index l.hosts)) ≡ most_fields 1 (map chart_host_shape l.hosts)
