use Rattle.std.proofs.Common.{◌≡◌, ◌≤◌, drop, map}
use Rattle.run_chart.specs.Chart.{how_many}
use Rattle.run_chart.specs.Sheets.{chart_host_shape}
use Rattle.run_chart.proofs.chart.how_many.Given as goal

abbrev pub invariant-loop-host : goal.invariant-loop-host
invariant-loop-host l =
    record {
      found : how_many l.found (map chart_host_shape (drop l.host-index l.hosts))
          ≡ how_many 0 (map chart_host_shape l.hosts);
      small : l.found ≤ l.host-index;
    }
