use Rattle.std.proofs.Common.{◌≡◌, ◌++◌, drop, map, true}
use Rattle.std.specs.String.{string_bytes}
use Rattle.run_chart.specs.Chart.{names_text}
use Rattle.run_chart.specs.Sheets.{chart_host_shape}
use Rattle.run_chart.proofs.chart.push_names.Given as goal

-- what was written, and the names that are left, are all of them
abbrev pub invariant-loop-host : goal.invariant-loop-host
invariant-loop-host l =
    string_bytes l.text ++ names_text l.first (map chart_host_shape (drop l.host-index l.hosts))
    ≡ string_bytes l.initial.text ++ names_text true (map chart_host_shape l.hosts)
