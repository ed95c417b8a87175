use Rattle.std.proofs.Common.{◌≡◌, ◌++◌, drop, map}
use Rattle.std.specs.String.{string_bytes}
use Rattle.run_chart.specs.Heads.{heads_text}
use Rattle.run_chart.specs.Sheets.{chart_host_shape}
use Rattle.run_chart.proofs.heads.push_heads.Given as goal

-- what was written, and what is left of the hosts, are all of it
abbrev pub invariant-loop-number : goal.invariant-loop-number
invariant-loop-number l =
    string_bytes l.text ++ heads_text l.y l.columns l.number (map chart_host_shape (drop l.number l.hosts))
    ≡ string_bytes l.initial.text ++ heads_text l.y l.columns 0 (map chart_host_shape l.hosts)
