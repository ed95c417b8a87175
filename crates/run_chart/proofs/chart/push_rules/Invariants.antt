use Rattle.std.proofs.Common.{◌≡◌, ◌++◌, drop}
use Rattle.std.specs.String.{string_bytes}
use Rattle.run_chart.specs.Chart.{rules_text}
use Rattle.run_chart.proofs.chart.push_rules.Given as goal

-- what was written, and the rules that are left, are all of them
abbrev pub invariant-loop-number : goal.invariant-loop-number
invariant-loop-number l =
    string_bytes l.text ++ rules_text l.right l.number (drop l.number l.places)
    ≡ string_bytes l.initial.text ++ rules_text l.right 0 l.places
