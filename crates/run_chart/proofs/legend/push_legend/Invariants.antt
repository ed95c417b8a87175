use Rattle.std.proofs.Common.{◌≡◌, ◌++◌, drop}
use Rattle.std.specs.String.{string_bytes}
use Rattle.run_chart.specs.Legend.{cells_text}
use Rattle.run_chart.proofs.legend.push_legend.Given as goal

-- what was written, and the cells that are left, are all of them
abbrev pub invariant-loop-number : goal.invariant-loop-number
invariant-loop-number l =
    string_bytes l.text ++ cells_text l.width l.number (drop l.number l.signs)
    ≡ string_bytes l.initial.text ++ cells_text l.width 0 l.signs
