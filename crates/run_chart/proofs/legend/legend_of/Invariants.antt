use Rattle.std.proofs.Common.{◌≡◌, ◌≤◌, ◌++◌, drop, filter, length}
use Rattle.run_chart.specs.Legend.{all_signs, legend_of, occurs}
use Rattle.run_chart.specs.Sheets.{chart_sheet_shape}
use Rattle.run_chart.proofs.legend.legend_of.Given as goal

-- what was found, and what occurs of the signs that are left
abbrev pub invariant-loop-sign : goal.invariant-loop-sign
invariant-loop-sign l =
    record {
      found : l.found.items ++ filter (occurs (chart_sheet_shape l.sheet)) (drop l.sign-index all_signs)
          ≡ legend_of (chart_sheet_shape l.sheet);
      few : length l.found.items ≤ l.sign-index;
    }
