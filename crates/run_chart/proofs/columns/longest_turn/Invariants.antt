use Rattle.std.proofs.Common.{◌≡◌, ◌≤◌, drop, map}
use Rattle.run_chart.specs.Columns.{longest_turn}
use Rattle.run_chart.specs.Sheets.{chart_row_shape}
use Rattle.run_chart.proofs.columns.longest_turn.Given as goal

abbrev pub invariant-loop-row : goal.invariant-loop-row
invariant-loop-row l =
    record {
      found : longest_turn l.number l.most (map chart_row_shape (drop l.row-index l.rows))
          ≡ longest_turn l.number 0 (map chart_row_shape l.rows);
      small : l.most ≤ 28;
    }
