use Rattle.std.proofs.Common.{◌≡◌, ◌++◌, drop, map}
use Rattle.run_chart.specs.Rows.{past_of, places_from}
use Rattle.run_chart.specs.Sheets.{chart_row_shape}
use Rattle.run_chart.proofs.rows.places_of.Given as goal

-- the places so far, and those of the rows that are left, are all of them
abbrev pub invariant-loop-row : goal.invariant-loop-row
invariant-loop-row l =
    record {
      places : l.places.items ++ places_from l.past (map chart_row_shape (drop l.row-index l.rows))
          ≡ places_from l.from (map chart_row_shape l.rows);
      past : past_of l.past (map chart_row_shape (drop l.row-index l.rows))
          ≡ past_of l.from (map chart_row_shape l.rows);
    }
