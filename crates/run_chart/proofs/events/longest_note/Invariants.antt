use Rattle.std.proofs.Common.{◌≡◌, drop, map}
use Rattle.run_chart.specs.Events.{longest_note}
use Rattle.run_chart.specs.Sheets.{chart_row_shape}
use Rattle.run_chart.proofs.events.longest_note.Given as goal

abbrev pub invariant-loop-row : goal.invariant-loop-row
invariant-loop-row l =
    longest_note l.most (map chart_row_shape (drop l.row-index l.rows)) ≡ longest_note 0 (map chart_row_shape l.rows)
