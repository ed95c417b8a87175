-- The sheet of the chart of a run.
use Rattle.std.specs.Prelude.{Bool, false, Option, Some, None}
use Rattle.host_core.specs.Host.{HostState}
use Rattle.net_world.specs.World.{state_at}
use Rattle.run_chart.specs.Sheets.{ChartSheetShape}
use Rattle.run_sheet.specs.ChartColumns.{chart_columns}
use Rattle.run_sheet.specs.ChartRows.{chart_rows, first_tracks}
use Rattle.run_sheet.specs.FieldMarks.{misbehaving_in}
use Rattle.run_sheet.specs.FlightsLeft.{flights_left}
use Rattle.run_sheet.specs.RunSources.{RunSourceShape}
use Rattle.run_sheet.specs.SendLanes.{send_lanes}

abbrev pub halted_in : Option HostState → Bool
halted_in None = false
halted_in (Some host) = host.halted

abbrev pub chart_of : RunSourceShape → ChartSheetShape
chart_of source = record {
  hosts = chart_columns source (misbehaving_in source.code source.world);
  root = source.code.root;
  rows = chart_rows source (send_lanes source.rows) (first_tracks source.code) source.rows;
  flights = flights_left source (send_lanes source.rows);
  halted = halted_in (state_at source.world source.code.root);
}
