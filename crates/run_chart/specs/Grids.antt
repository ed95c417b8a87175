-- Where all things are, in the program.
use Rattle.run_chart.specs.Events.{ChartGridShape}
use Rattle.run_chart.specs.declared.events.ChartGrid.{ChartGrid}

abbrev pub grid_shape : ChartGrid → ChartGridShape
grid_shape grid = record {
  columns = grid.columns.now;
  places = grid.places.now;
  lines = grid.lines;
  notes = grid.notes;
}
