use Rattle.std.proofs.Common.{ℕ, ◌+◌, ◌*◌, refl}
use Rattle.run_chart.specs.Foot.{flight_text, flights_text}
use Rattle.run_chart.specs.Grids.{grid_shape}
use Rattle.run_chart.specs.Sheets.{ChartFlightShape, chart_flight_shape, chart_sheet_shape}
use Rattle.run_chart.proofs.Walks.{shape_written}
use Rattle.run_chart.proofs.foot.push_flights.Goals as goal

pub loop-number-preserved : goal.loop-number-preserved
loop-number-preserved c =
    let sheet = chart_sheet_shape c.args.sheet.now in
    let grid = grid_shape c.args.grid.now in
    shape_written chart_flight_shape (flights_text sheet grid c.args.line)
    (λ (n : ℕ) (flight : ChartFlightShape). flight_text sheet grid (c.args.line + 22 * n) flight)
    (λ n y ys. refl) c.args.flights.now c.loop-number.number _ c.index-flights-number.result _ _ _
    c.loop-number-test.true c.index-flights-number.is c.loop-number.invariant c.in_ok-push_flight.ensures
