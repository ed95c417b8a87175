use Rattle.std.proofs.Common.{◌≡◌, ◌∙◌, ap, arith, length}
use Rattle.std.specs.String.{string_bytes}
use Rattle.std.proofs.lemmas.List.{length-map}
use Rattle.run_chart.specs.Chart.{frame_of}
use Rattle.run_chart.specs.Legend.{legend_of}
use Rattle.run_chart.specs.Sheets.{chart_flight_shape, chart_sheet_shape}
use Rattle.run_chart.proofs.Charts.{chart_written, frame_is, grid_is}
use Rattle.run_chart.proofs.chart.push_chart.Goals as goal

pub returns : goal.returns
returns c =
    let sheet = chart_sheet_shape c.args.sheet.now in
    let flights = c.args.sheet.now.flights.items in
    let count : c.len.result ≡ length c.in_ok-signs.signs.items = omega arith in
    let signs = c.in_ok-signs.ensures.found in
    let past = rw c.deref.ensures.value at c.in_ok-places.ensures.past in
    let places = rw c.deref.ensures.value at c.in_ok-places.ensures.places in
    let many : length flights ≡ length sheet.flights = omega (arith, length-map flights chart_flight_shape) in
    let frame = frame_is sheet c.in_ok-width.width c.top_of-top.result _ c.len.result (length flights)
    c.in_ok-frame.frame c.in_ok-width.ensures (count ∙ ap length signs) c.top_of-top.ensures.value past many
    c.in_ok-frame.ensures.value in
    let grid = grid_is sheet _ _ _ _ c.in_ok-width.width c.top_of-top.result _ _ c.in_ok-frame.frame
    (c.as_slice.ensures.value ∙ c.in_ok-columns.ensures.columns) (c.as_slice-2.ensures.value ∙ places)
    c.in_ok-columns.ensures.lines c.in_ok-columns.ensures.notes c.in_ok-frame.ensures.value frame in
    chart_written sheet _ _ _ (frame_of sheet) _ (legend_of sheet) (string_bytes c.args.text.now) _ grid frame
    (c.as_slice-3.ensures.value ∙ signs) c.in_ok-push_on.ensures
