-- The whole chart, where all things are.
use Rattle.std.proofs.Common.{◌≡◌, ℕ, ◌+◌, List, ◌++◌, ap, sym, ◌∙◌, length}
use Rattle.run_chart.specs.Chart.{chart_on, frame_from, frame_of, grid_of, most_fields, top_of, width_of}
use Rattle.run_chart.specs.Columns.{columns_of, lines_of, notes_of}
use Rattle.run_chart.specs.Events.{ChartGridShape}
use Rattle.run_chart.specs.Legend.{legend_of}
use Rattle.run_chart.specs.Rows.{past_of, places_from}
use Rattle.run_chart.specs.Sheets.{ChartSheetShape}
use Rattle.run_chart.specs.declared.chart.ChartFrame.{ChartFrame}
use Rattle.run_chart.specs.declared.columns.ChartColumn.{ChartColumn}
use Rattle.run_chart.specs.declared.legend.ChartSign.{ChartSign}
use Rattle.run_chart.specs.declared.rows.ChartPlace.{ChartPlace}

pub chart_written : (sheet : ChartSheetShape) (grid other : ChartGridShape) (frame own : ChartFrame)
    (signs legend : List ChartSign) (start text : List ℕ) → grid ≡ other → frame ≡ own → signs ≡ legend →
    text ≡ start ++ chart_on sheet grid frame signs → text ≡ start ++ chart_on sheet other own legend
chart_written sheet grid other frame own signs legend start text grids frames signs_are is =
    is ∙ ap (λ (g : ChartGridShape). start ++ chart_on sheet g frame signs) grids
    ∙ ap (λ (f : ChartFrame). start ++ chart_on sheet other f signs) frames
    ∙ ap (λ (s : List ChartSign). start ++ chart_on sheet other own s) signs_are

pub frame_is : (sheet : ChartSheetShape) (width top past signs flights : ℕ) (frame : ChartFrame) →
    width ≡ width_of sheet → signs ≡ length (legend_of sheet) → top ≡ top_of width signs →
    past ≡ past_of (top + 70) sheet.rows → flights ≡ length sheet.flights →
    frame ≡ frame_from width top past flights (most_fields 1 sheet.hosts) → frame ≡ frame_of sheet
frame_is sheet width top past signs flights frame width_is signs_are top_is past_is flights_are is =
    let most = most_fields 1 sheet.hosts in
    let own_top : top ≡ top_of (width_of sheet) (length (legend_of sheet)) =
    top_is ∙ ap (λ (w : ℕ). top_of w signs) width_is ∙ ap (λ (s : ℕ). top_of (width_of sheet) s) signs_are in
    let own_past : past ≡ past_of (top_of (width_of sheet) (length (legend_of sheet)) + 70) sheet.rows =
    past_is ∙ ap (λ (t : ℕ). past_of (t + 70) sheet.rows) own_top in
    is
    ∙ ap (λ (w : ℕ). frame_from w top past flights most) width_is
    ∙ ap (λ (t : ℕ). frame_from (width_of sheet) t past flights most) own_top
    ∙ ap (λ (p : ℕ). frame_from (width_of sheet) (top_of (width_of sheet) (length (legend_of sheet))) p flights most)
    own_past
    ∙ ap (λ (f : ℕ).
    frame_from (width_of sheet) (top_of (width_of sheet) (length (legend_of sheet)))
    (past_of (top_of (width_of sheet) (length (legend_of sheet)) + 70) sheet.rows) f most)
    flights_are

abbrev pub the_grid : List ChartColumn → List ChartPlace → (lines notes : ℕ) → ChartGridShape
the_grid columns places lines notes = record {
  columns = columns;
  places = places;
  lines = lines;
  notes = notes;
}

pub grid_is : (sheet : ChartSheetShape) (columns : List ChartColumn) (places : List ChartPlace)
    (lines notes width top past flights : ℕ) (frame : ChartFrame) → columns ≡ columns_of sheet →
    places ≡ places_from (top + 70) sheet.rows → lines ≡ lines_of sheet → notes ≡ notes_of sheet →
    frame ≡ frame_from width top past flights (most_fields 1 sheet.hosts) → frame ≡ frame_of sheet →
    the_grid columns places lines notes ≡ grid_of sheet (frame_of sheet).top
grid_is sheet columns places lines notes width top past flights frame columns_are places_are lines_are notes_are made
    is =
    let own_top : top ≡ (frame_of sheet).top =
    sym (ap (λ (f : ChartFrame). f.top) made) ∙ ap (λ (f : ChartFrame). f.top) is in
    let own_places : places ≡ places_from ((frame_of sheet).top + 70) sheet.rows =
    places_are ∙ ap (λ (t : ℕ). places_from (t + 70) sheet.rows) own_top in
    ap (λ (c : List ChartColumn). the_grid c places lines notes) columns_are
    ∙ ap (λ (p : List ChartPlace). the_grid (columns_of sheet) p lines notes) own_places
    ∙ ap (λ (l : ℕ). the_grid (columns_of sheet) (places_from ((frame_of sheet).top + 70) sheet.rows) l notes)
    lines_are
    ∙ ap (λ (n : ℕ).
    the_grid (columns_of sheet) (places_from ((frame_of sheet).top + 70) sheet.rows) (lines_of sheet) n)
    notes_are
