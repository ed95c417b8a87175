use Rattle.std.proofs.Common.{◌+◌}
use Rattle.std.specs.Prelude.{codes}
use Rattle.std.specs.String.{string_bytes}
use Rattle.run_chart.specs.Chart.{foot_part}
use Rattle.run_chart.specs.Foot.{flights_text, foot_text}
use Rattle.run_chart.specs.Grids.{grid_shape}
use Rattle.run_chart.specs.Heads.{heads_text}
use Rattle.run_chart.specs.Sheets.{chart_sheet_shape}
use Rattle.run_chart.proofs.Walks.{four_pieces}
use Rattle.run_chart.proofs.chart.push_foot_part.Goals as goal

pub returns : goal.returns
unfolding foot_part
returns c =
    let sheet = chart_sheet_shape c.args.sheet.now in
    let grid = grid_shape c.args.grid.now in
    let frame = c.args.frame.now in
    four_pieces (string_bytes c.args.text.now) (flights_text sheet grid (frame.past + 20) 0 sheet.flights)
    (heads_text frame.top grid.columns 0 sheet.hosts) (foot_text frame.foot grid.columns 0 sheet.hosts)
    (codes "</svg>\n") _ _ _ _ (rw c.deref.ensures.value at c.in_ok-push_flights.ensures)
    (rw c.deref-2.ensures.value at c.in_ok-push_heads.ensures) (rw c.deref-3.ensures.value at c.in_ok-push_foot.ensures)
    c.in_ok-push_str.ensures.bytes
