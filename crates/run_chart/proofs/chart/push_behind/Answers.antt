use Rattle.std.proofs.Common.{◌+◌, ◌-◌}
use Rattle.std.specs.String.{string_bytes}
use Rattle.run_chart.specs.Bars.{all_bars, moments_from}
use Rattle.run_chart.specs.Chart.{behind_text, rules_text, start_text}
use Rattle.run_chart.specs.Grids.{grid_shape}
use Rattle.run_chart.specs.Heads.{lives_text}
use Rattle.run_chart.specs.Sheets.{chart_sheet_shape}
use Rattle.run_chart.proofs.Walks.{four_pieces}
use Rattle.run_chart.proofs.chart.push_behind.Goals as goal

pub returns : goal.returns
unfolding behind_text
returns c =
    let sheet = chart_sheet_shape c.args.sheet.now in
    let grid = grid_shape c.args.grid.now in
    let frame = c.args.frame.now in
    four_pieces (string_bytes c.args.text.now) (lives_text (frame.top + 44) frame.foot grid.columns 0 sheet.hosts)
    (rules_text (frame.width - 20) 0 grid.places)
    (all_bars (frame.top + 52) frame.end grid.columns (moments_from grid.places 0 sheet.rows) 0 sheet.hosts)
    (start_text sheet grid (frame.top + 62)) _ _ _ _ (rw c.deref.ensures.value at c.in_ok-push_lives.ensures)
    (rw c.saturating_sub.ensures at c.in_ok-push_rules.ensures)
    (rw (c.deref-2.ensures.value, c.deref-3.ensures.value) at c.in_ok-push_all_bars.ensures)
    c.in_ok-push_start.ensures
