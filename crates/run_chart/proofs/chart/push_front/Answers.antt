use Rattle.std.specs.String.{string_bytes}
use Rattle.run_chart.specs.Chart.{first_text, front_text, ground_text, head_line, style_text}
use Rattle.run_chart.specs.Legend.{cells_text}
use Rattle.run_chart.specs.Sheets.{chart_sheet_shape}
use Rattle.run_chart.proofs.Walks.{five_pieces}
use Rattle.run_chart.proofs.chart.push_front.Goals as goal

pub returns : goal.returns
unfolding front_text
returns c =
    let frame = c.args.frame.now in
    five_pieces (string_bytes c.args.text.now) (first_text frame.width frame.height) style_text
    (ground_text frame.width frame.height) (head_line (chart_sheet_shape c.args.sheet.now))
    (cells_text frame.width 0 c.args.signs.now) _ _ _ _ _ c.in_ok-push_first.ensures c.in_ok-push_style.ensures
    c.in_ok-push_ground.ensures c.in_ok-push_head_line.ensures c.in_ok-push_legend.ensures
