use Rattle.std.proofs.Common.{◌≡◌, arith, length, true}
use Rattle.std.specs.String.{string_bytes}
use Rattle.std.proofs.lemmas.List.{length-map}
use Rattle.run_chart.specs.Chart.{events_text, head_line, how_many, names_text, told_title, verb_text}
use Rattle.run_chart.specs.Sheets.{chart_row_shape, chart_sheet_shape}
use Rattle.run_chart.proofs.Walks.{four_pieces}
use Rattle.run_chart.proofs.chart.push_head_line.Goals as goal

pub returns : goal.returns
unfolding head_line
returns c =
    let sheet = chart_sheet_shape c.args.sheet.now in
    let count : c.len.result ≡ length c.args.sheet.now.rows.items = omega arith in
    let many : c.len.result ≡ length sheet.rows =
    omega (arith, count, length-map c.args.sheet.now.rows.items chart_row_shape) in
    four_pieces (string_bytes c.args.text.now) told_title (names_text true sheet.hosts)
    (verb_text (how_many 0 sheet.hosts)) (events_text (length sheet.rows) sheet.halted) _ _ _ _
    c.in_ok-push_told_title.ensures (rw c.deref.ensures.value at c.in_ok-push_names.ensures)
    (rw (c.verb_text.ensures, c.how_many.ensures, c.deref-2.ensures.value) at c.in_ok-push_str.ensures.bytes)
    (rw many at c.in_ok-push_events.ensures)
