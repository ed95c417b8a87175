use Rattle.std.proofs.Common.{◌≡◌, ◌∙◌, ap, arith, length}
use Rattle.std.specs.String.{string_bytes}
use Rattle.plan_picture.specs.Legend.{legend_of}
use Rattle.plan_picture.specs.Picture.{grid_of}
use Rattle.plan_picture.specs.Sheets.{sheet_shape}
use Rattle.plan_picture.proofs.Pictures.{grid_is, plan_written}
use Rattle.plan_picture.proofs.picture.push_plan.Goals as goal

pub returns : goal.returns
returns c =
    let sheet = sheet_shape c.args.sheet.now in
    let count : c.len.result ≡ length c.in_ok-signs.signs.items = omega arith in
    let grid = grid_is sheet c.in_ok-numbers.numbers c.in_ok-columns.columns c.in_ok-places.places _ _ c.len.result _ _
    _
    c.width_of-width.result c.top_of-top.result _ (c.as_slice-2.ensures.value ∙ c.in_ok-rows.ensures)
    (c.as_slice-4.ensures.value ∙ c.in_ok-rows.ensures) c.in_ok-numbers.ensures
    (c.as_slice-3.ensures.value ∙ c.in_ok-lines.ensures)
    c.in_ok-widths.ensures.widths c.margin.ensures.value c.in_ok-columns.ensures c.width_of-width.ensures.value
    (count ∙ ap length c.in_ok-signs.ensures.found) c.top_of-top.ensures.value
    (c.as_slice-5.ensures.value ∙ c.in_ok-spans.ensures)
    c.in_ok-places.ensures in
    plan_written sheet _ (grid_of sheet) _ (legend_of sheet) (string_bytes c.args.text.now) _ grid
    (c.as_slice-7.ensures.value ∙ c.in_ok-signs.ensures.found) c.in_ok-push_picture.ensures
