use Rattle.std.proofs.Common.{ap}
use Rattle.std.specs.String.{string_bytes}
use Rattle.plan_picture.specs.Paths.{Grid}
use Rattle.plan_picture.specs.Sheets.{sheet_shape}
use Rattle.plan_picture.proofs.Pictures.{picture_written}
use Rattle.plan_picture.proofs.picture.push_picture.Goals as goal

pub returns : goal.returns
returns c =
    picture_written (sheet_shape c.args.sheet.now) c.args.grid.now c.grid.inside.columns c.args.signs.now
    c.width_of-width.result c.top_of-top.result (string_bytes c.args.text.now) _
    (ap (λ (g : Grid). g.columns) c.grid.view_is) c.width_of-width.ensures.value c.top_of-top.ensures.value
    c.in_ok-push_parts.ensures
