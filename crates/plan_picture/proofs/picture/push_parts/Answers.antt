use Rattle.std.proofs.Common.{◌∙◌, ap, length}
use Rattle.std.specs.String.{string_bytes}
use Rattle.plan_picture.specs.Paths.{Grid}
use Rattle.plan_picture.specs.Sheets.{sheet_shape}
use Rattle.plan_picture.proofs.Pictures.{parts_written}
use Rattle.plan_picture.proofs.picture.push_parts.Goals as goal

pub returns : goal.returns
returns c =
    parts_written (sheet_shape c.args.sheet.now) c.args.grid.now _ c.past-past.result _ c.args.signs.now c.args.width
    c.args.top (string_bytes c.args.text.now) _ _ _ _ (ap (λ (g : Grid). g.columns) c.grid.view_is)
    (c.past-past.ensures.value ∙ ap (λ (g : Grid). g.places.past) c.grid.view_is)
    (ap length c.hosts-count.ensures.hosts)
    c.in_ok-push_front.ensures c.in_ok-push_lanes.ensures c.in_ok-push_middle.ensures
    c.in_ok-push_all_boxes.ensures
