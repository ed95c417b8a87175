use Rattle.std.specs.String.{string_bytes}
use Rattle.plan_picture.specs.Sheets.{sheet_shape}
use Rattle.plan_picture.proofs.Pictures.{boxes_written}
use Rattle.plan_picture.proofs.picture.push_all_boxes.Goals as goal

pub returns : goal.returns
returns c =
    boxes_written (sheet_shape c.args.sheet.now) c.args.grid.now c.args.rows.now (string_bytes c.args.text.now) _ _ _
    c.requires c.in_ok-push_heads.ensures c.in_ok-push_boxes.ensures c.in_ok-push_str.ensures.bytes
