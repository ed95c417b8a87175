use Rattle.std.proofs.Common.{◌-◌}
use Rattle.std.specs.Prelude.{codes}
use Rattle.std.specs.String.{string_bytes}
use Rattle.drawing_text.specs.Widths.{small_room}
use Rattle.run_chart.specs.Texts.{cut_text}
use Rattle.run_chart.proofs.Walks.{three_pieces}
use Rattle.run_chart.proofs.heads.push_head_label.Goals as goal

pub returns : goal.returns
returns c =
    three_pieces (string_bytes c.args.text.now) (codes "<text class='s d' x='8' y='35'>")
    (cut_text c.args.label.now (small_room (c.args.width - 16))) (codes "</text>") _ _ _ c.in_ok-push_str.ensures.bytes
    (rw (c.small_room-room.ensures, c.saturating_sub.ensures) at c.in_ok-push_cut.ensures)
    c.in_ok-push_str-2.ensures.bytes
