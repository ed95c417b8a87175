use Rattle.std.specs.Prelude.{codes}
use Rattle.std.specs.String.{string_bytes}
use Rattle.run_chart.specs.Heads.{label_where, misbehaves_text, name_room, name_text}
use Rattle.run_chart.proofs.Walks.{four_pieces}
use Rattle.run_chart.proofs.heads.push_head_inside.Goals as goal

pub returns : goal.returns
returns c =
    let host = c.args.host.now in
    let column = c.args.column.now in
    four_pieces (string_bytes c.args.text.now)
    (name_text (string_bytes host.name) (name_room host.misbehaves column.width))
    (misbehaves_text host.misbehaves column.width) (label_where column.wide (string_bytes host.label) column.width)
    (codes "</svg>\n") _ _ _ _
    (rw (c.name_room-room.ensures, c.as_str.ensures.value) at c.in_ok-push_name.ensures)
    c.in_ok-push_misbehaves_where.ensures (rw c.as_str-2.ensures.value at c.in_ok-push_label_where.ensures)
    c.in_ok-push_str.ensures.bytes
