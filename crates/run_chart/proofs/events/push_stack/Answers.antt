use Rattle.std.proofs.Common.{◌+◌}
use Rattle.std.specs.Prelude.{codes}
use Rattle.std.specs.String.{string_bytes}
use Rattle.run_chart.specs.Arrows.{ahead, label_open}
use Rattle.run_chart.specs.Events.{tip_title}
use Rattle.run_chart.specs.Texts.{whole_text}
use Rattle.run_chart.proofs.Walks.{four_pieces}
use Rattle.run_chart.proofs.events.push_stack.Goals as goal

pub returns : goal.returns
returns c =
    let stack = c.args.stack.now in
    four_pieces (string_bytes c.args.text.now) (tip_title (string_bytes stack.tip))
    (label_open (codes "s push") (ahead c.args.right c.args.x 24) (c.args.y + 4) c.args.right)
    (whole_text (string_bytes stack.text)) (codes "</text></g>") _ _ _ _
    (rw c.as_str.ensures.value at c.in_ok-push_stack_tip.ensures)
    (rw c.ahead.ensures.value at c.in_ok-push_label_open.ensures)
    (rw c.as_str-2.ensures.value at c.in_ok-push_whole.ensures) c.in_ok-push_str.ensures.bytes
