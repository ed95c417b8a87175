use Rattle.std.specs.Prelude.{[], codes}
use Rattle.std.specs.String.{string_bytes}
use Rattle.run_chart.specs.Arrows.{act_text, arrow_title, class_text, message_text, straight_text, tip_where}
use Rattle.run_chart.proofs.Walks.{six_pieces}
use Rattle.run_chart.proofs.arrows.push_act.Goals as goal

pub returns : goal.returns
unfolding act_text
returns c =
    let arrow = c.args.arrow.now in
    let message = c.args.message.now in
    six_pieces (string_bytes c.args.text.now) (class_text (codes "act"))
    (arrow_title [] c.args.from.now c.args.to.now message) (straight_text c.args.x arrow.line arrow.end)
    (tip_where arrow.tipped arrow.right arrow.tip arrow.line) (message_text (codes "s") message arrow) (codes "</g>")
    _ _ _ _ _ _ c.in_ok-push_class.ensures c.in_ok-push_title.ensures c.in_ok-push_straight.ensures
    c.in_ok-push_tip_where.ensures c.in_ok-push_message.ensures c.in_ok-push_str.ensures.bytes
