use Rattle.std.specs.Prelude.{codes}
use Rattle.std.specs.String.{string_bytes}
use Rattle.run_chart.specs.Arrows.{arrow_text, arrow_title, bent_text, class_text, message_text}
use Rattle.run_chart.proofs.Walks.{five_pieces}
use Rattle.run_chart.proofs.arrows.push_arrow.Goals as goal

pub returns : goal.returns
unfolding arrow_text
returns c =
    let arrow = c.args.arrow.now in
    let message = c.args.message.now in
    five_pieces (string_bytes c.args.text.now) (class_text c.args.class.now)
    (arrow_title c.args.before.now c.args.from.now c.args.to.now message) (bent_text arrow)
    (message_text (codes "s m") message arrow) (codes "</g>") _ _ _ _ _ c.in_ok-push_class.ensures
    c.in_ok-push_title.ensures c.in_ok-push_bent.ensures c.in_ok-push_message.ensures c.in_ok-push_str.ensures.bytes
