use Rattle.std.specs.Prelude.{codes}
use Rattle.std.specs.String.{string_bytes}
use Rattle.run_chart.specs.Events.{cross_stroke}
use Rattle.run_chart.specs.Texts.{whole_text}
use Rattle.run_chart.proofs.Walks.{three_pieces}
use Rattle.run_chart.proofs.events.push_cross.Goals as goal

pub returns : goal.returns
returns c =
    three_pieces (string_bytes c.args.text.now) (codes "<g class='x'><title>") (whole_text c.args.why.now)
    (cross_stroke c.args.x c.args.y) _ _ _ c.in_ok-push_str.ensures.bytes c.in_ok-push_whole.ensures
    c.in_ok-push_cross_stroke.ensures
