use Rattle.std.proofs.Common.{◌+◌}
use Rattle.std.specs.Prelude.{codes}
use Rattle.std.specs.String.{string_bytes}
use Rattle.run_chart.specs.Events.{halt_bars}
use Rattle.run_chart.specs.Texts.{whole_text}
use Rattle.run_chart.proofs.Walks.{three_pieces}
use Rattle.run_chart.proofs.events.push_halt.Goals as goal

pub returns : goal.returns
returns c =
    three_pieces (string_bytes c.args.text.now) (codes "<g class='halt'><title>") (whole_text c.args.name.now)
    (halt_bars c.args.x (c.args.y + 7) (c.args.y + 12)) _ _ _ c.in_ok-push_str.ensures.bytes c.in_ok-push_whole.ensures
    c.in_ok-push_halt_bars.ensures
