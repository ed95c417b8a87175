use Rattle.std.specs.Prelude.{codes}
use Rattle.std.specs.String.{string_bytes}
use Rattle.run_chart.specs.declared.style.TheConstants.{CHART_STYLE}
use Rattle.run_chart.proofs.Walks.{two_pieces}
use Rattle.run_chart.proofs.chart.push_style.Goals as goal

pub returns : goal.returns
returns c =
    two_pieces (string_bytes c.args.text.now) (codes "<title>A run of the hosts</title>\n") CHART_STYLE.now _ _
    c.in_ok-push_str.ensures.bytes c.in_ok-push_str-2.ensures.bytes
