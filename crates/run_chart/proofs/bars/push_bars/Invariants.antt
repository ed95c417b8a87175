use Rattle.std.proofs.Common.{◌≡◌, ◌++◌, drop}
use Rattle.std.specs.String.{string_bytes}
use Rattle.run_chart.specs.Bars.{bars_text}
use Rattle.run_chart.proofs.bars.push_bars.Given as goal

abbrev pub invariant-loop-bar : goal.invariant-loop-bar
invariant-loop-bar l =
    string_bytes l.text ++ bars_text l.x (drop l.bar-index l.bars) ≡ string_bytes l.initial.text ++ bars_text l.x l.bars
