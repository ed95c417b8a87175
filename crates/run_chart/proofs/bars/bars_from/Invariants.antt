use Rattle.std.proofs.Common.{◌≡◌, ◌++◌, drop}
use Rattle.run_chart.specs.Bars.{bars_from}
use Rattle.run_chart.proofs.bars.bars_from.Given as goal

-- the bars so far, and those that are left, are all of them
abbrev pub invariant-loop-moment : goal.invariant-loop-moment
invariant-loop-moment l =
    l.bars.items ++ bars_from l.since l.end l.threads (drop l.moment-index l.moments)
    ≡ bars_from l.from l.end l.fn.first l.moments
