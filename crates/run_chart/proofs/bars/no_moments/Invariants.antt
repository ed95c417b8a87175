use Rattle.std.proofs.Common.{◌≡◌, [], replicate}
use Rattle.run_chart.proofs.bars.no_moments.Given as goal

abbrev pub invariant-loop-number : goal.invariant-loop-number
invariant-loop-number l =
    l.found.items ≡ replicate l._number []
