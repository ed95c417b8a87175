use Rattle.std.proofs.Common.{◌≡◌, ◌<◌, ◌^◌, drop}
use Rattle.run_chart.specs.Columns.{end_of}
use Rattle.run_chart.proofs.columns.end_of.Given as goal

abbrev pub invariant-loop-stand : goal.invariant-loop-stand
invariant-loop-stand l =
    record {
      found : end_of l.end (drop l.stand-index l.stands) ≡ end_of l.least l.stands;
      small : l.end < 2 ^ 34;
    }
