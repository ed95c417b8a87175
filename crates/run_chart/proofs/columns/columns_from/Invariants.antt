use Rattle.std.proofs.Common.{◌≡◌, ◌++◌, drop}
use Rattle.run_chart.specs.Columns.{columns_from}
use Rattle.run_chart.proofs.columns.columns_from.Given as goal

-- the columns so far, and those that are left, are all of them
abbrev pub invariant-loop-number : goal.invariant-loop-number
invariant-loop-number l =
    l.found.items ++ columns_from l.all l.number (drop l.number l.all) ≡ columns_from l.all 0 l.all
