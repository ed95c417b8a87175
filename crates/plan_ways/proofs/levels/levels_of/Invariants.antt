use Rattle.std.proofs.Common.{◌≡◌, [], drop}
use Rattle.plan_ways.specs.Levels.{levels_from}
use Rattle.plan_ways.proofs.levels.levels_of.Given as goal

-- what is known, and then what the entries that are left give, is the whole
abbrev pub invariant-loop-number : goal.invariant-loop-number
invariant-loop-number l =
    levels_from l.heads l.known.items l.number (drop l.number l.namings) ≡ levels_from l.heads [] 0 l.namings
