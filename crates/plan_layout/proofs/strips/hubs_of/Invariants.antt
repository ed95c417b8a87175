use Rattle.std.proofs.Common.{◌≡◌, drop}
use Rattle.plan_layout.specs.Strips.{hubs_from, hubs_of}
use Rattle.plan_layout.proofs.strips.hubs_of.Given as goal

-- the hubs so far, with those of the lines that are left, are those of all
abbrev pub invariant-loop-line : goal.invariant-loop-line
invariant-loop-line l =
    hubs_from l.lane l.hubs.keys (drop l.line-index l.lines) ≡ hubs_of l.lane l.lines
