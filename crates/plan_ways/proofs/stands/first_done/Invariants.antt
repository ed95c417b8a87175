use Rattle.std.proofs.Common.{◌≡◌, drop}
use Rattle.plan_ways.specs.Stands.{first_of}
use Rattle.plan_ways.proofs.stands.first_done.Given as goal

-- what is looked for is behind the instructions so far
abbrev pub invariant-loop-instruction : goal.invariant-loop-instruction
invariant-loop-instruction l = first_of (drop l.instruction-index l.rest) ≡ first_of l.rest
