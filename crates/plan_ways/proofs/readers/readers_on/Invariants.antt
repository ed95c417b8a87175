use Rattle.std.proofs.Common.{◌≡◌, None, drop, length, replicate}
use Rattle.plan_ways.specs.Readers.{with_part}
use Rattle.plan_ways.proofs.readers.readers_on.Given as goal

-- what is noted, and then what the instructions that are left give, is the whole
abbrev pub invariant-loop-instruction : goal.invariant-loop-instruction
invariant-loop-instruction l =
    with_part l.table.items (drop l.instruction-index l.part)
    ≡ with_part (replicate (length l.code.variables) None) l.part
