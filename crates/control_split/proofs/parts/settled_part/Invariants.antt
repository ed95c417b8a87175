use Rattle.std.proofs.Common.{◌≡◌, ◌++◌, map}
use Rattle.std.specs.Vec.Iter.{into_iter_items}
use Rattle.control_split.specs.Assembly.{settled_instruction}
use Rattle.control_split.proofs.parts.settled_part.Given as goal

-- the instructions so far with those that are left
abbrev pub invariant-loop-instruction : goal.invariant-loop-instruction
invariant-loop-instruction l =
    l.settled.items ++ map (settled_instruction l.landing l.end) (into_iter_items l.instruction-iterator)
    ≡ map (settled_instruction l.landing l.end) l.fn.list.items
