use Rattle.std.proofs.Common.{◌≡◌, map, take}
use Rattle.host_code.specs.declared.instruction.Op.TheVariants as op
use Rattle.split_rules.specs.Walk.{emitted}
use Rattle.control_split.specs.Trace.{traced}
use Rattle.control_split.proofs.values.pass.Given as goal

-- the hosts so far have their instruction
abbrev pub invariant-loop-other : goal.invariant-loop-other
invariant-loop-other l =
    l.trace ≡ traced l.fn.trace
    (map (λ other. emitted l.place.host l.place.label.now l.place.statement (op.Pass l.x other))
    (take l.other-index l.other-items))
