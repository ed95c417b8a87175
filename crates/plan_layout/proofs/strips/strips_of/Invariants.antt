use Rattle.std.proofs.Common.{◌≡◌, map}
use Rattle.plan_layout.specs.Strips.{strip_shape, strips_of}
use Rattle.plan_layout.proofs.strips.strips_of.Given as goal

abbrev pub invariant-loop-number : goal.invariant-loop-number
invariant-loop-number l = map strip_shape l.found.items ≡ strips_of l.lines l.number
