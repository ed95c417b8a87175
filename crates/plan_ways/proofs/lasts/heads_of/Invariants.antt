use Rattle.std.proofs.Common.{◌≡◌, map, take}
use Rattle.jif_tree.specs.declared.program.Method.{Method}
use Rattle.plan_ways.proofs.lasts.heads_of.Given as goal

-- the heads so far
abbrev pub invariant-loop-method : goal.invariant-loop-method
invariant-loop-method l = l.heads.items ≡ map (λ (method : Method). method.head) (take l.method-index l.method-items)
