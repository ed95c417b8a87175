use Rattle.std.proofs.Common.{◌≡◌, map, string_bytes, take}
use Rattle.jiffields.proofs.names.variable_names.Given as goal

-- the names so far
abbrev pub invariant-loop-variable : goal.invariant-loop-variable
invariant-loop-variable l = map string_bytes l.names.items ≡ map (λ variable. variable.name) (take l.variable-index l.variables)
