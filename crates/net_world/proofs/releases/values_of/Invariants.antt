use Rattle.std.proofs.Common.{◌≡◌, map, take}
use Rattle.host_core.specs.Host.{state_of, value_in_running}
use Rattle.net_world.proofs.releases.values_of.Given as goal

-- the values so far
abbrev pub invariant-loop-expression : goal.invariant-loop-expression
invariant-loop-expression l =
    l.values.items ≡ map (value_in_running (state_of l.there) l.there.running) (take l.expression-index l.expressions)
