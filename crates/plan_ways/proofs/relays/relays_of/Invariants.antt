use Rattle.std.proofs.Common.{◌≡◌, ◌++◌, ◌-◌}
use Rattle.plan_ways.specs.Relays.{relays_below, row_shape}
use Rattle.plan_ways.proofs.relays.relays_of.Given as goal

-- the relays so far, and those of the entries that are left, are the whole
abbrev pub invariant-loop-passed : goal.invariant-loop-passed
invariant-loop-passed l =
    l.found.items ++ relays_below (row_shape l.sheet) (l.count - l.passed) l.spots
    ≡ relays_below (row_shape l.sheet) l.count l.initial.spots
