use Rattle.std.proofs.Common.{◌≡◌, map, take}
use Rattle.std.specs.List.{flat_map}
use Rattle.jif_resolve.specs.GlobalNames.{global_shape}
use Rattle.jif_resolve.specs.Faults.{global_faults}
use Rattle.jif_resolve.specs.First.{with_faults}
use Rattle.jif_resolve.proofs.globals.with_names.Given as goal

-- the names so far
abbrev pub invariant-loop-declared : goal.invariant-loop-declared
invariant-loop-declared l =
    l.sooner_one
    ≡ with_faults l.fn.first
    (flat_map (λ global. global_faults l.globals global.name) (map global_shape (take l.declared-index l.names)))
