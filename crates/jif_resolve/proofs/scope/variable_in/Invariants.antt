use Rattle.std.proofs.Common.{◌≡◌, map, reverse, take}
use Rattle.jif_resolve.specs.KnownNames.{known_shape}
use Rattle.jif_resolve.specs.Places.{known_variable}
use Rattle.jif_resolve.proofs.scope.variable_in.Given as goal

-- the last of the name so far
abbrev pub invariant-loop-known : goal.invariant-loop-known
invariant-loop-known l = l.found ≡ known_variable (reverse (map known_shape (take l.known-index l.visible))) l.name
