use Rattle.std.proofs.Common.{◌≡◌, map, take}
use Rattle.std.specs.Prelude.{◌==◌, string_bytes}
use Rattle.std.specs.Int.{bit_at}
use Rattle.label_lattice.specs.Printed.{each_where}
use Rattle.label_lattice.proofs.printed.names_of.Given as goal

-- the names of those before the place
abbrev pub invariant-loop-place : goal.invariant-loop-place
invariant-loop-place l =
    map string_bytes l.names.items
    ≡ each_where (λ principal. bit_at l.word principal == 1) (λ principal name. name) 0
    (take l.place l.principals.names)
