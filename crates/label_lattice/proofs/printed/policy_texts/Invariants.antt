use Rattle.std.proofs.Common.{◌≡◌, map, take}
use Rattle.std.specs.Prelude.{string_bytes}
use Rattle.label_lattice.specs.Printed.{each_where, forbids_some, printed_part, printed_policy}
use Rattle.label_lattice.proofs.printed.policy_texts.Given as goal

-- the policies of the owners before the place
abbrev pub invariant-loop-place : goal.invariant-loop-place
invariant-loop-place l =
    map string_bytes l.texts.items
    ≡ map printed_part (each_where (forbids_some l.label) (printed_policy l.principals l.label) 0
    (take l.place l.principals.names))
