use Rattle.std.proofs.Common.{◌≡◌, map, take, unwrap_or}
use Rattle.label_lattice.specs.Lattice.{empty_label}
use Rattle.label_check.proofs.variables.given_labels.Given as goal

-- the labels so far
abbrev pub invariant-loop-label : goal.invariant-loop-label
invariant-loop-label l =
    l.given.items ≡ map (λ label. unwrap_or label empty_label) (take l.label-index l.labels)
