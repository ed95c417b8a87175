use Rattle.std.proofs.Common.{◌≡◌, map, take}
use Rattle.std.specs.Prelude.{Some}
use Rattle.place_reasons.proofs.site.labels_of.Given as goal

-- the labels so far
abbrev pub invariant-loop-label : goal.invariant-loop-label
invariant-loop-label l = l.labels.items ≡ map Some (take l.label-index l.checked.var_labels.items)
