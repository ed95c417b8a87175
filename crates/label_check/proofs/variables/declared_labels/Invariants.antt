use Rattle.std.proofs.Common.{◌≡◌, map, take}
use Rattle.jif_tree.specs.Trees.{var_tree}
use Rattle.label_check.proofs.variables.declared_labels.Given as goal

-- the labels of the variables so far
abbrev pub invariant-loop-var : goal.invariant-loop-var
invariant-loop-var l =
    l.labels.items ≡ map (λ variable. variable.label) (map var_tree (take l.var-index l.program.vars.items))
