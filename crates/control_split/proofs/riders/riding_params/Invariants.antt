use Rattle.std.proofs.Common.{◌≡◌, ◌++◌, drop, map}
use Rattle.jif_tree.specs.Trees.{expr_tree}
use Rattle.split_rules.specs.Walk.{riding_params}
use Rattle.control_split.specs.Views.{planned_in}
use Rattle.control_split.proofs.riders.riding_params.Given as goal

-- those so far, and then what the parameters that are left give, make the whole
abbrev pub invariant-loop-place : goal.invariant-loop-place
invariant-loop-place l =
    l.riders.items
    ++ riding_params (planned_in l.split) l.host l.home (drop l.place l.params) (map expr_tree (drop l.place l.args))
    ≡ riding_params (planned_in l.fn.split) l.fn.host l.fn.home l.fn.params (map expr_tree l.fn.args)
