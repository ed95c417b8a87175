use Rattle.std.proofs.Common.{◌≡◌, ◌++◌, drop, map}
use Rattle.std.specs.List.{flat_map}
use Rattle.jif_tree.specs.Trees.{expr_tree}
use Rattle.split_rules.specs.ReleaseRows.{value_rows}
use Rattle.split_rules.proofs.statements.add_arguments.Given as goal

-- the rows so far with those of the arguments that are left
abbrev pub invariant-loop-arg : goal.invariant-loop-arg
invariant-loop-arg l =
    l.rows.items ++ flat_map value_rows (map expr_tree (drop l.arg-index l.args))
    ≡ l.fn.rows.items ++ flat_map value_rows (map expr_tree l.args)
