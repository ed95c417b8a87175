use Rattle.std.proofs.Common.{◌≡◌, map, take}
use Rattle.jif_tree.specs.Trees.{field_tree}
use Rattle.split_rules.specs.SplitCode.{placed_code_fields}
use Rattle.control_split.specs.Tables.{naming}
use Rattle.control_split.proofs.tables.code_fields.Given as goal

-- the fields so far, with the labels so far
abbrev pub invariant-loop-number : goal.invariant-loop-number
invariant-loop-number l =
    let fields = map field_tree (take l.number l.split.checked.now.program.fields.items) in
    (l.trace ≡ naming l.fn.trace (map (λ field. field.label) fields))
    × (l.rows.items ≡ placed_code_fields l.trace.labels l.split.plan.now 0 fields)
