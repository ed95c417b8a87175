use Rattle.std.proofs.Common.{◌≡◌, map, take}
use Rattle.std.specs.List.{zip}
use Rattle.split_rules.specs.SplitCode.{code_variable}
use Rattle.control_split.specs.Tables.{naming}
use Rattle.control_split.specs.Views.{labelled_in}
use Rattle.control_split.proofs.tables.code_vars.Given as goal

-- the variables so far, with the labels so far
abbrev pub invariant-loop-number : goal.invariant-loop-number
invariant-loop-number l =
    let labels = take l.number (labelled_in l.split).var_labels in
    (l.trace ≡ naming l.fn.trace labels)
    × (l.rows.items ≡ map (code_variable (labelled_in l.split).program l.trace.labels)
    (zip (take l.number (labelled_in l.split).program.vars) labels))
