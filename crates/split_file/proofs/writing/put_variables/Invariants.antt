use Rattle.std.proofs.Common.{◌≡◌, ◌++◌, take}
use Rattle.std.specs.List.{flat_map}
use Rattle.split_file.specs.Spelling.{variable_bytes}
use Rattle.split_file.proofs.writing.put_variables.Given as goal

abbrev pub invariant-loop-variable : goal.invariant-loop-variable
invariant-loop-variable l = l.out.items ≡ l.initial.out.items ++ flat_map variable_bytes
    (take l.variable-index l.variables)
