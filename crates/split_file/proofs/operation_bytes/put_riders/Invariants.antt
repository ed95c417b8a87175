use Rattle.std.proofs.Common.{◌≡◌, ◌++◌, take}
use Rattle.std.specs.List.{flat_map}
use Rattle.byte_format.specs.Numbers.{number_bytes}
use Rattle.split_file.proofs.operation_bytes.put_riders.Given as goal

abbrev pub invariant-loop-var : goal.invariant-loop-var
invariant-loop-var l =
    l.out.items ≡ l.initial.out.items ++ flat_map (λ variable. number_bytes variable.0) (take l.var-index l.vars)
