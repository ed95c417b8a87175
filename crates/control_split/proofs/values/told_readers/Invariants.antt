use Rattle.std.proofs.Common.{◌≡◌, map, filter}
use Rattle.std.specs.List.{range_with_len}
use Rattle.msg_cost.specs.Terms.{is_told}
use Rattle.control_split.specs.Views.{planned_in}
use Rattle.control_split.proofs.values.told_readers.Given as goal

-- those of the hosts so far that are told
abbrev pub invariant-loop-other : goal.invariant-loop-other
invariant-loop-other l =
    l.readers.items ≡ map (λ other. record { 0 = other })
    (filter (is_told (planned_in l.split) l.host l.fn.x l.carried) (range_with_len 0 l.other))
