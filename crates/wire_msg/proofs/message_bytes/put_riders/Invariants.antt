use Rattle.std.proofs.Common.{◌≡◌, ◌++◌, take}
use Rattle.std.specs.List.{flat_map}
use Rattle.wire_msg.specs.Spelling.{rider_bytes}
use Rattle.wire_msg.proofs.message_bytes.put_riders.Given as goal

abbrev pub invariant-loop-var : goal.invariant-loop-var
invariant-loop-var l = l.out.items ≡ l.initial.out.items ++ flat_map rider_bytes (take l.var-index l.riders)
