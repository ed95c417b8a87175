use Rattle.std.proofs.Common.{take}
use Rattle.msg_cost.specs.Views.{seated_shape}
use Rattle.msg_cost.proofs.Readers.{IsReadWord}
use Rattle.msg_cost.proofs.values.reading_hosts.Given as goal

-- the bits are those of the hosts of the statements so far
abbrev pub invariant-loop-statement : goal.invariant-loop-statement
invariant-loop-statement l = IsReadWord (seated_shape l.planned).plan (take l.statement-index l.statement-items) l.word
