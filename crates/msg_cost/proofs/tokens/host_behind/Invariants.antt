use Rattle.std.proofs.Common.{◌≡◌, drop}
use Rattle.msg_cost.specs.Moves.{host_behind}
use Rattle.msg_cost.specs.Views.{seated_shape, ids_of}
use Rattle.msg_cost.proofs.tokens.host_behind.Given as goal

-- the statements so far stand on the host
abbrev pub invariant-loop-statement : goal.invariant-loop-statement
invariant-loop-statement l =
    host_behind (seated_shape l.planned) l.host (ids_of l.statements)
    ≡ host_behind (seated_shape l.planned) l.host (ids_of (drop l.statement-index l.statements))
