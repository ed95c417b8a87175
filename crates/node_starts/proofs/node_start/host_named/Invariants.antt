use Rattle.std.proofs.Common.{◌≢◌, take}
use Rattle.std.specs.Prelude.{All}
use Rattle.node_starts.proofs.node_start.host_named.Given as goal

-- no row so far has the name
abbrev pub invariant-loop-number : goal.invariant-loop-number
invariant-loop-number l = All (λ row. row.name ≢ l.name) (take l.number l.rows)
