use Rattle.std.proofs.Common.{◌≡◌, map, take}
use Rattle.std.specs.Prelude.{string_bytes}
use Rattle.node_engine.proofs.running.paths.Given as goal

-- the paths so far
abbrev pub invariant-loop-row : goal.invariant-loop-row
invariant-loop-row l = map string_bytes l.paths.items ≡ map (λ row. row.path) (take l.row-index l.rows)
