use Rattle.std.proofs.Common.{◌≡◌, map, take}
use Rattle.node_starts.specs.NodeSources.{named_host}
use Rattle.node_starts.proofs.node_start.are_alike.Given as goal

-- the rows so far are those of the hosts
abbrev pub invariant-loop-place : goal.invariant-loop-place
invariant-loop-place l = take l.place (map named_host l.rows) ≡ take l.place l.hosts
