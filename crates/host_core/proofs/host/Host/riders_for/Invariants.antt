use Rattle.std.proofs.Common.{◌≡◌, ◌++◌, ◌+◌, drop, length}
use Rattle.host_core.specs.Host.{state_of}
use Rattle.host_core.specs.Turn.{riders_of}
use Rattle.host_core.proofs.host.Host.riders_for.Given as goal

-- the pairs so far, and those of the variables that are left, make the whole
abbrev pub invariant-loop-var : goal.invariant-loop-var
invariant-loop-var l = record {
  whole : l.riders ++ riders_of (state_of l.self) l.frame (drop l.var-index l.others)
      ≡ riders_of (state_of l.self) l.frame l.vars;
  many : length l.riders ≡ l.var-index + 1;
}
