use Rattle.std.proofs.Common.{◌≡◌, ◌≤◌, drop, length}
use Rattle.host_core.specs.Host.{state_of, IsSameHost, with_variables_set}
use Rattle.host_core.proofs.host.Host.set_variables.Given as goal

-- the riders that are left make of the host what all make of it, and there is room for them
abbrev pub invariant-loop-var : goal.invariant-loop-var
invariant-loop-var l = record {
  left : with_variables_set (state_of l.self) l.frame (drop l.var-index l.riders)
      ≡ with_variables_set (state_of l.initial.self) l.frame l.riders;
  room : length (drop l.var-index l.riders) ≤ l.self.stores.spare;
  same : IsSameHost l.initial.self l.self;
}
