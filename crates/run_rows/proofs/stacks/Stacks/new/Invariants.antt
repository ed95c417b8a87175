use Rattle.std.proofs.Common.{◌≡◌, ◌<◌, length, map, reverse}
use Rattle.js_base.specs.declared.ids.HostId.{HostId}
use Rattle.run_rows.specs.Stacks.{first_stack, stack_at}
use Rattle.run_rows.proofs.stacks.Stacks.new.Given as goal

-- the hosts so far have their stacks
abbrev pub invariant-loop-number : goal.invariant-loop-number
invariant-loop-number l = record {
  count : length (map (λ stack. reverse stack.items) l.stacks.items) ≡ l.number;
  first : (host : HostId) → host.0 < l.number →
      stack_at (map (λ stack. reverse stack.items) l.stacks.items) host ≡ first_stack l.code host;
}
