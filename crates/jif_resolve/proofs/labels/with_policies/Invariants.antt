use Rattle.std.proofs.Common.{◌≡◌, map, take}
use Rattle.std.specs.List.{flat_map}
use Rattle.jif_grammar.specs.DraftShapes.{policy_shape}
use Rattle.jif_resolve.specs.First.{with_faults}
use Rattle.jif_resolve.specs.Faults.{policy_faults}
use Rattle.jif_resolve.proofs.labels.with_policies.Given as goal

-- the policies so far
abbrev pub invariant-loop-policy : goal.invariant-loop-policy
invariant-loop-policy l =
    l.sooner_one ≡ with_faults l.fn.first (flat_map (policy_faults l.principals)
    (map policy_shape (take l.policy-index l.policies)))
