use Rattle.std.proofs.Common.{map, take}
use Rattle.jif_grammar.specs.DraftShapes.{policy_shape}
use Rattle.jif_resolve.specs.Labels.{policy_part}
use Rattle.jif_resolve.specs.Making.{IsOfParts}
use Rattle.jif_resolve.proofs.label_of.of_policies.Given as goal

-- the policies so far
abbrev pub invariant-loop-policy : goal.invariant-loop-policy
invariant-loop-policy l =
    IsOfParts l.principals (map policy_part (map policy_shape (take l.policy-index l.policies))) l.label
