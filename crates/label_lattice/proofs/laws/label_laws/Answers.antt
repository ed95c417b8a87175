use Rattle.label_lattice.proofs.LatticeLemmas.{one_label, join_is_above, join_is_least, meet_is_below, meet_is_greatest}
use Rattle.label_lattice.proofs.LatticeLemmas.{bottom_flows}
use Rattle.label_lattice.proofs.OneLabel.{written_once}
use Rattle.label_lattice.proofs.PolicyLemmas.{policy_not_free, acts_from_flow, flow_from_acts, only_policy}
use Rattle.label_lattice.proofs.Values as values
use Rattle.label_lattice.proofs.JoinLaws as laws
use Rattle.label_lattice.proofs.laws.label_laws.Goals as goal

pub returns-clause-antisymmetric : goal.returns-clause-antisymmetric
returns-clause-antisymmetric c = one_label

pub returns-clause-join_above : goal.returns-clause-join_above
returns-clause-join_above c = join_is_above

pub returns-clause-join_least : goal.returns-clause-join_least
returns-clause-join_least c = join_is_least

pub returns-clause-meet_below : goal.returns-clause-meet_below
returns-clause-meet_below c = meet_is_below

pub returns-clause-meet_greatest : goal.returns-clause-meet_greatest
returns-clause-meet_greatest c = meet_is_greatest

pub returns-clause-from_bottom : goal.returns-clause-from_bottom
returns-clause-from_bottom c = bottom_flows

pub returns-clause-to_free : goal.returns-clause-to_free
returns-clause-to_free c = policy_not_free c.acts_for_laws.ensures.of_outsider

pub returns-clause-owners : goal.returns-clause-owners
returns-clause-owners c from to principals first second declared first_in second_in from_is to_is = (
  acts_from_flow c.acts_for_laws.ensures.of_outsider from to principals first second declared first_in from_is to_is,
  flow_from_acts c.acts_for_laws.ensures.transitive from to principals first second from_is to_is,
)

pub returns-clause-first_policy : goal.returns-clause-first_policy
returns-clause-first_policy c = only_policy

pub returns-clause-written_once : goal.returns-clause-written_once
returns-clause-written_once c principals tokens first second declared one two =
    written_once principals tokens first second declared one.is_label two.is_label

pub returns-clause-empty_sets : goal.returns-clause-empty_sets
returns-clause-empty_sets c = (values.empty_forbids, values.empty_untrusted)

pub returns-clause-bottom_sets : goal.returns-clause-bottom_sets
returns-clause-bottom_sets c = values.bottom_is

pub returns-clause-join_sets : goal.returns-clause-join_sets
returns-clause-join_sets c = λ first second one two. values.join_is first second one.long two.long

pub returns-clause-meet_sets : goal.returns-clause-meet_sets
returns-clause-meet_sets c = values.meet_is

pub returns-clause-join_once : goal.returns-clause-join_once
returns-clause-join_once c = values.join_once

pub returns-clause-meet_once : goal.returns-clause-meet_once
returns-clause-meet_once c = values.meet_once

pub returns-clause-empty_over : goal.returns-clause-empty_over
returns-clause-empty_over c = values.empty_over

pub returns-clause-bottom_over : goal.returns-clause-bottom_over
returns-clause-bottom_over c = values.bottom_over c.acts_for_laws.ensures.of_declared

pub returns-clause-join_over : goal.returns-clause-join_over
returns-clause-join_over c = values.join_over

pub returns-clause-meet_over : goal.returns-clause-meet_over
returns-clause-meet_over c = values.meet_over

pub returns-clause-join_commutative : goal.returns-clause-join_commutative
returns-clause-join_commutative c = laws.join_commutative

pub returns-clause-join_associative : goal.returns-clause-join_associative
returns-clause-join_associative c = laws.join_associative

pub returns-clause-join_idempotent : goal.returns-clause-join_idempotent
returns-clause-join_idempotent c = laws.join_idempotent

pub returns-clause-meet_associative : goal.returns-clause-meet_associative
returns-clause-meet_associative c = laws.meet_associative

pub returns-clause-meet_idempotent : goal.returns-clause-meet_idempotent
returns-clause-meet_idempotent c = laws.meet_idempotent

pub returns-clause-join_bottom : goal.returns-clause-join_bottom
returns-clause-join_bottom c = laws.join_bottom

pub returns-clause-meet_empty : goal.returns-clause-meet_empty
returns-clause-meet_empty c = laws.meet_empty

pub returns-clause-join_empty : goal.returns-clause-join_empty
returns-clause-join_empty c = laws.join_empty
