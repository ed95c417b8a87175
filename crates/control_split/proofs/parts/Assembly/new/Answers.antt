use Rattle.control_split.specs.declared.parts.TheConstants.{HOST_NUMBERS}
use Rattle.control_split.proofs.Lists.{empty_fit}
use Rattle.control_split.proofs.parts.Assembly.new.Goals as goal

pub invariant_of-result : goal.invariant_of-result
invariant_of-result c = empty_fit c.in_ok-empty_lists.field-0.items HOST_NUMBERS c.in_ok-empty_lists.ensures
