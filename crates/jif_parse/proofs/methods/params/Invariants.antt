use Rattle.std.proofs.Common.{length}
use Rattle.jif_parse.proofs.MethodParts.{ParamsSoFar}
use Rattle.jif_parse.proofs.methods.params.Given as goal

abbrev pub invariant-loop-params : goal.invariant-loop-params
invariant-loop-params l = ParamsSoFar l.fn.cursor l.cursor l.params.items

abbrev pub decreases-loop-params : goal.decreases-loop-params
decreases-loop-params l = length l.cursor.rest.now
