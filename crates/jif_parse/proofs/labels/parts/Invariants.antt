use Rattle.std.proofs.Common.{length}
use Rattle.jif_parse.proofs.PartLists.{PartsSoFar}
use Rattle.jif_parse.proofs.labels.parts.Given as goal

abbrev pub invariant-loop-cursor : goal.invariant-loop-cursor
invariant-loop-cursor l = PartsSoFar l.initial.cursor l.cursor l.policies.items

abbrev pub decreases-loop-cursor : goal.decreases-loop-cursor
decreases-loop-cursor l = length l.cursor.rest.now
