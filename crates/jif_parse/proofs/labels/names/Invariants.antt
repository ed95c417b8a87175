use Rattle.std.proofs.Common.{length}
use Rattle.jif_parse.proofs.NameLists.{NamesSoFar}
use Rattle.jif_parse.proofs.labels.names.Given as goal

abbrev pub invariant-listed : goal.invariant-listed
invariant-listed l = NamesSoFar l.initial.cursor l.cursor l.names.items

abbrev pub decreases-listed : goal.decreases-listed
decreases-listed l = length l.cursor.rest.now
