use Rattle.std.proofs.Common.{length}
use Rattle.jif_parse.proofs.ArgLists.{ArgsSoFar}
use Rattle.jif_parse.proofs.expressions.args.Given as goal

abbrev pub invariant-loop-args : goal.invariant-loop-args
invariant-loop-args l = ArgsSoFar l.initial.cursor l.cursor l.depth l.args.items

abbrev pub decreases-loop-args : goal.decreases-loop-args
decreases-loop-args l = length l.cursor.rest.now
