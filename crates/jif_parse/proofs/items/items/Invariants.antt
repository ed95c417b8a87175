use Rattle.std.proofs.Common.{length}
use Rattle.jif_parse.proofs.ItemLists.{ItemsRead}
use Rattle.jif_parse.proofs.items.items.Given as goal

abbrev pub invariant-loop-alloc : goal.invariant-loop-alloc
invariant-loop-alloc l = ItemsRead l.fn.cursor l.cursor l.draft

abbrev pub decreases-loop-alloc : goal.decreases-loop-alloc
decreases-loop-alloc l = length l.cursor.rest.now
