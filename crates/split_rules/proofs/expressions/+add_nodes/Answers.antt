use Rattle.std.proofs.Common.{arith}
use Rattle.split_rules.proofs.ReadRows.{room_behind}
use Rattle.split_rules.proofs.expressions.+add_nodes.Goals as goal

pub add_nodes-requires-in-Binary-2 : goal.add_nodes-requires-in-Binary-2
add_nodes-requires-in-Binary-2 t c =
    let whole = rw c.in-Binary.is at c.requires in
    let size = rw c.in-Binary.is at c.decreases in (
      rw c.deref-in-Binary-2.ensures (omega (arith, size)),
      rw c.deref-in-Binary-2.ensures (room_behind c.args.first _ _ _ _
          (rw c.deref-in-Binary.ensures at c.in_ok-middle-in-Binary.ensures.next) whole),
    )
