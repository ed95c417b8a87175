use Rattle.std.proofs.Common.{arith, ◌+◌, ◌∷◌, []}
use Rattle.std.proofs.lemmas.Result.{on_ok_weaker}
use Rattle.jif_tree.specs.Trees.{expr_tree}
use Rattle.split_rules.specs.Expressions.{readings_of, reads_in, nodes_of, released_by}
use Rattle.control_split.proofs.Operands.{room_behind, reads_both}
use Rattle.control_split.proofs.expressions.+add_reads.Goals as goal

pub add_reads-requires-in-Binary-2 : goal.add_reads-requires-in-Binary-2
add_reads-requires-in-Binary-2 t c =
    let whole = rw c.in-Binary.is at c.requires in
    let size = rw c.in-Binary.is at c.decreases in (
      rw c.deref-in-Binary-2.ensures (omega (arith, size)),
      rw c.deref-in-Binary-2.ensures (room_behind c.args.first _ _ _ _
          (rw c.deref-in-Binary.ensures at c.in_ok-next-in-Binary.ensures.next) whole),
    )

pub returns-in_ok-code_expr-in-Element-clause-trace :
    goal.returns-in_ok-code_expr-in-Element-clause-trace
returns-in_ok-code_expr-in-Element-clause-trace t c =
    let place = c.args.place.now in
    rw c.in-Element.is
    (on_ok_weaker c.read-in-Element.result (reads_both c.args.trace.now c.add_reads.new.trace
    c.read-in-Element.new.trace
    place.host place.label.now place.statement (readings_of c.args.first (expr_tree c.in-Element.index.value))
    (record {
      field = c.in-Element.field;
      index = nodes_of c.args.first (expr_tree c.in-Element.index.value);
      released = released_by c.args.first (expr_tree c.in-Element.index.value);
    } ∷ [])
    (rw c.deref.ensures at c.in_ok-next-in-Element.ensures.trace))
    (rw (c.in_ok-code_expr-in-Element.ensures, c.deref-in-Element.ensures) at c.read-in-Element.ensures.trace))

pub returns-in_ok-next-in-Binary-clause-trace : goal.returns-in_ok-next-in-Binary-clause-trace
returns-in_ok-next-in-Binary-clause-trace t c =
    let place = c.args.place.now in
    rw c.in-Binary.is
    (on_ok_weaker c.add_reads-in-Binary-2.result (reads_both c.args.trace.now c.add_reads-in-Binary.new.trace
    c.add_reads-in-Binary-2.new.trace place.host place.label.now place.statement
    (readings_of c.args.first (expr_tree c.in-Binary.left.value))
    (readings_of (c.args.first + reads_in (expr_tree c.in-Binary.left.value)) (expr_tree c.in-Binary.right.value))
    (rw c.deref-in-Binary.ensures at c.in_ok-next-in-Binary.ensures.trace))
    (rw (c.in_ok-next-in-Binary.ensures.next, c.deref-in-Binary.ensures, c.deref-in-Binary-2.ensures) at
    c.add_reads-in-Binary-2.ensures.trace))
