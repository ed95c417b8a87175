use Rattle.std.proofs.Common.{◌∙◌, ap, ◌∷◌, []}
use Rattle.label_lattice.specs.declared.label.Label.{Label}
use Rattle.label_lattice.specs.Lattice.{join_of}
use Rattle.need_labels.specs.Finding.{labelled_at}
use Rattle.need_labels.specs.declared.place.Current.{Current}
use Rattle.need_labels.proofs.Exprs.{both_exprs, binary_adds, element_adds}
use Rattle.need_labels.proofs.expressions.+expressions.Goals as goal

pub add_element-returns-clause-adds : goal.add_element-returns-clause-adds
add_element-returns-clause-adds t c =
    let place = c.args.place.now in
    let old = c.args.current.now in
    let adds = c.in_ok-index.ensures.adds in
    let label = c.in_ok-index.ensures.label in
    rw c.telling.ensures.current
    (element_adds place old c.args.reads.now c.args.array _ c.add_expr.new.current c.add_expr.new.reads
    c.tell.new.reads c.tell-2.new.reads c.add_expr.new.current.pc c.in_ok-index.index
    c.join-label.result adds (ap (λ (current : Current). current.pc) adds.current) label
    (c.tell.ensures place.principals.now (labelled_at place) old.id old.turn)
    (c.tell-2.ensures place.principals.now (labelled_at place) old.id old.turn)
    (c.join-label.ensures.value
    ∙ ap (λ (first : Label). join_of first c.in_ok-index.index) c.field_label.ensures
    ∙ ap (join_of _) label))

pub add_binary-returns-clause-adds : goal.add_binary-returns-clause-adds
add_binary-returns-clause-adds t c = λ operator.
    let place = c.args.place.now in
    let old = c.args.current.now in
    let left = c.in_ok-left.ensures.adds in
    let right = c.in_ok-right.ensures.adds in
    let left_label = c.in_ok-left.ensures.label in
    let right_label = rw (ap (λ (current : Current). current.pc) left.current) at c.in_ok-right.ensures.label in
    rw c.telling.ensures.current
    (binary_adds place old c.args.reads.now _ _ _ c.add_expr-2.new.current c.add_expr-2.new.reads
    c.join.result (both_exprs (_ ∷ []) (_ ∷ []) left right)
    (c.join.ensures.value ∙ ap (λ (first : Label). join_of first c.in_ok-right.right) left_label
    ∙ ap (join_of _) right_label))

pub add_expr-returns-in-Binary-clause-label : goal.add_expr-returns-in-Binary-clause-label
add_expr-returns-in-Binary-clause-label t c =
    rw (c.in-Binary.is, ← c.deref-in-Binary.ensures, ← c.deref-in-Binary-2.ensures)
    (c.add_binary.ensures.label c.in-Binary.field-0)

pub add_expr-returns-in-Binary-clause-adds : goal.add_expr-returns-in-Binary-clause-adds
add_expr-returns-in-Binary-clause-adds t c =
    rw (c.in-Binary.is, ← c.deref-in-Binary.ensures, ← c.deref-in-Binary-2.ensures)
    (c.add_binary.ensures.adds c.in-Binary.field-0)
