use Rattle.std.proofs.Common.{◌<◌, ◌+◌, arith}
use Rattle.jif_grammar.specs.DraftShapes.{name_shape, expr_shape, label_shape}
use Rattle.jif_resolve.specs.Contexts.{setting_in}
use Rattle.jif_resolve.proofs.Cleanly.{clean_element, clean_binary, clean_labelled}
use Rattle.jif_resolve.specs.Counts.{nodes_in}
use Rattle.jif_resolve.proofs.ExprSizes.{inner_falls, both_fall}
use Rattle.jif_resolve.proofs.expr_of.+expressions.Goals as goal

pub element_of-boxed_of-requires : goal.element_of-boxed_of-requires
element_of-boxed_of-requires t c = (
  omega (arith, c.decreases),
  (clean_element (setting_in c.args.context.now) c.args.scope.now (name_shape c.args.name.now)
      (expr_shape c.args.index.now) c.requires).1,
)

pub binary_of-boxed_of-requires : goal.binary_of-boxed_of-requires
binary_of-boxed_of-requires t c = (
  omega (arith, c.decreases),
  (clean_binary (setting_in c.args.context.now) c.args.scope.now (expr_shape c.args.left.now)
      (expr_shape c.args.right.now) c.requires).0,
)

pub binary_of-boxed_of-requires-2 : goal.binary_of-boxed_of-requires-2
binary_of-boxed_of-requires-2 t c = (
  omega (arith, c.decreases),
  (clean_binary (setting_in c.args.context.now) c.args.scope.now (expr_shape c.args.left.now)
      (expr_shape c.args.right.now) c.requires).1,
)

pub release_of-boxed_of-requires : goal.release_of-boxed_of-requires
release_of-boxed_of-requires t c = (
  omega (arith, c.decreases),
  (clean_labelled (setting_in c.args.context.now) c.args.scope.now (expr_shape c.args.operand.now)
      (label_shape c.args.written.now) c.requires).0,
)

pub release_of-label_of-requires : goal.release_of-label_of-requires
release_of-label_of-requires t c =
    (clean_labelled (setting_in c.args.context.now) c.args.scope.now (expr_shape c.args.operand.now)
    (label_shape c.args.written.now) c.requires).1

pub endorsement_of-boxed_of-requires : goal.endorsement_of-boxed_of-requires
endorsement_of-boxed_of-requires t c = (
  omega (arith, c.decreases),
  (clean_labelled (setting_in c.args.context.now) c.args.scope.now (expr_shape c.args.operand.now)
      (label_shape c.args.written.now) c.requires).0,
)

pub endorsement_of-label_of-requires : goal.endorsement_of-label_of-requires
endorsement_of-label_of-requires t c =
    (clean_labelled (setting_in c.args.context.now) c.args.scope.now (expr_shape c.args.operand.now)
    (label_shape c.args.written.now) c.requires).1

pub expr_of-element_of-requires : goal.expr_of-element_of-requires
expr_of-element_of-requires t c =
    let smaller : nodes_in (expr_shape c.deref.result.now) < nodes_in (expr_shape c.args.draft.now) =
    rw c.deref.ensures (rw c.in-Element.is (inner_falls (expr_shape c.in-Element.index.value))) in
    (omega (arith, smaller, c.decreases), rw c.deref.ensures (rw c.in-Element.is at c.requires))

pub expr_of-complement_of-requires : goal.expr_of-complement_of-requires
expr_of-complement_of-requires t c =
    let smaller : nodes_in (expr_shape c.deref-in-Not.result.now) < nodes_in (expr_shape c.args.draft.now) =
    rw c.deref-in-Not.ensures (rw c.in-Not.is (inner_falls (expr_shape c.in-Not.operand.value))) in
    (omega (arith, smaller, c.decreases), rw c.deref-in-Not.ensures (rw c.in-Not.is at c.requires))

pub expr_of-negation_of-requires : goal.expr_of-negation_of-requires
expr_of-negation_of-requires t c =
    let smaller : nodes_in (expr_shape c.deref-in-Negate.result.now) < nodes_in (expr_shape c.args.draft.now) =
    rw c.deref-in-Negate.ensures (rw c.in-Negate.is (inner_falls (expr_shape c.in-Negate.operand.value))) in
    (omega (arith, smaller, c.decreases), rw c.deref-in-Negate.ensures (rw c.in-Negate.is at c.requires))

pub expr_of-binary_of-requires : goal.expr_of-binary_of-requires
expr_of-binary_of-requires t c =
    let smaller : nodes_in (expr_shape c.deref-in-Binary.result.now) + nodes_in
    (expr_shape c.deref-in-Binary-2.result.now)
    < nodes_in (expr_shape c.args.draft.now) =
    rw (c.deref-in-Binary.ensures, c.deref-in-Binary-2.ensures)
    (rw c.in-Binary.is (both_fall (expr_shape c.in-Binary.left.value) (expr_shape c.in-Binary.right.value))) in (
      omega (arith, smaller, c.decreases),
      rw (c.deref-in-Binary.ensures, c.deref-in-Binary-2.ensures) (rw c.in-Binary.is at c.requires),
    )

pub expr_of-release_of-requires : goal.expr_of-release_of-requires
expr_of-release_of-requires t c =
    let smaller : nodes_in (expr_shape c.deref-in-Declassify.result.now) < nodes_in (expr_shape c.args.draft.now) =
    rw c.deref-in-Declassify.ensures
    (rw c.in-Declassify.is (inner_falls (expr_shape c.in-Declassify.operand.value))) in
    (omega (arith, smaller, c.decreases), rw c.deref-in-Declassify.ensures (rw c.in-Declassify.is at c.requires))

pub expr_of-endorsement_of-requires : goal.expr_of-endorsement_of-requires
expr_of-endorsement_of-requires t c =
    let smaller : nodes_in (expr_shape c.deref-in-Endorse.result.now) < nodes_in (expr_shape c.args.draft.now) =
    rw c.deref-in-Endorse.ensures (rw c.in-Endorse.is (inner_falls (expr_shape c.in-Endorse.operand.value))) in
    (omega (arith, smaller, c.decreases), rw c.deref-in-Endorse.ensures (rw c.in-Endorse.is at c.requires))
