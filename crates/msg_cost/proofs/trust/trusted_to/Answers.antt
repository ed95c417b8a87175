use Rattle.std.proofs.Common.{◌∙◌, ap, sym, subst, refl, arith}
use Rattle.jif_tree.specs.declared.program.Stmt.{Stmt}
use Rattle.msg_cost.specs.Kept.{IsTrustedBetween}
use Rattle.msg_cost.specs.Moves.{is_trusted_for}
use Rattle.msg_cost.specs.Views.{seated_shape}
use Rattle.msg_cost.proofs.Between.{one_more, none_more, not_trusted, all_trusted}
use Rattle.msg_cost.proofs.trust.trusted_to.Goals as goal

pub loop-place-init : goal.loop-place-init
loop-place-init c =
    (refl, (omega arith, none_more (seated_shape c.args.planned.now) c.args.host c.args.block.now c.args.first))

pub loop-place-preserved : goal.loop-place-preserved
loop-place-preserved c =
    let planned = seated_shape c.args.planned.now in
    let trusted = ap (λ (one : Stmt). is_trusted_for planned c.args.host one.id) c.index-block-place.is
    ∙ sym (c.is_trusted_for.ensures planned.program planned.plan) ∙ c.if-not-is_trusted_for.false in (
      refl,
      (
        omega (arith, c.loop-place.invariant.1.0),
        one_more planned c.args.host c.args.block.now c.args.first c.loop-place.place c.index-block-place.result
            c.loop-place-test.true c.index-block-place.is trusted c.loop-place.invariant.1.1,
      ),
    )

pub returns-then-not-is_trusted_for-clause-between : goal.returns-then-not-is_trusted_for-clause-between
returns-then-not-is_trusted_for-clause-between c = c.loop-place.invariant.1.1

pub returns-then-not-is_trusted_for-clause-stops : goal.returns-then-not-is_trusted_for-clause-stops
returns-then-not-is_trusted_for-clause-stops c =
    let planned = seated_shape c.args.planned.now in
    not_trusted planned c.args.host c.args.block.now c.loop-place.place c.index-block-place.result
    c.loop-place-test.true c.index-block-place.is
    (ap (λ (one : Stmt). is_trusted_for planned c.args.host one.id) c.index-block-place.is
    ∙ sym (c.is_trusted_for.ensures planned.program planned.plan) ∙ c.if-not-is_trusted_for.true)

pub returns-clause-between : goal.returns-clause-between
returns-clause-between c =
    subst (IsTrustedBetween (seated_shape c.args.planned.now) c.args.host c.args.block.now c.args.first)
    (sym c.loop-place.invariant.0) c.loop-place.invariant.1.1

pub returns-clause-stops : goal.returns-clause-stops
returns-clause-stops c =
    let planned = seated_shape c.args.planned.now in
    all_trusted planned c.args.host c.args.block.now c.loop-place.end
    (omega (arith, c.loop-place.invariant.0, c.loop-place-test.false))
