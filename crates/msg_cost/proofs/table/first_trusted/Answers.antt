use Rattle.std.proofs.Common.{◌∙◌, sym, ap, arith}
use Rattle.jif_tree.specs.declared.program.Stmt.{Stmt}
use Rattle.jif_tree.specs.Trees.{ProgramTree}
use Rattle.need_labels.specs.Plan.{PlanShape}
use Rattle.msg_cost.specs.Moves.{is_trusted_for}
use Rattle.msg_cost.specs.Tables.{planned_with}
use Rattle.msg_cost.proofs.TrustTables.{so_far_none, so_far_trusted, so_far_anew, so_far_all}
use Rattle.msg_cost.proofs.table.first_trusted.Goals as goal
use Rattle.msg_cost.proofs.table.first_trusted.Goals.{then-not-is_trusted_for, else-not-is_trusted_for}

pub loop-place-init : goal.loop-place-init
loop-place-init c = record {
  within = omega arith;
  first = λ program plan.
      so_far_none (planned_with c.args.needs.now c.args.hosts.now program plan) c.args.host c.args.block.now;
}

pub loop-place-preserved : goal.loop-place-preserved
loop-place-preserved c =
    let planned = planned_with c.args.needs.now c.args.hosts.now in
    let host = c.args.host in
    let block = c.args.block.now in
    let place = c.loop-place.place in
    let tested = λ (program : ProgramTree) (plan : PlanShape).
    ap (λ (one : Stmt). is_trusted_for (planned program plan) host one.id) c.index-block-place.is
    ∙ sym (c.is_trusted_for.ensures program plan) in
    elim c.if-not-is_trusted_for.branch [
      | then-not-is_trusted_for w ↦ rw w.first-is (record {
        within = omega arith;
        first = λ program plan.
            so_far_anew (planned program plan) host block c.loop-place.first place c.index-block-place.result
            c.loop-place-test.true c.index-block-place.is (tested program plan ∙ w.if-not-is_trusted_for.true)
            (c.loop-place.invariant.first program plan);
      })
      | else-not-is_trusted_for w ↦ rw w.first-is (record {
        within = omega (arith, c.loop-place.invariant.within);
        first = λ program plan.
            so_far_trusted (planned program plan) host block c.loop-place.first place c.index-block-place.result
            c.loop-place-test.true c.index-block-place.is (tested program plan ∙ w.if-not-is_trusted_for.false)
            c.loop-place.invariant.within (c.loop-place.invariant.first program plan);
      })
    ]

pub returns : goal.returns
returns c program plan place =
    so_far_all (planned_with c.args.needs.now c.args.hosts.now program plan) c.args.host c.args.block.now
    c.loop-place.first c.loop-place.place (omega arith) (omega arith) (c.loop-place.invariant.first program plan) place
