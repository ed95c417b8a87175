use Rattle.std.proofs.Common.{◌≡◌, ℕ, ◌+◌, ◌<◌, ◌≤◌, length, sym, ap, subst, arith}
use Rattle.std.proofs.lemmas.List.{length-map}
use Rattle.need_labels.specs.Labelled.{labelled_of}
use Rattle.need_labels.specs.Plan.{PlanShape}
use Rattle.msg_cost.specs.Cost.{plan_cost}
use Rattle.placement.specs.declared.costed.Costed.{Costed}
use Rattle.placement.specs.Starting.{IsCheapestStart}
use Rattle.placement.proofs.Cheapest.{cheapest_one, cheapest_next, cheapest_kept}
use Rattle.placement.proofs.cheapest_start.cheapest_start.Goals as goal
use Rattle.placement.proofs.cheapest_start.cheapest_start.Goals.{then-next-best, else-next-best}

pub loop-number-init : goal.loop-number-init
loop-number-init c = record {
  plan = cheapest_one (plan_cost (labelled_of c.args.checked.now) c.args.needs.now c.args.hosts.now)
      c.args.allowed.now c.in_ok-best.best.plan (c.in_ok-best.ensures).start;
  cost = (c.in_ok-best.ensures).cost;
}

pub loop-number-preserved : goal.loop-number-preserved
loop-number-preserved c =
    let cost : PlanShape → ℕ = plan_cost (labelled_of c.args.checked.now) c.args.needs.now c.args.hosts.now in
    let Best : Costed → Type 0 = λ best. record {
      plan : IsCheapestStart cost c.args.allowed.now (c.loop-number.number + 1) best.plan;
      cost : best.cost ≡ cost best.plan;
    } in
    elim c.if-next-best.branch [
      | then-next-best w ↦ subst Best (sym w.best-is) (record {
        plan = cheapest_next cost c.args.allowed.now c.loop-number.number c.loop-number.best.cost
            c.in_ok-next.next.cost c.loop-number.best.plan c.in_ok-next.next.plan c.loop-number.invariant.plan
            c.loop-number.invariant.cost (c.in_ok-next.ensures).start (c.in_ok-next.ensures).cost w.if-next-best.true;
        cost = (c.in_ok-next.ensures).cost;
      })
      | else-next-best w ↦ subst Best (sym w.best-is) (record {
        plan = cheapest_kept cost c.args.allowed.now c.loop-number.number c.loop-number.best.cost
            c.in_ok-next.next.cost c.loop-number.best.plan c.in_ok-next.next.plan c.loop-number.invariant.plan
            c.loop-number.invariant.cost (c.in_ok-next.ensures).start (c.in_ok-next.ensures).cost w.if-next-best.false;
        cost = c.loop-number.invariant.cost;
      })
    ]

pub returns-clause-start : goal.returns-clause-start
returns-clause-start c =
    let cost : PlanShape → ℕ = plan_cost (labelled_of c.args.checked.now) c.args.needs.now c.args.hosts.now in
    let some : 0 < length c.args.hosts.now.hosts = simp length-map at c.hosts-number-end.ensures.sound.names.some in
    let rows : length c.hosts-number-end.result.now ≡ length c.args.hosts.now.hosts =
    ap length c.hosts-number-end.ensures.hosts in
    let end : c.loop-number.number ≤ length c.hosts-number-end.result.now =
    c.loop-number.auto.number-end (omega (arith, rows, some)) in
    let all : c.loop-number.number ≡ length c.args.hosts.now.hosts = omega arith in
    let Best : ℕ → Type 0 = λ count. IsCheapestStart cost c.args.allowed.now count c.loop-number.best.plan in
    subst Best all c.loop-number.invariant.plan
