-- The cheapest of some starting plans, plan by plan.
use Rattle.std.proofs.Common.{◌≡◌, ℕ, ◌+◌, ◌<◌, ◌≤◌, ap, subst, arith, inl, inr}
use Rattle.std.proofs.lemmas.Bool.{cases_order, cases_eq}
use Rattle.std.specs.Prelude.{All}
use Rattle.need_labels.specs.Plan.{PlanShape}
use Rattle.msg_cost.specs.declared.step.Step.{Step}
use Rattle.msg_cost.specs.Steps.{moved}
use Rattle.place_rules.specs.Allowed.{AllowedShape}
use Rattle.place_rules.specs.PlaceRules.{IsWordOfSome}
use Rattle.placement.specs.Choice.{IsLowered, IsChosen, IsTried}
use Rattle.placement.specs.Starting.{IsStartOf, IsCheapestStart}
use Rattle.placement.specs.Steps.{steps_in}
use Rattle.placement.proofs.Passes.{lowered_lower, one_lowered}
use Rattle.placement.proofs.Starts.{one_start}
use Rattle.placement.proofs.TriedSteps.{step_among}

same_cost : (cost : PlanShape → ℕ) (allowed : AllowedShape) (host : ℕ) (first second : PlanShape) →
    IsStartOf allowed host first → IsStartOf allowed host second → cost first ≡ cost second
same_cost cost allowed host first second one two = ap cost (one_start allowed host first second one two)

pub cheapest_one : (cost : PlanShape → ℕ) (allowed : AllowedShape) (plan : PlanShape) → IsStartOf allowed 0 plan →
    IsCheapestStart cost allowed 1 plan
cheapest_one cost allowed plan start = record {
  host = 0;
  known = omega arith;
  start = start;
  least = λ other another within that.
      let none : other ≡ 0 = omega arith in
      let P : ℕ → Type 0 = λ host. IsStartOf allowed host another in
      let same = same_cost cost allowed 0 plan another start (subst P none that) in
      omega arith;
  first = λ earlier another less that. absurd (omega arith);
}

-- the next costs less
pub cheapest_next : (cost : PlanShape → ℕ) (allowed : AllowedShape) (count price lower : ℕ) (best next : PlanShape) →
    IsCheapestStart cost allowed count best → price ≡ cost best → IsStartOf allowed count next → lower ≡ cost next →
    lower < price → IsCheapestStart cost allowed (count + 1) next
cheapest_next cost allowed count price lower best next found costs start also less = record {
  host = count;
  known = omega arith;
  start = start;
  least = λ other another within that. elim (cases_eq other count) [
    | inl last ↦
        let P : ℕ → Type 0 = λ host. IsStartOf allowed host another in
        let same = same_cost cost allowed count next another start (subst P last that) in
        omega arith
    | inr sooner ↦ let more = found.least other another (omega arith) that in omega arith
  ];
  first = λ earlier another sooner that. let more = found.least earlier another sooner that in omega arith;
}

-- the next costs as much or more
pub cheapest_kept : (cost : PlanShape → ℕ) (allowed : AllowedShape) (count price higher : ℕ) (best next : PlanShape) →
    IsCheapestStart cost allowed count best → price ≡ cost best → IsStartOf allowed count next → higher ≡ cost next →
    price ≤ higher → IsCheapestStart cost allowed (count + 1) best
cheapest_kept cost allowed count price higher best next found costs start also more = record {
  host = found.host;
  known = let known = found.known in omega arith;
  start = found.start;
  least = λ other another within that. elim (cases_eq other count) [
    | inl last ↦
        let P : ℕ → Type 0 = λ host. IsStartOf allowed host another in
        let same = same_cost cost allowed count next another start (subst P last that) in
        omega arith
    | inr sooner ↦ found.least other another (omega arith) that
  ];
  first = found.first;
}

-- ---- one cheapest plan

pub one_cheapest : (cost : PlanShape → ℕ) (allowed : AllowedShape) (count : ℕ) (first second : PlanShape) →
    IsCheapestStart cost allowed count first → IsCheapestStart cost allowed count second → first ≡ second
one_cheapest cost allowed count first second one two = elim (cases_order one.host two.host) [
  | inl same ↦
      let P : ℕ → Type 0 = λ host. IsStartOf allowed host first in
      one_start allowed two.host first second (subst P same one.start) two.start
  | inr (inl sooner) ↦
      let less = two.first one.host first sooner one.start in
      let more = one.least two.host second two.known two.start in
      absurd (omega arith)
  | inr (inr later) ↦
      let less = one.first two.host second later two.start in
      let more = two.least one.host first one.known one.start in
      absurd (omega arith)
]

-- ---- one chosen plan

pub one_chosen : (cost : PlanShape → ℕ) (allowed : AllowedShape) (count : ℕ) (first second : PlanShape) →
    IsChosen cost allowed count first → IsChosen cost allowed count second → first ≡ second
one_chosen cost allowed count first second one two =
    let same : one.start ≡ two.start = one_cheapest cost allowed count one.start two.start one.cheapest two.cheapest in
    let Lowered : PlanShape → Type 0 = λ start. IsLowered cost (steps_in count allowed) start first in
    one_lowered cost (steps_in count allowed) two.start first second (subst Lowered same one.lowered) two.lowered

-- what is chosen costs no more than what was tried
pub chosen_least : (cost : PlanShape → ℕ) (allowed : AllowedShape) (count : ℕ) (plan other : PlanShape) →
    All (IsWordOfSome count) allowed.fields → All (IsWordOfSome count) allowed.statements →
    IsChosen cost allowed count plan → IsTried allowed count plan other → cost plan ≤ cost other
chosen_least cost allowed count plan other fields statements chosen (inl start) =
    let lower = lowered_lower cost (steps_in count allowed) chosen.start plan chosen.lowered in
    let least = chosen.cheapest.least start.0 other start.1 start.2 in
    omega arith
chosen_least cost allowed count plan other fields statements chosen (inr near) =
    let settled = chosen.lowered.settled in
    let less = step_among (λ (step : Step). cost plan ≤ cost (moved plan step)) count allowed fields statements settled
    near.0 near.1 in
    let same = ap cost near.2 in
    omega arith
