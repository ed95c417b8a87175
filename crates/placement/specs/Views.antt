-- What contracts see of plans with costs.
use Rattle.std.specs.Prelude.{◌≡◌, ℕ, ◌<◌, ◌^◌, IfSome, length}
use Rattle.need_labels.specs.Labelled.{labelled_of}
use Rattle.need_labels.specs.Plan.{PlanShape}
use Rattle.msg_cost.specs.declared.index.Index.{Index}
use Rattle.msg_cost.specs.Cost.{plan_cost}
use Rattle.msg_cost.specs.Touched.{touched_cost}
use Rattle.placement.specs.declared.costed.Costed.{Costed}
use Rattle.placement.specs.declared.costed.Counted.{Counted}
use Rattle.placement.specs.declared.costed.Weighed.{Weighed}
use Rattle.placement.specs.declared.part.Part.{Part}
use Rattle.placement.specs.Steps.{step_to}

-- what plans cost
abbrev pub cost_in : Counted → PlanShape → ℕ
cost_in counted plan = plan_cost (labelled_of counted.checked.now) counted.needs.now counted.hosts.now plan

abbrev pub count_in : Counted → ℕ
count_in counted = length counted.hosts.now.hosts

-- it has this plan, and the cost of the plan
pub record IsCostedAs (cost : PlanShape → ℕ) (plan : PlanShape) (costed : Costed) : Type 0 where
  pub same : costed.plan ≡ plan
  pub costs : costed.cost ≡ cost plan

-- it has the cost of its plan
abbrev pub IsCosted : (PlanShape → ℕ) → Costed → Type 0
IsCosted cost costed = costed.cost ≡ cost costed.plan

-- what the pieces cost under a plan that moves of a part touch, but for walks, to whichever host
abbrev pub touched_in : Counted → Index → Part → PlanShape → ℕ
touched_in counted index part plan =
    touched_cost (labelled_of counted.checked.now) counted.needs.now counted.hosts.now index (step_to part 0) plan

-- it has what they cost under its plan, where that was counted, and that is little
abbrev pub IsWeighed : (PlanShape → ℕ) → Weighed → Type 0
IsWeighed touched weighed =
    IfSome weighed.touched (λ cost. (cost ≡ touched weighed.best.plan) × (cost < 2 ^ 62))
