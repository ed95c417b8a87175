-- The choice of a plan. The first plan is the cheapest starting plan. Each move that lowers the cost gives the next
-- one. The moves are tried in passes, and behind a move a pass goes on from the new plan. So the hosts that are left of
-- the moved part are still tried. The last plan is the one that no move of a pass makes cheaper.
--
-- A move is tried as soon as it comes. Passes go through parts and hosts in the order of the files, and the first move
-- that lowers the cost is made. What is chosen is stated as the plan to which this list of moves comes, so it is one
-- plan, and it ends since each move lowers a natural number. The best move of a pass would cost a pass for each move.
use Rattle.std.specs.Prelude.{◌≡◌, ◌⊎◌, ℕ, zero, suc, ◌<◌, ◌≤◌, nat_lt, if◌then◌else◌, List, [], ◌∷◌}
use Rattle.std.specs.List.{AllByRecursion}
use Rattle.need_labels.specs.Plan.{PlanShape}
use Rattle.msg_cost.specs.declared.step.Step.{Step}
use Rattle.msg_cost.specs.Steps.{moved}
use Rattle.place_rules.specs.Allowed.{AllowedShape}
use Rattle.placement.specs.Starting.{IsStartOf, IsCheapestStart}
use Rattle.placement.specs.Steps.{steps_in, IsAllowedStep}

-- The plan after a move was tried. A part that stands on the host already costs as much there, so it stays.
abbrev pub after_step : (PlanShape → ℕ) → PlanShape → Step → PlanShape
after_step cost plan step = if nat_lt (cost (moved plan step)) (cost plan) then moved plan step else plan

abbrev pub after_steps : (PlanShape → ℕ) → PlanShape → List Step → PlanShape
after_steps cost plan [] = plan
after_steps cost plan (step ∷ steps) = after_steps cost (after_step cost plan step) steps

-- the plan after so many passes
abbrev pub after_passes : (PlanShape → ℕ) → List Step → ℕ → PlanShape → PlanShape
after_passes cost steps zero plan = plan
after_passes cost steps (suc passes) plan = after_passes cost steps passes (after_steps cost plan steps)

-- no move makes the plan cheaper
abbrev pub IsLocallyCheapest : (PlanShape → ℕ) → List Step → PlanShape → Type 0
IsLocallyCheapest cost steps plan = AllByRecursion (λ step. cost plan ≤ cost (moved plan step)) steps

-- the plan to which passes come from the first, and which no pass changes
pub record IsLowered (cost : PlanShape → ℕ) (steps : List Step) (first plan : PlanShape) : Type 0 where
  pub passes : ℕ
  pub reached : plan ≡ after_passes cost steps passes first
  pub settled : IsLocallyCheapest cost steps plan

-- the plan to which passes come from the cheapest starting plan for so many hosts
pub record IsChosen (cost : PlanShape → ℕ) (allowed : AllowedShape) (count : ℕ) (plan : PlanShape) : Type 0 where
  pub start : PlanShape
  pub cheapest : IsCheapestStart cost allowed count start
  pub lowered : IsLowered cost (steps_in count allowed) start plan

-- A plan that was tried for the answer: a starting plan, or one that differs from the answer by one part, which stands
-- on another host that may hold it.
abbrev pub IsTried : AllowedShape → ℕ → PlanShape → PlanShape → Type 0
IsTried allowed count plan other =
    ((host : ℕ) × (host < count) × IsStartOf allowed host other)
    ⊎ ((step : Step) × IsAllowedStep allowed step × (other ≡ moved plan step))
