-- Passes of moves: what they leave, that they come to an end, and that this end is one plan.
use Rattle.std.proofs.Common.{◌≡◌, ◌∙◌, ℕ, zero, suc, ◌<◌, ◌≤◌, Bool, List, [], ◌∷◌, ◌++◌, refl, sym, ap}
use Rattle.std.proofs.Common.{subst, arith, inl, inr}
use Rattle.std.specs.Prelude.{if◌then◌else◌}
use Rattle.std.proofs.lemmas.Bool.{cases_lt, lt-ltb, le-ltb}
use Rattle.need_labels.specs.Plan.{PlanShape}
use Rattle.msg_cost.specs.declared.step.Step.{Step}
use Rattle.msg_cost.specs.Steps.{moved}
use Rattle.placement.specs.Choice.{after_step, after_steps, after_passes, IsLocallyCheapest, IsLowered}

-- ---- one move

pub step_taken : (cost : PlanShape → ℕ) (plan : PlanShape) (step : Step) → cost (moved plan step) < cost plan →
    after_step cost plan step ≡ moved plan step
step_taken cost plan step less =
    ap (λ (test : Bool). if test then moved plan step else plan) (lt-ltb (cost (moved plan step)) (cost plan) less)

pub step_left : (cost : PlanShape → ℕ) (plan : PlanShape) (step : Step) → cost plan ≤ cost (moved plan step) →
    after_step cost plan step ≡ plan
step_left cost plan step more =
    ap (λ (test : Bool). if test then moved plan step else plan) (le-ltb (cost (moved plan step)) (cost plan) more)

step_lowers : (cost : PlanShape → ℕ) (plan : PlanShape) (step : Step) → cost (after_step cost plan step) ≤ cost plan
step_lowers cost plan step = elim (cases_lt (cost (moved plan step)) (cost plan)) [
  | inl less ↦ let same = ap cost (step_taken cost plan step less) in omega arith
  | inr more ↦ let same = ap cost (step_left cost plan step more) in omega arith
]

-- a move that was tried and leaves the cost leaves the plan
step_stays : (cost : PlanShape → ℕ) (plan : PlanShape) (step : Step) → cost plan ≤ cost (after_step cost plan step) →
    cost plan ≤ cost (moved plan step)
step_stays cost plan step stays = elim (cases_lt (cost (moved plan step)) (cost plan)) [
  | inl less ↦ let same = ap cost (step_taken cost plan step less) in omega arith
  | inr more ↦ more
]

-- ---- moves in a row

pub steps_append : (cost : PlanShape → ℕ) (plan : PlanShape) (first second : List Step) →
    after_steps cost plan (first ++ second) ≡ after_steps cost (after_steps cost plan first) second
steps_append cost plan [] second = refl
steps_append cost plan (step ∷ steps) second = steps_append cost (after_step cost plan step) steps second

pub steps_lower : (cost : PlanShape → ℕ) (plan : PlanShape) (steps : List Step) →
    cost (after_steps cost plan steps) ≤ cost plan
steps_lower cost plan [] = omega arith
steps_lower cost plan (step ∷ steps) =
    let here = step_lowers cost plan step in
    let rest = steps_lower cost (after_step cost plan step) steps in
    omega arith

-- moves that leave the cost leave the plan, and none of them makes it cheaper
pub steps_settled : (cost : PlanShape → ℕ) (plan : PlanShape) (steps : List Step) →
    cost plan ≤ cost (after_steps cost plan steps) → IsLocallyCheapest cost steps plan
steps_settled cost plan [] stays = tt
steps_settled cost plan (step ∷ steps) stays =
    let rest = steps_lower cost (after_step cost plan step) steps in
    let here = step_stays cost plan step (omega arith) in
    let same = step_left cost plan step here in
    let Stays : PlanShape → Type 0 = λ next. cost plan ≤ cost (after_steps cost next steps) in
    (here, steps_settled cost plan steps (subst Stays same stays))

pub settled_stays : (cost : PlanShape → ℕ) (plan : PlanShape) (steps : List Step) → IsLocallyCheapest cost steps plan →
    after_steps cost plan steps ≡ plan
settled_stays cost plan [] settled = refl
settled_stays cost plan (step ∷ steps) settled =
    ap (λ (next : PlanShape). after_steps cost next steps) (step_left cost plan step settled.0)
    ∙ settled_stays cost plan steps settled.1

-- ---- passes

pub passes_more : (cost : PlanShape → ℕ) (steps : List Step) (passes : ℕ) (plan : PlanShape) →
    after_passes cost steps (suc passes) plan ≡ after_steps cost (after_passes cost steps passes plan) steps
passes_more cost steps zero plan = refl
passes_more cost steps (suc passes) plan = passes_more cost steps passes (after_steps cost plan steps)

passes_lower : (cost : PlanShape → ℕ) (steps : List Step) (passes : ℕ) (plan : PlanShape) →
    cost (after_passes cost steps passes plan) ≤ cost plan
passes_lower cost steps zero plan = omega arith
passes_lower cost steps (suc passes) plan =
    let here = steps_lower cost plan steps in
    let rest = passes_lower cost steps passes (after_steps cost plan steps) in
    omega arith

pub lowered_lower : (cost : PlanShape → ℕ) (steps : List Step) (first plan : PlanShape) →
    IsLowered cost steps first plan → cost plan ≤ cost first
lowered_lower cost steps first plan lowered =
    let same = ap cost lowered.reached in
    let all = passes_lower cost steps lowered.passes first in
    omega arith

passes_stay : (cost : PlanShape → ℕ) (steps : List Step) (passes : ℕ) (plan : PlanShape) →
    IsLocallyCheapest cost steps plan → after_passes cost steps passes plan ≡ plan
passes_stay cost steps zero plan settled = refl
passes_stay cost steps (suc passes) plan settled =
    ap (λ (next : PlanShape). after_passes cost steps passes next) (settled_stays cost plan steps settled)
    ∙ passes_stay cost steps passes plan settled

one_end : (cost : PlanShape → ℕ) (steps : List Step) (passes other : ℕ) (plan : PlanShape) →
    IsLocallyCheapest cost steps (after_passes cost steps passes plan) →
    IsLocallyCheapest cost steps (after_passes cost steps other plan) →
    after_passes cost steps passes plan ≡ after_passes cost steps other plan
one_end cost steps zero other plan first second = sym (passes_stay cost steps other plan first)
one_end cost steps (suc passes) zero plan first second = passes_stay cost steps (suc passes) plan second
one_end cost steps (suc passes) (suc other) plan first second =
    one_end cost steps passes other (after_steps cost plan steps) first second

pub one_lowered : (cost : PlanShape → ℕ) (steps : List Step) (start first second : PlanShape) →
    IsLowered cost steps start first → IsLowered cost steps start second → first ≡ second
one_lowered cost steps start first second one two =
    let Settled : PlanShape → Type 0 = λ plan. IsLocallyCheapest cost steps plan in
    one.reached
    ∙ one_end cost steps one.passes two.passes start (subst Settled one.reached one.settled)
    (subst Settled two.reached two.settled)
    ∙ sym two.reached

-- ---- the end

pub lowered_at : (cost : PlanShape → ℕ) (steps : List Step) (passes : ℕ) (start before plan : PlanShape) →
    before ≡ after_passes cost steps passes start → plan ≡ after_steps cost before steps → cost plan ≡ cost before →
    IsLowered cost steps start plan
lowered_at cost steps passes start before plan was is same =
    let settled = steps_settled cost before steps (let costs = ap cost is in omega arith) in
    let stays : plan ≡ before = is ∙ settled_stays cost before steps settled in
    record {
      passes = passes;
      reached = stays ∙ was;
      settled = subst (λ (one : PlanShape). IsLocallyCheapest cost steps one) (sym stays) settled;
    }

later : (cost : PlanShape → ℕ) (steps : List Step) (start plan : PlanShape) →
    IsLowered cost steps (after_steps cost start steps) plan → IsLowered cost steps start plan
later cost steps start plan lowered =
    record { passes = suc lowered.passes; reached = lowered.reached; settled = lowered.settled }

pub some_lowered : (cost : PlanShape → ℕ) (steps : List Step) (bound : ℕ) (start : PlanShape) → cost start < bound →
    (plan : PlanShape) × IsLowered cost steps start plan
some_lowered cost steps zero start less = absurd (omega arith)
some_lowered cost steps (suc bound) start less =
    let next = after_steps cost start steps in
    let lower = steps_lower cost start steps in
    elim (cases_lt (cost next) (cost start)) [
      | inl lowers ↦
          let found = some_lowered cost steps bound next (omega arith) in
          (found.0, later cost steps start found.0 found.1)
      | inr stays ↦
          (next, lowered_at cost steps 0 start start next refl refl (omega arith))
    ]
