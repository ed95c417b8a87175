-- The hosts on which a starting plan puts things may hold them.
use Rattle.std.proofs.Common.{◌≡◌, ℕ, zero, suc, ◌<◌, ◌∙◌, List, [], ◌∷◌, ap, sym, subst, arith, inl, inr}
use Rattle.std.proofs.lemmas.Bool.{cases_lt}
use Rattle.std.specs.Prelude.{All, slice_index, slice_set}
use Rattle.std.specs.List.{AllByRecursion, AllZip}
use Rattle.std.specs.Int.{bit_at}
use Rattle.js_base.specs.declared.ids.HostId.{HostId}
use Rattle.host_decl.specs.Hosts.{HostShape}
use Rattle.need_labels.specs.Plan.{PlanShape}
use Rattle.msg_cost.specs.declared.step.Step.{Step}
use Rattle.msg_cost.specs.declared.step.Step.TheVariants as step
use Rattle.msg_cost.specs.Steps.{moved}
use Rattle.place_rules.specs.Allowed.{AllowedShape}
use Rattle.place_rules.specs.PlaceRules.{HoldsOn, IsWordOf, IsWordOfSome}
use Rattle.placement.specs.Choice.{after_step, after_steps, after_passes, IsChosen}
use Rattle.placement.specs.Starting.{StartsOn, IsStartOf}
use Rattle.placement.specs.Steps.{steps_in, IsAllowedStep}
use Rattle.placement.proofs.Passes.{step_taken, step_left}
use Rattle.placement.proofs.TriedSteps.{steps_allowed}

starts_held : (preferred word : ℕ) (host : HostId) → StartsOn preferred word host → bit_at word host.0 ≡ 1
starts_held preferred word host (inl there) = ap (bit_at word) there.1 ∙ there.0
starts_held preferred word host (inr other) = other.1.held

-- each host is one of its word
abbrev pub AreHeld : List ℕ → List HostId → Type 0
AreHeld words hosts = AllZip (λ word host. bit_at word host.0 ≡ 1) words hosts

start_row : (preferred : ℕ) (words : List ℕ) (hosts : List HostId) → AllZip (StartsOn preferred) words hosts →
    AreHeld words hosts
start_row preferred [] [] starts = tt
start_row preferred [] (host ∷ hosts) starts = absurd starts
start_row preferred (word ∷ words) [] starts = absurd starts
start_row preferred (word ∷ words) (host ∷ hosts) starts =
    (starts_held preferred word host starts.0, start_row preferred words hosts starts.1)

-- one of them is moved
moved_row : (words : List ℕ) (hosts : List HostId) (place : ℕ) (host : HostId) → AreHeld words hosts →
    bit_at (slice_index words place) host.0 ≡ 1 → AreHeld words (slice_set hosts place host)
moved_row [] [] place host held has = tt
moved_row [] (first ∷ hosts) place host held has = absurd held
moved_row (word ∷ words) [] place host held has = absurd held
moved_row (word ∷ words) (first ∷ hosts) zero host held has = (has, held.1)
moved_row (word ∷ words) (first ∷ hosts) (suc place) host held has =
    (held.0, moved_row words hosts place host held.1 has)

-- each part of a plan stands on a host of its word
pub record IsHeldPlan (allowed : AllowedShape) (plan : PlanShape) : Type 0 where
  pub fields : AreHeld allowed.fields plan.fields
  pub statements : AreHeld allowed.statements plan.statements

start_held : (allowed : AllowedShape) (preferred : ℕ) (plan : PlanShape) → IsStartOf allowed preferred plan →
    IsHeldPlan allowed plan
start_held allowed preferred plan start = record {
  fields = start_row preferred allowed.fields plan.fields start.fields;
  statements = start_row preferred allowed.statements plan.statements start.statements;
}

moved_held : (allowed : AllowedShape) (plan : PlanShape) (step : Step) → IsHeldPlan allowed plan →
    IsAllowedStep allowed step → IsHeldPlan allowed (moved plan step)
moved_held allowed plan (step.Field field host) held may = record {
  fields = moved_row allowed.fields plan.fields field.0 host held.fields may;
  statements = held.statements;
}
moved_held allowed plan (step.Statement statement host) held may = record {
  fields = held.fields;
  statements = moved_row allowed.statements plan.statements statement.0 host held.statements may;
}

step_held : (cost : PlanShape → ℕ) (allowed : AllowedShape) (plan : PlanShape) (step : Step) →
    IsHeldPlan allowed plan → IsAllowedStep allowed step → IsHeldPlan allowed (after_step cost plan step)
step_held cost allowed plan step held may =
    let Held : PlanShape → Type 0 = λ one. IsHeldPlan allowed one in
    elim (cases_lt (cost (moved plan step)) (cost plan)) [
      | inl less ↦ subst Held (sym (step_taken cost plan step less)) (moved_held allowed plan step held may)
      | inr more ↦ subst Held (sym (step_left cost plan step more)) held
    ]

steps_held : (cost : PlanShape → ℕ) (allowed : AllowedShape) (plan : PlanShape) (steps : List Step) →
    IsHeldPlan allowed plan → AllByRecursion (IsAllowedStep allowed) steps →
    IsHeldPlan allowed (after_steps cost plan steps)
steps_held cost allowed plan [] held may = held
steps_held cost allowed plan (step ∷ steps) held may =
    steps_held cost allowed (after_step cost plan step) steps (step_held cost allowed plan step held may.0) may.1

passes_held : (cost : PlanShape → ℕ) (allowed : AllowedShape) (steps : List Step) →
    AllByRecursion (IsAllowedStep allowed) steps → (passes : ℕ) (plan : PlanShape) → IsHeldPlan allowed plan →
    IsHeldPlan allowed (after_passes cost steps passes plan)
passes_held cost allowed steps may zero plan held = held
passes_held cost allowed steps may (suc passes) plan held =
    passes_held cost allowed steps may passes (after_steps cost plan steps)
    (steps_held cost allowed plan steps held may)

pub chosen_held : (cost : PlanShape → ℕ) (allowed : AllowedShape) (count : ℕ) (plan : PlanShape) →
    IsChosen cost allowed count plan → IsHeldPlan allowed plan
chosen_held cost allowed count plan chosen =
    let start = start_held allowed chosen.cheapest.host chosen.start chosen.cheapest.start in
    let lowered = chosen.lowered in
    subst (λ (one : PlanShape). IsHeldPlan allowed one) (sym lowered.reached)
    (passes_held cost allowed (steps_in count allowed) (steps_allowed count allowed) lowered.passes chosen.start start)

pub holds_row : {A : Type 0} (may : A → HostShape → Type 0) (rows : List HostShape) (all : List A) (words : List ℕ)
    (hosts : List HostId) → AllZip (λ one word. IsWordOf (may one) rows word) all words → AreHeld words hosts →
    AllZip (λ one host. HoldsOn (may one) rows host.0) all hosts
holds_row may rows [] [] [] are held = tt
holds_row may rows [] [] (host ∷ hosts) are held = absurd held
holds_row may rows [] (word ∷ words) hosts are held = absurd are
holds_row may rows (one ∷ all) [] hosts are held = absurd are
holds_row may rows (one ∷ all) (word ∷ words) [] are held = absurd held
holds_row may rows (one ∷ all) (word ∷ words) (host ∷ hosts) are held =
    ((are.0.members host.0).0 held.0, holds_row may rows all words hosts are.1 held.1)

pub known_row : (count : ℕ) (words : List ℕ) (hosts : List HostId) → All (IsWordOfSome count) words →
    AreHeld words hosts → All (λ host. host.0 < count) hosts
known_row count [] [] some held k d within = absurd (omega arith)
known_row count [] (host ∷ hosts) some held k d within = absurd held
known_row count (word ∷ words) [] some held k d within = absurd held
known_row count (word ∷ words) (host ∷ hosts) some held zero d within =
    (some 0 word (omega arith)).within host.0 held.0
known_row count (word ∷ words) (host ∷ hosts) some held (suc k) d within =
    known_row count words hosts (λ place one less. some (suc place) one (omega arith)) held.1 k d (omega arith)
