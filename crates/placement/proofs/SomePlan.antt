-- A program whose parts have hosts has a plan.
use Rattle.std.proofs.Common.{◌≡◌, ℕ, zero, suc, ◌+◌, ◌<◌, List, [], ◌∷◌, length, All, arith, inl, inr, refl, subst}
use Rattle.std.proofs.Common.{w16}
use Rattle.std.specs.List.{AllZip}
use Rattle.std.specs.Int.{trailing_zeros}
use Rattle.std.proofs.lemmas.Bool.{cases_eq, cases_lt}
use Rattle.js_base.specs.declared.ids.HostId.{HostId}
use Rattle.host_decl.specs.Hosts.{HostsShape}
use Rattle.need_labels.specs.Labelled.{Labelled}
use Rattle.need_labels.specs.Needs.{NeedsShape}
use Rattle.need_labels.specs.Plan.{PlanShape}
use Rattle.msg_cost.specs.Cost.{plan_cost}
use Rattle.place_rules.specs.Allowed.{AllowedShape}
use Rattle.place_rules.specs.PlaceRules.{AreAllowed, IsWordOfSome}
use Rattle.placement.specs.Starting.{StartsOn, IsStartOf, IsCheapestStart}
use Rattle.placement.specs.Placing.{IsPlaced}
use Rattle.placement.proofs.Starts.{lowest_host, some_word}
use Rattle.placement.specs.Steps.{steps_in}
use Rattle.placement.proofs.Passes.{some_lowered}
use Rattle.placement.proofs.Cheapest.{cheapest_one, cheapest_next, cheapest_kept}

-- ---- a starting plan

starts_on : (count preferred word : ℕ) → IsWordOfSome count word → (host : HostId) × StartsOn preferred word host
starts_on count preferred word is = elim (cases_eq _ 1) [
  | inl held ↦ (record { 0 = preferred }, inl (held, refl))
  | inr not ↦ (record { 0 = trailing_zeros w16 word }, inr (not, lowest_host word (some_word count word is) is.fits))
]

starts_row : (count preferred : ℕ) (words : List ℕ) → All (IsWordOfSome count) words →
    (hosts : List HostId) × AllZip (StartsOn preferred) words hosts
starts_row count preferred [] all = ([], tt)
starts_row count preferred (word ∷ words) all =
    let first = starts_on count preferred word (all 0 word (omega arith)) in
    let rest = starts_row count preferred words (λ k d lt. all (suc k) d (omega arith)) in
    (first.0 ∷ rest.0, (first.1, rest.1))

abbrev HaveHosts : ℕ → AllowedShape → Type 0
HaveHosts count allowed = All (IsWordOfSome count) allowed.fields × All (IsWordOfSome count) allowed.statements

some_start : (count preferred : ℕ) (allowed : AllowedShape) → HaveHosts count allowed →
    (plan : PlanShape) × IsStartOf allowed preferred plan
some_start count preferred allowed have =
    let fields = starts_row count preferred allowed.fields have.0 in
    let statements = starts_row count preferred allowed.statements have.1 in (
      record { fields = fields.0; statements = statements.0 },
      record { fields = fields.1; statements = statements.1 },
    )

-- ---- the cheapest

-- of so many, and one more
next_more : (cost : PlanShape → ℕ) (allowed : AllowedShape) (tried : ℕ) (plan : PlanShape) →
    IsCheapestStart cost allowed (tried + 1) plan → IsCheapestStart cost allowed (suc tried) plan
next_more cost allowed tried plan found =
    let same : tried + 1 ≡ suc tried = omega arith in
    subst (λ n. IsCheapestStart cost allowed n plan) same found

cheapest : (cost : PlanShape → ℕ) (allowed : AllowedShape) (count : ℕ) → HaveHosts count allowed → (tried : ℕ) →
    (plan : PlanShape) × IsCheapestStart cost allowed (suc tried) plan
cheapest cost allowed count have zero =
    let start = some_start count 0 allowed have in
    (start.0, next_more cost allowed 0 start.0 (cheapest_one cost allowed start.0 start.1))
cheapest cost allowed count have (suc tried) =
    let best = cheapest cost allowed count have tried in
    let next = some_start count (suc tried) allowed have in
    elim (cases_lt (cost next.0) (cost best.0)) [
      | inl less ↦ (
        next.0,
        next_more cost allowed (suc tried) next.0
            (cheapest_next cost allowed (suc tried) _ _ best.0 next.0 best.1 refl next.1 refl less),
      )
      | inr more ↦ (
        best.0,
        next_more cost allowed (suc tried) best.0
            (cheapest_kept cost allowed (suc tried) _ _ best.0 next.0 best.1 refl next.1 refl more),
      )
    ]

some_cheapest : (cost : PlanShape → ℕ) (allowed : AllowedShape) (count : ℕ) → HaveHosts count allowed → 0 < count →
    (plan : PlanShape) × IsCheapestStart cost allowed count plan
some_cheapest cost allowed zero have some = absurd (omega arith)
some_cheapest cost allowed (suc tried) have some = cheapest cost allowed (suc tried) have tried

pub some_plan : (labelled : Labelled) (needs : NeedsShape) (hosts : HostsShape) (allowed : AllowedShape) →
    0 < length hosts.hosts → AreAllowed labelled needs hosts allowed → HaveHosts (length hosts.hosts) allowed →
    (plan : PlanShape) × IsPlaced labelled needs hosts allowed plan
some_plan labelled needs hosts allowed some words have =
    let cost = plan_cost labelled needs hosts in
    let count = length hosts.hosts in
    let found = some_cheapest cost allowed count have some in
    let last = some_lowered cost (steps_in count allowed) (suc (cost found.0)) found.0 (omega arith) in (
      last.0,
      record { words = words; choice = record { start = found.0; cheapest = found.1; lowered = last.1 } },
    )
