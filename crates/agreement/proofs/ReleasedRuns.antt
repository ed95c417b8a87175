-- What events release: those that may not be seen nothing, one that happens in two quiet worlds which agree as many
-- values in both, and those of a run one list of values.
use Rattle.std.proofs.Common.{◌≡◌, ◌∙◌, ℕ, List, [], ◌∷◌, ◌++◌, length, map, inl, inr, refl, ap, sym}
use Rattle.std.specs.Prelude.{ℤ, Option, Some, None, IfSome, IsSomeAnd}
use Rattle.std.proofs.lemmas.List.{length-map}
use Rattle.js_base.specs.declared.ids.HostId.{HostId}
use Rattle.host_decl.specs.Hosts as declared_hosts
use Rattle.host_code.specs.declared.code_expr.Node.{Node}
use Rattle.host_code.specs.Code.{CodeShape}
use Rattle.host_code.specs.Thread.{ThreadShape}
use Rattle.host_core.specs.Host.{HostState, value_in_thread}
use Rattle.host_core.specs.Turn.{label_of_turn}
use Rattle.event_text.specs.declared.event.Event.{Event}
use Rattle.event_text.specs.declared.event.Event.TheVariants.{Take, Turn, Act}
use Rattle.net_world.specs.Released.{released_by_thread, released_by_host, released_at, Releases, AreReleased}
use Rattle.net_world.specs.Secret.{IsReadable, IsSecret, IsQuiet, IsSeenRun}
use Rattle.net_world.specs.World.{WorldShape, state_at, IsStep, IsRun, world_at_start}
use Rattle.net_world.proofs.ReleasedValues.{secret_releases, some_released, releases_once}
use Rattle.net_world.proofs.ReleasedValues.{released_first, released_once}
use Rattle.split_rules.specs.Releases.{ReleasesShape, operands_at}
use Rattle.token_laws.specs.Reached.{IsReached}
use Rattle.token_laws.proofs.Tests.{some_found}
use Rattle.seen_world.specs.Eyes.{Eyes, AreEyes, Watches}
use Rattle.agreement.specs.Leads.{Agree}
use Rattle.agreement.proofs.ReleasedTurns.{released_is}
use Rattle.agreement.proofs.SeenAgree.{reached_calm, twins_of}

-- ---- one event

-- an event that may not be seen releases nothing
pub secret_none : (code : CodeShape) (table : ReleasesShape) (world : WorldShape) (event : Event)
    (values : List ℤ) → IsSecret code world event → Releases code table world event values → values ≡ []
secret_none code table world event values secret releases =
    releases_once code table world event values [] releases (secret_releases code table world event secret)

-- no turn of a quiet world is secret
quiet_turn : (code : CodeShape) (world : WorldShape) (host : HostId) → IsQuiet code world →
    ¬ (IsSecret code world (Turn host))
quiet_turn code world host quiet secret = of_host (state_at world host) refl secret
  where
    of_label : (found : Option ℕ) → IfSome found (IsReadable code world) →
        IsSomeAnd found (λ label. ¬ IsReadable code world label) → ⊥
    of_label None read unread = unread
    of_label (Some label) read unread = unread read

    of_host : (found : Option HostState) → state_at world host ≡ found →
        IsSomeAnd found (λ state. IsSomeAnd (label_of_turn code state) (λ label. ¬ IsReadable code world label)) → ⊥
    of_host None is unread = unread
    of_host (Some state) is unread = of_label (label_of_turn code state) (quiet.running host state is) unread

pub quiet_releases : (code : CodeShape) (table : ReleasesShape) (world : WorldShape) (host : HostId)
    (values : List ℤ) → IsQuiet code world → Releases code table world (Turn host) values →
    values ≡ released_at table world host
quiet_releases code table world host values quiet (inl unseen) = absurd (quiet_turn code world host quiet unseen.0)
quiet_releases code table world host values quiet (inr seen) = seen.1

-- ---- two worlds

-- as many values as the instruction at one place has operands
pub as_many : (eyes : Eyes) (rows : List declared_hosts.HostShape) (bad : ℕ) (store start : List (List ℤ))
    (events others : List Event) (one other one_after other_after : WorldShape) (event : Event) (table : ReleasesShape)
    (own others_own : List ℤ) → AreEyes eyes → Watches eyes (world_at_start eyes.code rows bad store) →
    Watches eyes (world_at_start eyes.code rows bad start) → IsReached eyes.code rows bad store events one →
    IsReached eyes.code rows bad start others other → IsStep eyes.code one event one_after →
    IsStep eyes.code other event other_after → IsQuiet eyes.code one → IsQuiet eyes.code other →
    Agree eyes one other → Releases eyes.code table one event own → Releases eyes.code table other event others_own →
    length own ≡ length others_own
as_many eyes rows bad store start events others one other one_after other_after (Take from to place) table own
    others_own are watch watch_other reach reach_other step twin quiet quiet_other agree releases releases_other =
    ap length (releases ∙ sym releases_other)
as_many eyes rows bad store start events others one other one_after other_after (Turn host) table own others_own are
    watch watch_other reach reach_other step twin quiet quiet_other agree releases releases_other =
    let now = agree.shown in
    let calm = reached_calm eyes rows bad store events one now are watch reach quiet agree.first in
    let calm_other =
    reached_calm eyes rows bad start others other now are watch_other reach_other quiet_other agree.second in
    let runs = some_found step.state.running step.runs in
    let runs_other = some_found twin.state.running twin.runs in
    let twins = twins_of eyes one other now host step.state twin.state runs.0 runs_other.0 calm.0 calm_other.0 calm.1
    calm_other.1 step.obeys twin.obeys runs.1 runs_other.1 in
    let operands = operands_at table host in
    ap length (quiet_releases eyes.code table one host own quiet releases
    ∙ released_is table one host step.state runs.0 step.obeys runs.1)
    ∙ length-map (operands runs.0.at) (value_in_thread step.state runs.0)
    ∙ ap (λ n. length (operands n)) (sym twins.place)
    ∙ sym (length-map (operands runs_other.0.at) (value_in_thread twin.state runs_other.0))
    ∙ sym (ap length (quiet_releases eyes.code table other host others_own quiet_other releases_other
    ∙ released_is table other host twin.state runs_other.0 twin.obeys runs_other.1))
as_many eyes rows bad store start events others one other one_after other_after (Act from to made) table own others_own
    are watch watch_other reach reach_other step twin quiet quiet_other agree releases releases_other =
    ap length (releases ∙ sym releases_other)

-- ---- one run

-- events of which some may be seen are a run
seen_ran : (code : CodeShape) (world : WorldShape) (events seen : List Event) (after : WorldShape) →
    IsSeenRun code world events seen after → IsRun code world events after
seen_ran code world [] seen after ran = ran.1
seen_ran code world (event ∷ events) seen after (next, step, inl secret) =
    (next, step, seen_ran code next events seen after secret.1)
seen_ran code world (event ∷ events) seen after (next, step, inr visible) =
    (next, step, seen_ran code next events visible.1.0 after visible.1.2)

pub run_releases : (code : CodeShape) (table : ReleasesShape) (world : WorldShape) (events seen : List Event)
    (after : WorldShape) → IsSeenRun code world events seen after →
    (values : List ℤ) × AreReleased code table world events values
run_releases code table world [] seen after ran = ([], refl)
run_releases code table world (event ∷ events) seen after (next, step, inl secret) =
    let rest = run_releases code table next events seen after secret.1 in (
      rest.0,
      released_first code table world next event events [] rest.0 step
          (secret_releases code table world event secret.0) rest.1,
    )
run_releases code table world (event ∷ events) seen after (next, step, inr visible) =
    let own = some_released code table world event (inr visible.0) in
    let rest = run_releases code table next events visible.1.0 after visible.1.2 in
    (own.0 ++ rest.0, released_first code table world next event events own.0 rest.0 step own.1 rest.1)

pub run_releases_once : (code : CodeShape) (table : ReleasesShape) (world : WorldShape) (events seen : List Event)
    (after : WorldShape) (values others : List ℤ) → IsSeenRun code world events seen after →
    AreReleased code table world events values → AreReleased code table world events others → values ≡ others
run_releases_once code table world events seen after values others ran first second =
    released_once code table world after events values others (seen_ran code world events seen after ran) first second

-- ---- a table without operands

abbrev pub HasNoOperand : ReleasesShape → Type 0
HasNoOperand table = (host : HostId) (place : ℕ) → operands_at table host place ≡ []

none_by_thread : (table : ReleasesShape) → HasNoOperand table → (host : HostId) (state : HostState)
    (running : Option ThreadShape) → released_by_thread table host state running ≡ []
none_by_thread table none host state None = refl
none_by_thread table none host state (Some thread) =
    ap (λ (operands : List (List Node)). map (value_in_thread state thread) operands) (none host thread.at)

none_by_host : (table : ReleasesShape) → HasNoOperand table → (host : HostId) (found : Option HostState) →
    released_by_host table host found ≡ []
none_by_host table none host None = refl
none_by_host table none host (Some state) = none_by_thread table none host state state.running

-- what may be seen releases nothing by it
seen_none : (code : CodeShape) (table : ReleasesShape) → HasNoOperand table → (world : WorldShape) (event : Event) →
    ¬ (IsSecret code world event) → Releases code table world event []
seen_none code table none world (Take from to place) seen = refl
seen_none code table none world (Turn host) seen =
    inr (seen, sym (none_by_host table none host (state_at world host)))
seen_none code table none world (Act from to made) seen = refl

-- and so no run does
pub no_releases : (code : CodeShape) (table : ReleasesShape) → HasNoOperand table → (world : WorldShape)
    (events seen : List Event) (after : WorldShape) → IsSeenRun code world events seen after →
    AreReleased code table world events []
no_releases code table none world [] seen after ran = refl
no_releases code table none world (event ∷ events) seen after (next, step, inl secret) =
    released_first code table world next event events [] [] step (secret_releases code table world event secret.0)
    (no_releases code table none next events seen after secret.1)
no_releases code table none world (event ∷ events) seen after (next, step, inr visible) =
    released_first code table world next event events [] [] step (seen_none code table none world event visible.0)
    (no_releases code table none next events visible.1.0 after visible.1.2)
