-- In a quiet world nothing goes on unseen, and what will be seen is seen now.
use Rattle.std.proofs.Common.{◌≡◌, ◌∙◌, suc, Bool, true, false, List, [], ◌∷◌, arith, Option, Some, None}
use Rattle.std.proofs.Common.{refl, ap, sym, subst}
use Rattle.std.specs.Prelude.{◌==◌, ◌&&◌, if◌then◌else◌, not, IfSome, All, filter}
use Rattle.js_base.specs.declared.ids.HostId.{HostId}
use Rattle.host_code.specs.declared.instruction.Instr.{Instr}
use Rattle.host_code.specs.Code.{instruction_at}
use Rattle.host_code.specs.Thread.{ThreadShape}
use Rattle.host_core.specs.Fits.{RunningFits}
use Rattle.host_core.specs.Host.{HostState}
use Rattle.host_core.specs.Turn.{label_of_turn}
use Rattle.net_world.specs.Fits.{ShapeFits, IsStateOf}
use Rattle.net_world.specs.Flying.{Flight}
use Rattle.net_world.specs.Secret.{IsReadable, RunsOpenly, IsQuiet}
use Rattle.net_world.specs.World.{WorldShape, state_at}
use Rattle.token_laws.proofs.Tests.{itself, some_found}
use Rattle.seen_world.specs.Eyes.{Eyes, AreEyes, Watches, sees_at, is_open}
use Rattle.seen_world.proofs.SeenWorlds.{label_read}
use Rattle.agreement.specs.Leads.{UnseenHolder, nobody, runs, waits, flies, runs_on, flies_on, HiddenEntry}
use Rattle.agreement.specs.Leads.{hidden_running}
use Rattle.agreement.specs.Leads.{hidden_waiting, Hides, HeldAt, IsPresent, Owes, Leads}
use Rattle.agreement.specs.Views.{LowView, Shows, nowhere, OwedInView, nothing, Completed, flies_open, is_shown}
use Rattle.agreement.proofs.Lists.{left_first}
use Rattle.agreement.proofs.Places.{instruction_within}

pub none_left : {X : Type 0} (p : X → Bool) (xs : List X) → All (λ x. p x ≡ false) xs → filter p xs ≡ []
none_left p [] all = refl
none_left p (x ∷ xs) all =
    left_first p x xs (all 0 x (omega arith)) ∙ none_left p xs (λ k d lt. all (suc k) d (omega arith))

-- ---- who goes on unseen

no_flight : (from to : HostId) (flight : Flight) (holder : UnseenHolder) →
    [] ≡ (if from.0 == from.0 && to.0 == to.0 then flight ∷ [] else []) → holder ≡ nobody
no_flight from to flight holder is =
    let one : (from.0 == from.0 && to.0 == to.0) ≡ true =
    ap (λ (b : Bool). b && to.0 == to.0) (itself from.0) ∙ itself to.0 in
    let never : [] ≡ flight ∷ [] = is ∙ ap (λ (b : Bool). if b then flight ∷ [] else []) one in
    absurd (cc)

nobody_then : (eyes : Eyes) (world : WorldShape) (holder : UnseenHolder) → ((i j : HostId) → [] ≡ flies_on holder i j) →
    IsPresent world holder →
    ((host : HostId) (state : HostState) → state_at world host ≡ Some state → None ≡ runs_on holder host) →
    holder ≡ nobody
nobody_then eyes world nobody none present each = refl
nobody_then eyes world (runs host thread) none present each =
    let there = some_found (state_at world host) present in
    let never : None ≡ Some thread =
    each host there.0 there.1 ∙ ap (λ (b : Bool). if b then Some thread else None) (itself host.0) in
    absurd (cc)
nobody_then eyes world (waits host waiting from to flight) none present each =
    no_flight from to flight (waits host waiting from to flight) (none from to)
nobody_then eyes world (flies from to flight) none present each =
    no_flight from to flight (flies from to flight) (none from to)

turn_label : (eyes : Eyes) (state : HostState) (thread : ThreadShape) (there : Instr) → state.running ≡ Some thread →
    instruction_at eyes.code state.me thread.at ≡ Some there → label_of_turn eyes.code state ≡ Some there.label
turn_label eyes state thread there is at_place = rw (is, at_place) refl

-- a thread that runs may be seen
pub runs_seen : (eyes : Eyes) (world : WorldShape) (host : HostId) (state : HostState) → AreEyes eyes →
    Watches eyes world → IsStateOf eyes.code host state → RunsOpenly eyes.code world state →
    (running : Option ThreadShape) → state.running ≡ running → hidden_running eyes host running ≡ None
runs_seen eyes world host state are watch fit openly None is = refl
runs_seen eyes world host state are watch fit openly (Some thread) is =
    let fits : RunningFits eyes.code state.me thread =
    subst (λ one. IfSome one (RunningFits eyes.code state.me)) is fit.fits.running in
    let there = instruction_within eyes state.me thread.at fits.place in
    let label : label_of_turn eyes.code state ≡ Some there.0.label = turn_label eyes state thread there.0 is there.1 in
    let read : IsReadable eyes.code world there.0.label =
    subst (λ found. IfSome found (IsReadable eyes.code world)) label openly in
    let same : sees_at eyes there.0.label ≡ is_open eyes state.me thread.at =
    rw (are.shaded.instructions state.me thread.at there.0 there.1).label_is refl in
    let seen : is_open eyes host thread.at ≡ true =
    ap (λ (h : HostId). is_open eyes h thread.at) (sym fit.me) ∙ sym same
    ∙ (label_read eyes world there.0.label are watch).1 read in
    ap (λ (b : Bool). if b then None else Some thread) seen

-- ---- what is owed

owed_nothing : (eyes : Eyes) (links : List HiddenEntry) (owed : OwedInView) → Owes eyes nowhere links owed →
    (links ≡ []) × (owed ≡ nothing)
owed_nothing eyes [] owed owes = (refl, sym owes)
owed_nothing eyes (link ∷ links) owed owes = absurd owes.0

pub quiet_shows : (eyes : Eyes) (world : WorldShape) (shown : LowView) → AreEyes eyes → Watches eyes world →
    ShapeFits eyes.code world → IsQuiet eyes.code world → Leads eyes world shown →
    Shows eyes world shown × ((host : HostId) (state : HostState) → state_at world host ≡ Some state →
    (hidden_waiting eyes host state.waiting ≡ []) × (state.entries ≡ filter (is_shown eyes) state.entries))
quiet_shows eyes world shown are watch fits quiet leads =
    let keeps = leads.keeps in
    let flies_none : (i j : HostId) → [] ≡ flies_on keeps.holder i j =
    λ i j. sym (none_left (λ one. not (flies_open eyes one)) (world.flying i j) (λ k d lt.
    ap not ((label_read eyes world _ are watch).1 (quiet.flying i j k d lt)))) ∙ keeps.flying i j in
    let holder : keeps.holder ≡ nobody = nobody_then eyes world keeps.holder flies_none keeps.present (λ host state
    there.
    sym (runs_seen eyes world host state are watch
    (subst (λ one. IfSome one (IsStateOf eyes.code host)) there (fits.states host)) (quiet.running host state there)
    state.running refl) ∙ (keeps.hides host state there).running) in
    let spot : keeps.spot ≡ nowhere = subst (λ h. HeldAt eyes h keeps.spot) holder keeps.held in
    let out = owed_nothing eyes keeps.links leads.owed
    (subst (λ s. Owes eyes s keeps.links leads.owed) spot keeps.owes) in
    let done : shown ≡ leads.now = subst (λ o. Completed eyes o leads.now shown) out.1 leads.completed in (
      subst (Shows eyes world) (sym done) leads.shows,
      λ host state there.
          let hides : Hides eyes nobody [] host state =
          subst (λ chain. Hides eyes nobody chain host state) out.0
          (subst (λ h. Hides eyes h keeps.links host state) holder (keeps.hides host state there)) in
          (hides.waiting, hides.entries),
    )

-- and the other way
pub calm_leads : (eyes : Eyes) (world : WorldShape) (shown : LowView) → AreEyes eyes → Watches eyes world →
    ShapeFits eyes.code world → IsQuiet eyes.code world → Shows eyes world shown →
    ((host : HostId) (state : HostState) → state_at world host ≡ Some state →
    (hidden_waiting eyes host state.waiting ≡ []) × (state.entries ≡ filter (is_shown eyes) state.entries)) →
    Leads eyes world shown
calm_leads eyes world shown are watch fits quiet shows calm = record {
  owed = nothing;
  keeps = record {
    holder = nobody;
    links = [];
    present = tt;
    hides = λ host state there. record {
      running = runs_seen eyes world host state are watch
          (subst (λ one. IfSome one (IsStateOf eyes.code host)) there (fits.states host))
          (quiet.running host state there) state.running refl;
      waiting = (calm host state there).0;
      entries = (calm host state there).1;
    };
    flying = λ i j. none_left (λ one. not (flies_open eyes one)) (world.flying i j) (λ k d lt.
        ap not ((label_read eyes world _ are watch).1 (quiet.flying i j k d lt)));
    spot = nowhere;
    held = refl;
    owes = refl;
    well = tt;
  };
  now = shown;
  shows = shows;
  completed = refl;
}
