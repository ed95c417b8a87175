-- Every event keeps what holds of a world.
use Rattle.std.proofs.Common.{◌≡◌, ◌∙◌, ℕ, ℤ, true, false, List, arith, Some, ap, sym, subst}
use Rattle.std.specs.Prelude.{IfSome, All, ⊤}
use Rattle.std.proofs.lemmas.Bool.{false≢true}
use Rattle.js_base.specs.declared.ids.HostId.{HostId}
use Rattle.capability.specs.declared.token.Token.{Token}
use Rattle.host_decl.specs.Hosts as declared_hosts
use Rattle.host_code.specs.Sound.{IsSoundCode}
use Rattle.host_core.specs.Host.{HostState}
use Rattle.host_core.specs.Taking.{PassesCheck}
use Rattle.host_core.specs.Turn.{label_of_turn}
use Rattle.event_text.specs.declared.event.Event.{Event}
use Rattle.event_text.specs.declared.event.Event.TheVariants.{Take, Turn, Act}
use Rattle.event_text.specs.declared.event.BadMessage.{BadMessage}
use Rattle.net_world.specs.Fits.{ShapeFits, IsStateOf, OwnTokenIn, HasOwnToken}
use Rattle.net_world.specs.Flying.{Flight}
use Rattle.net_world.specs.Secret.{IsSecret}
use Rattle.net_world.specs.World.{WorldShape, IsStep, IsTakeStep, IsTurnStep, IsActStep, state_at, world_at_start}
use Rattle.net_world.specs.World.{with_state, without_flight, tokens_sent, misbehaves}
use Rattle.net_world.proofs.Moved.{moved_acted}
use Rattle.net_world.proofs.StepLaws.{absent_set, act_puts, same_misbehave}
use Rattle.std.specs.Prelude.{slice_get}
use Rattle.token_laws.specs.Reached.{IsReached}
use Rattle.token_laws.proofs.HeldLaws.{all_at}
use Rattle.token_laws.proofs.Walks.{reached, fits_there}
use Rattle.token_laws.proofs.Tests.{some_found}
use Rattle.seen_world.specs.Eyes.{Eyes, AreEyes, Watches}
use Rattle.seen_world.specs.Points.{IsHiddenToken, RunsWell, HostKeeps, IsAskedBy, FliesWell, ShowsNoHidden}
use Rattle.seen_world.specs.Points.{IsLabelledAs, IsCheckedByLabels, IsGrantedTo, IsInFlight, PointsHold}
use Rattle.seen_world.proofs.Answered.{answer_carries, made_carries, answer_shows}
use Rattle.seen_world.proofs.FlightsKept.{FlyAs, fly_without, fly_sent, tell_shown, send_shown, made_shown}
use Rattle.seen_world.proofs.Granted.{turn_granted, answer_granted, granted_passes}
use Rattle.seen_world.proofs.LabelsSent.{turn_labelled, answer_labelled, sent_in_flight}
use Rattle.seen_world.proofs.PointsAtStart.{Own, own_state, starts_keep}
use Rattle.seen_world.proofs.SeenPlaces.{some_is}
use Rattle.seen_world.proofs.SecretTurns.{held_by, sent_silent, secret_silent}
use Rattle.seen_world.proofs.SentWell.{turn_carries}
use Rattle.seen_world.proofs.TakesKept.{take_keeps, taken_world}
use Rattle.seen_world.proofs.TokensTold.{turn_shows}
use Rattle.seen_world.proofs.TurnsKept.{hosts_kept, turned_world}

abbrev IsShown : Eyes → Token → Type 0
IsShown eyes token = ¬ IsHiddenToken eyes token

-- who misbehaves after the step of a host did before
bad_before : (eyes : Eyes) (world : WorldShape) (host other : HostId) (old state : HostState) → Watches eyes world →
    state_at world host ≡ Some old → misbehaves (with_state world host state) other ≡ true →
    eyes.bad other ≡ true
bad_before eyes world host other old state watch there bad =
    sym (watch other) ∙ sym (absent_set world.hosts host.0 other.0 old state there) ∙ bad

-- ---- turns

turn_points : (eyes : Eyes) (world after : WorldShape) (host : HostId) → AreEyes eyes → IsSoundCode eyes.code →
    Watches eyes world → ShapeFits eyes.code world → PointsHold eyes world → IsTurnStep eyes.code world host after →
    PointsHold eyes after
turn_points eyes world after host are sound watch fits points step =
    let state = step.state in
    let sent = step.outcome.sent in
    let own = own_state eyes world host state watch fits points.hosts step.obeys in
    let thread = some_found state.running step.runs in
    let runs : RunsWell eyes state.me thread.0 =
    subst (λ one. IfSome one (RunsWell eyes state.me)) thread.1 own.keeps.running in
    let carries : (label : ℕ) → label_of_turn eyes.code state ≡ Some label →
    IfSome sent (λ it. IsInFlight eyes host it.0 (record { message = it.1; label = label })) =
    λ label is.
    subst (λ (me : HostId). IfSome sent (λ it. IsInFlight eyes me it.0 (record { message = it.1; label = label })))
    own.fit.me
    (sent_in_flight eyes are state.me label sent own.obeys
    (turn_carries eyes state thread.0 step.outcome are thread.1 runs step.turns)
    (turn_granted eyes state thread.0 step.outcome are thread.1 step.turns)
    (turn_labelled eyes state thread.0 step.outcome label are thread.1 runs step.turns is)) in
    let moved = with_state world host step.outcome.state in
    let shows : IfSome sent (λ it. misbehaves moved it.0 ≡ true → ShowsNoHidden eyes it.1) =
    held_by (λ it. eyes.bad it.0 ≡ true → ShowsNoHidden eyes it.1)
    (λ it. misbehaves moved it.0 ≡ true → ShowsNoHidden eyes it.1) sent
    (λ it shown bad. shown (bad_before eyes world host it.0 state step.outcome.state watch step.obeys bad))
    (turn_shows eyes state thread.0 step.outcome are thread.1 runs step.turns) in
    record {
      hosts = turned_world eyes world after host are sound watch fits points.hosts step;
      flying = subst (λ (w : WorldShape). FlyAs (IsInFlight eyes) w.flying) step.leaves
          (fly_sent (IsInFlight eyes) moved host (label_of_turn eyes.code state) sent points.flying carries);
      told = subst (λ (w : WorldShape). All (IsShown eyes) (tokens_sent w)) step.leaves
          (send_shown (IsShown eyes) moved host (label_of_turn eyes.code state) sent points.told shows);
    }

-- ---- takes

-- the answer goes to whoever sent the message, who obeys
record Answers (eyes : Eyes) (world : WorldShape) (from to : HostId) (place : ℕ) (after : WorldShape)
    (step : IsTakeStep eyes.code world from to place after) : Type 0 where
  flies : IsInFlight eyes from to step.flight
  own : Own eyes world to step.state
  sent : IfSome step.outcome.sent (λ it. (it.0 ≡ from) × FliesWell eyes step.state.me it.0 it.1)

answers_of : (eyes : Eyes) (world after : WorldShape) (from to : HostId) (place : ℕ) → AreEyes eyes →
    Watches eyes world → ShapeFits eyes.code world → PointsHold eyes world →
    (step : IsTakeStep eyes.code world from to place after) → Answers eyes world from to place after step
answers_of eyes world after from to place are watch fits points step =
    let own = own_state eyes world to step.state watch fits points.hosts step.obeys in
    let flies : IsInFlight eyes from to step.flight =
    all_at (IsInFlight eyes from to) (world.flying from to) place step.flight (points.flying from to) step.there in
    record {
      flies = flies;
      own = own;
      sent = answer_carries eyes step.state from step.flight.message step.outcome are own.obeys
          (subst (λ (me : HostId). IsAskedBy eyes from me step.flight.message) (sym own.fit.me) flies.well.0)
          step.takes;
    }

take_points : (eyes : Eyes) (world after : WorldShape) (from to : HostId) (place : ℕ) → AreEyes eyes →
    Watches eyes world → ShapeFits eyes.code world → PointsHold eyes world →
    IsTakeStep eyes.code world from to place after → PointsHold eyes after
take_points eyes world after from to place are watch fits points step =
    let state = step.state in
    let sent = step.outcome.sent in
    let answers = answers_of eyes world after from to place are watch fits points step in
    let own = answers.own in
    let flies = answers.flies in
    let carried : IfSome sent (λ it. FliesWell eyes state.me it.0 it.1) =
    held_by (λ it. (it.0 ≡ from) × FliesWell eyes state.me it.0 it.1) (λ it. FliesWell eyes state.me it.0 it.1) sent
    (λ it answer. answer.1) answers.sent in
    let carries : (label : ℕ) → Some step.flight.label ≡ Some label →
    IfSome sent (λ it. IsInFlight eyes to it.0 (record { message = it.1; label = label })) =
    λ label is.
    subst (λ (l : ℕ). IfSome sent (λ it. IsInFlight eyes to it.0 (record { message = it.1; label = l })))
    (some_is is)
    (subst (λ (me : HostId).
    IfSome sent (λ it. IsInFlight eyes me it.0 (record { message = it.1; label = step.flight.label }))) own.fit.me
    (sent_in_flight eyes are state.me step.flight.label sent own.obeys carried
    (answer_granted eyes state from step.flight.message step.outcome step.takes)
    (answer_labelled eyes state from step.flight.message step.outcome step.flight.label
    (subst (λ (me : HostId). IsLabelledAs eyes from me step.flight.message step.flight.label) (sym own.fit.me)
    flies.labelled) (λ sees. (flies.shows sees).1) step.takes))) in
    let left = without_flight world from to place in
    let moved = with_state left to step.outcome.state in
    let shows : IfSome sent (λ it. misbehaves moved it.0 ≡ true → ShowsNoHidden eyes it.1) =
    held_by (λ it. (it.0 ≡ from) × FliesWell eyes state.me it.0 it.1)
    (λ it. misbehaves moved it.0 ≡ true → ShowsNoHidden eyes it.1) sent
    (λ it answer bad. absurd (false≢true (sym flies.obeys ∙ ap eyes.bad (sym answer.0)
    ∙ bad_before eyes world to it.0 state step.outcome.state watch step.obeys bad))) answers.sent in
    record {
      hosts = taken_world eyes world after from to place step.flight are fits points.hosts step.there flies.well.1 step;
      flying = subst (λ (w : WorldShape). FlyAs (IsInFlight eyes) w.flying) step.leaves
          (fly_sent (IsInFlight eyes) moved to (Some step.flight.label) sent
          (fly_without (IsInFlight eyes) world from to place points.flying) carries);
      told = subst (λ (w : WorldShape). All (IsShown eyes) (tokens_sent w)) step.leaves
          (send_shown (IsShown eyes) moved to (Some step.flight.label) sent points.told shows);
    }

pub take_silent : (eyes : Eyes) (world after : WorldShape) (from to : HostId) (place : ℕ) → AreEyes eyes →
    Watches eyes world → ShapeFits eyes.code world → PointsHold eyes world →
    IsStep eyes.code world (Take from to place) after → after.sent ≡ world.sent
take_silent eyes world after from to place are watch fits points step =
    let state = step.state in
    let sent = step.outcome.sent in
    let answers = answers_of eyes world after from to place are watch fits points step in
    ap (λ (it : WorldShape). it.sent) (sym step.leaves)
    ∙ sent_silent eyes (without_flight world from to place) to state step.outcome.state (Some step.flight.label) sent
    watch step.obeys
    (held_by (λ it. (it.0 ≡ from) × FliesWell eyes state.me it.0 it.1) (λ it. eyes.bad it.0 ≡ false) sent
    (λ it answer. ap eyes.bad answer.0 ∙ answers.flies.obeys) answers.sent)

-- a request in flight passes its check
pub request_passes : (eyes : Eyes) (world : WorldShape) (from to : HostId) (place : ℕ) (flight : Flight)
    (state : HostState) → ShapeFits eyes.code world → PointsHold eyes world →
    slice_get (world.flying from to) place ≡ Some flight → state_at world to ≡ Some state →
    IsCheckedByLabels flight.message → PassesCheck eyes.code state from flight.message
request_passes eyes world from to place flight state fits points there obeys asks =
    let fit : IsStateOf eyes.code to state =
    subst (λ one. IfSome one (IsStateOf eyes.code to)) obeys (fits.states to) in
    let flies : IsInFlight eyes from to flight =
    all_at (IsInFlight eyes from to) (world.flying from to) place flight (points.flying from to) there in
    granted_passes eyes state from flight.message asks
    (subst (λ (me : HostId). IsGrantedTo eyes from me flight.message) (sym fit.me) flies.granted)

-- ---- acts

act_points : (eyes : Eyes) (world after : WorldShape) (from to : HostId) (made : BadMessage) → AreEyes eyes →
    IsSoundCode eyes.code → Watches eyes world → ShapeFits eyes.code world → OwnTokenIn world made →
    PointsHold eyes world → IsActStep eyes.code world from to made after → PointsHold eyes after
act_points eyes world after from to made are sound watch fits its points step =
    let state = step.state in
    let own = own_state eyes world to state watch fits points.hosts step.obeys in
    let bad : eyes.bad from ≡ true = sym (watch from) ∙ step.bad in
    let shows : ShowsNoHidden eyes step.message =
    made_shown (IsShown eyes) world made step.message points.told
    (λ token is one. false≢true (sym one.0 ∙ sym (watch token.host) ∙ is)) its step.makes in
    let kept : HostKeeps eyes state.me step.outcome.state =
    take_keeps eyes state from step.message step.outcome are own.keeps step.rests
    (λ passes. made_carries eyes state from step.message are sound own.fit.fits bad own.keeps shows passes)
    step.takes in
    let moved = with_state world to step.outcome.state in
    record {
      hosts = hosts_kept eyes world after to state step.outcome.state points.hosts step.obeys
          (act_puts eyes.code world after from to made step)
          (subst (λ (me : HostId). HostKeeps eyes me step.outcome.state) own.fit.me kept);
      flying = subst (FlyAs (IsInFlight eyes)) (sym (moved_acted world to step.outcome after step.leaves).flying)
          points.flying;
      told = subst (λ (w : WorldShape). All (IsShown eyes) (tokens_sent w)) step.leaves
          (tell_shown (IsShown eyes) moved to step.outcome.sent points.told
          (answer_shows eyes state from step.message step.outcome are bad step.takes));
    }

-- ---- all events

event_points : (eyes : Eyes) (world after : WorldShape) (event : Event) → AreEyes eyes → IsSoundCode eyes.code →
    Watches eyes world → ShapeFits eyes.code world → HasOwnToken world event → PointsHold eyes world →
    IsStep eyes.code world event after → PointsHold eyes after
event_points eyes world after (Take from to place) are sound watch fits its points step =
    take_points eyes world after from to place are watch fits points step
event_points eyes world after (Turn host) are sound watch fits its points step =
    turn_points eyes world after host are sound watch fits points step
event_points eyes world after (Act from to made) are sound watch fits its points step =
    act_points eyes world after from to made are sound watch fits its points step

pub points_kept : (eyes : Eyes) (rows : List declared_hosts.HostShape) (bad : ℕ) (store : List (List ℤ))
    (events : List Event) (world : WorldShape) → AreEyes eyes →
    Watches eyes (world_at_start eyes.code rows bad store) → IsReached eyes.code rows bad store events world →
    Watches eyes world × PointsHold eyes world
points_kept eyes rows bad store events world are watch reach =
    (reached eyes.code rows bad store events world (λ event. ⊤) (λ w. Watches eyes w × PointsHold eyes w) reach
    (λ k d lt. tt)
    (λ w after event fits own q step holds. (
      λ host. same_misbehave eyes.code w after event host step ∙ holds.0 host,
      event_points eyes w after event are reach.sound holds.0 fits own holds.1 step,
    )) (
      watch,
      record {
        hosts = starts_keep eyes rows bad store are reach.sound watch;
        flying = λ from to k d lt. absurd (omega arith);
        told = λ k d lt. absurd (omega arith);
      },
    )).1

-- ---- secret events

event_silent : (eyes : Eyes) (world after : WorldShape) (event : Event) → AreEyes eyes → Watches eyes world →
    ShapeFits eyes.code world → PointsHold eyes world → IsStep eyes.code world event after →
    IsSecret eyes.code world event → after.sent ≡ world.sent
event_silent eyes world after (Take from to place) are watch fits points step secret =
    take_silent eyes world after from to place are watch fits points step
event_silent eyes world after (Turn host) are watch fits points step secret =
    secret_silent eyes world after host are watch fits points.hosts step secret
event_silent eyes world after (Act from to made) are watch fits points step secret = absurd secret

pub secret_events : (eyes : Eyes) (rows : List declared_hosts.HostShape) (bad : ℕ) (store : List (List ℤ))
    (events : List Event) (world after : WorldShape) (event : Event) → AreEyes eyes →
    Watches eyes (world_at_start eyes.code rows bad store) → IsReached eyes.code rows bad store events world →
    IsStep eyes.code world event after → IsSecret eyes.code world event → after.sent ≡ world.sent
secret_events eyes rows bad store events world after event are watch reach step secret =
    let holds = points_kept eyes rows bad store events world are watch reach in
    event_silent eyes world after event are holds.0 (fits_there eyes.code rows bad store events world reach) holds.1
    step secret
