-- What a quiet world leads to, where a message is taken that may be seen.
use Rattle.std.proofs.Common.{◌≡◌, ◌∙◌, ℕ, Bool, true, false, List, [], ◌∷◌, ◌++◌, Some, inl, inr, refl}
use Rattle.std.proofs.Common.{ap, sym, subst}
use Rattle.std.specs.Prelude.{ℤ, if◌then◌else◌, IfSome}
use Rattle.std.proofs.lemmas.Bool.{false≢true}
use Rattle.js_base.specs.declared.ids.HostId.{HostId}
use Rattle.host_decl.specs.Hosts as declared_hosts
use Rattle.host_code.specs.declared.message.Message.{Message}
use Rattle.host_core.specs.Fits.{StateFits}
use Rattle.host_core.specs.Host.{HostState, Outcome, with_message}
use Rattle.event_text.specs.declared.event.Event.{Event}
use Rattle.event_text.specs.declared.event.Event.TheVariants.{Take}
use Rattle.net_world.specs.Fits.{IsStateOf}
use Rattle.net_world.specs.Secret.{IsQuiet}
use Rattle.net_world.specs.World.{WorldShape, state_at, without_flight, after_step, IsTakeStep, world_at_start}
use Rattle.net_world.proofs.Moved.{Moved, mover_state}
use Rattle.net_world.proofs.Shapes.{shape_step}
use Rattle.net_world.proofs.StepLaws.{take_puts}
use Rattle.token_laws.specs.Reached.{IsReached}
use Rattle.token_laws.proofs.HeldLaws.{all_at}
use Rattle.token_laws.proofs.Walks.{fits_there, one_more}
use Rattle.seen_world.specs.Eyes.{Eyes, AreEyes, Watches, sees_at}
use Rattle.seen_world.specs.Points.{HostKeeps, IsInFlight}
use Rattle.seen_world.proofs.PointsAtStart.{own_state}
use Rattle.seen_world.proofs.PointsKept.{points_kept}
use Rattle.agreement.specs.Leads.{Leads}
use Rattle.agreement.specs.Taken.{carried_taken, view_without, SeenMessage, SeenTake}
use Rattle.agreement.specs.Views.{LowView, flies_open}
use Rattle.agreement.specs.Views.{flight_view, message_view}
use Rattle.agreement.proofs.Queues.{seen_there, taken_calm, flight_seen}
use Rattle.agreement.proofs.SeenLeads.{Calm, quiet_calm, arrived_leads, rested_leads}
use Rattle.agreement.proofs.SeenSendings.{sent_leads}
use Rattle.agreement.proofs.SeenTakes.{Receives, Answers, TakeEnds, message_seen}

-- ---- an answer

-- an answer to an obeying host is in flight then
answers_leads : (eyes : Eyes) (world after : WorldShape) (old : HostState) (from : HostId) (label : ℕ)
    (outcome : Outcome) (now seen : LowView) → Calm eyes world now → Watches eyes world →
    state_at world old.me ≡ Some old → sees_at eyes label ≡ true → eyes.bad from ≡ false →
    after_step world old.me outcome (Some label) ≡ after → Answers eyes old from label now outcome seen →
    Leads eyes after seen
answers_leads eyes world after old from label outcome now seen calm watch obeys opens good leaves answers =
    let said = answers.said in
    let masked_one : answers.seen_said ≡ message_view eyes old.me from said =
    answers.masks ∙ ap (λ (b : Bool). if b then said else message_view eyes old.me from said) good in
    let is : with_message outcome.state from said ≡ outcome =
    ap (λ s. record { state = outcome.state; sent = s }) (sym answers.sends) in
    subst (Leads eyes after) (sym answers.seen)
    (sent_leads eyes world after old outcome.state answers.shown outcome from said answers.seen_said (Some label) label
    now calm watch obeys answers.rested opens refl (sym masked_one) (λ bad. absurd (false≢true (sym good ∙ bad))) is
    leaves)

-- ---- a take

-- what is known of a host once it took a message
pub record Took (eyes : Eyes) (me : HostId) (outcome : Outcome) : Type 0 where
  pub fits : StateFits eyes.code outcome.state
  pub keeps : HostKeeps eyes me outcome.state

-- A message that may be seen, of an obeying host, is taken in a world in which it is no longer in flight.
record Taking (eyes : Eyes) (world after : WorldShape) (from : HostId) (state : HostState) (said : Message) (label : ℕ)
    (outcome : Outcome) (now : LowView) : Type 0 where
  calm : Calm eyes world now
  watch : Watches eyes world
  there : state_at world state.me ≡ Some state
  opens : sees_at eyes label ≡ true
  good : eyes.bad from ≡ false
  got : Receives eyes state from said now
  leaves : after_step world state.me outcome (Some label) ≡ after
  took : Took eyes state.me outcome

ends_lead : (eyes : Eyes) (world after : WorldShape) (from : HostId) (state : HostState) (said : Message) (label : ℕ)
    (outcome : Outcome) (now seen : LowView) → Taking eyes world after from state said label outcome now →
    TakeEnds eyes state from label now outcome seen → Leads eyes after seen
ends_lead eyes world after from state said label outcome now seen take (inl arrives) =
    arrived_leads eyes world after state outcome now seen (Some label) take.got.are take.calm take.there take.leaves
    take.took.fits take.took.keeps arrives
ends_lead eyes world after from state said label outcome now seen take (inr (inl rests)) =
    rested_leads eyes world after state outcome now seen (Some label) take.calm take.there take.leaves rests
ends_lead eyes world after from state said label outcome now seen take (inr (inr answers)) =
    answers_leads eyes world after state from label outcome now seen take.calm take.watch take.there take.opens
    take.good take.leaves answers

pub reached_takes : (eyes : Eyes) (rows : List declared_hosts.HostShape) (bad : ℕ) (store : List (List ℤ))
    (events : List Event) (world after : WorldShape) (from to : HostId) (place : ℕ) (now : LowView)
    (step : IsTakeStep eyes.code world from to place after) → AreEyes eyes →
    Watches eyes (world_at_start eyes.code rows bad store) → IsReached eyes.code rows bad store events world →
    IsQuiet eyes.code world → Leads eyes world now →
    (seen : LowView)
    × SeenTake eyes now from to place (carried_taken eyes step.state from step.flight.message) seen
    × Leads eyes after seen
reached_takes eyes rows bad store events world after from to place now step are watch reach quiet leads =
    let points = points_kept eyes rows bad store events world are watch reach in
    let fits = fits_there eyes.code rows bad store events world reach in
    let calm = quiet_calm eyes world now are points.0 fits quiet leads in
    let then_reached = one_more eyes.code rows bad store events world after (Take from to place) reach tt step in
    let then_points = points_kept eyes rows bad store (events ++ Take from to place ∷ []) after are watch
    then_reached in
    let fits_after = shape_step eyes.code world after (Take from to place) reach.sound fits tt step in
    let state = step.state in
    let flight = step.flight in
    let outcome = step.outcome in
    let own = own_state eyes world to state points.0 fits points.1.hosts step.obeys in
    let me : state.me ≡ to = own.fit.me in
    let moved : Moved world to outcome.state after.flying after =
    record { hosts = take_puts eyes.code world after from to place step; flying = refl } in
    let after_me : state_at after to ≡ Some outcome.state =
    mover_state world after to state outcome.state after.flying step.obeys moved in
    let fit : IsStateOf eyes.code to outcome.state =
    subst (λ one. IfSome one (IsStateOf eyes.code to)) after_me (fits_after.states to) in
    let flies : IsInFlight eyes from to flight =
    all_at (IsInFlight eyes from to) (world.flying from to) place flight (points.1.flying from to) step.there in
    let opens : sees_at eyes flight.label ≡ true =
    seen_there (flies_open eyes) (world.flying from to) place flight step.there (calm.flying from to) in
    let left = without_flight world from to place in
    let left_now = view_without now from to place in
    let left_calm = taken_calm eyes world from to place flight now calm step.there in
    let there : state_at left state.me ≡ Some state = ap (state_at world) me ∙ step.obeys in
    let take : Taking eyes left after from state flight.message flight.label outcome left_now = record {
      calm = left_calm;
      watch = points.0;
      there = there;
      opens = opens;
      good = flies.obeys;
      got = record {
        are = are;
        obeys = own.obeys;
        keeps = own.keeps;
        fits = own.fit.fits;
        rests = step.rests;
        waits = left_calm.waiting state.me state there;
        entries = left_calm.entries state.me state there;
        shows = left_calm.shows.hosts state.me state there;
        plain = (flies.shows opens).0;
        fresh = λ passes. (flies.shows opens).1;
      };
      leaves = ap (λ (h : HostId). after_step left h outcome (Some flight.label)) me ∙ step.leaves;
      took = record {
        fits = fit.fits;
        keeps = subst (λ (h : HostId). HostKeeps eyes h outcome.state) (sym me)
            (then_points.1.hosts to outcome.state after_me);
      };
    } in
    let done = message_seen eyes state from flight.label left_now flight.message outcome take.got take.took.fits
    take.took.keeps step.takes.0 step.takes.1 step.takes.2 in (
      done.0,
      record {
        flight = flight_view eyes from to flight;
        there = flight_seen eyes world from to place flight now calm step.there;
        seen = subst (λ (h : HostId). SeenMessage eyes left_now from h flight.label
            (message_view eyes from h flight.message) (carried_taken eyes state from flight.message) done.0) me done.1;
      },
      ends_lead eyes left after from state flight.message flight.label outcome left_now done.0 take done.2,
    )
