-- What a step leads to that leaves nothing running on its host, and sends a message.
use Rattle.std.proofs.Common.{◌≡◌, ◌∙◌, ℕ, Bool, true, false, List, [], ◌∷◌, ◌++◌, Option, Some, None, inl, inr, refl}
use Rattle.std.proofs.Common.{ap, sym, subst}
use Rattle.std.specs.Prelude.{ℤ, ◌==◌, ◌&&◌, ◌↔◌, if◌then◌else◌, not, filter, map, IsTrue}
use Rattle.std.proofs.lemmas.List.{map-append}
use Rattle.js_base.specs.declared.ids.HostId.{HostId}
use Rattle.capability.specs.declared.token.Token.{Token}
use Rattle.host_code.specs.declared.instruction.Instr.{Instr}
use Rattle.host_code.specs.declared.message.Message.{Message}
use Rattle.host_code.specs.Code.{instruction_at}
use Rattle.host_code.specs.Thread.{ThreadShape}
use Rattle.host_core.specs.Host.{HostState, Outcome, with_running, with_message}
use Rattle.host_core.specs.Turn.{after_operation}
use Rattle.host_core.specs.Turn.{IsTurn, IsTurnOf, IsRunning, PassesWith, label_of_turn}
use Rattle.net_world.specs.Flying.{Flight, Flying, with_flights}
use Rattle.net_world.specs.World.{WorldShape, state_at, after_step, IsStep, world_at_start}
use Rattle.net_world.specs.Secret.{IsQuiet}
use Rattle.event_text.specs.declared.event.Event.{Event}
use Rattle.event_text.specs.declared.event.Event.TheVariants.{Turn}
use Rattle.host_decl.specs.Hosts as declared_hosts
use Rattle.token_laws.specs.Reached.{IsReached}
use Rattle.token_laws.proofs.Walks.{fits_there}
use Rattle.net_world.proofs.Moved.{Moved, either, moved_told, moved_posted}
use Rattle.net_world.proofs.Present.{same_id}
use Rattle.token_laws.proofs.Tests.{parts_same, number_same}
use Rattle.seen_world.specs.Eyes.{Eyes, AreEyes, Watches, sees_at, is_open}
use Rattle.seen_world.proofs.PointsAtStart.{own_state}
use Rattle.seen_world.proofs.PointsKept.{points_kept}
use Rattle.seen_world.proofs.SeenPlaces.{some_is}
use Rattle.agreement.specs.Handing.{sent_view}
use Rattle.agreement.specs.Leads.{nobody, Leads, Hides, hidden_flights, hidden_running, hidden_waiting}
use Rattle.agreement.specs.Views.{LowView, HostView, ShowsHost, nowhere, nothing, with_host, flies_open, flight_view}
use Rattle.agreement.specs.Views.{flights_view, message_view, thread_view, is_shown}
use Rattle.agreement.proofs.Branches.{own_view, other_view}
use Rattle.agreement.proofs.Lists.{left_last, kept_last}
use Rattle.agreement.proofs.SeenLeads.{Calm, quiet_calm, visible_of, seen_thread}
use Rattle.agreement.proofs.Turns.{IsHere}
use Rattle.agreement.proofs.SeenTurns.{Visible}

-- ---- what is in flight

posted_hidden : (eyes : Eyes) (flying : Flying) (from to : HostId) (flight : Flight) → flies_open eyes flight ≡ true →
    ((i j : HostId) → hidden_flights eyes (flying i j) ≡ []) → (i j : HostId) →
    hidden_flights eyes (with_flights flying from to (flying from to ++ flight ∷ []) i j) ≡ []
posted_hidden eyes flying from to flight opens none i j = by (i.0 == from.0 && j.0 == to.0)
  where
    by : (b : Bool) → hidden_flights eyes (if b then flying from to ++ flight ∷ [] else flying i j) ≡ []
    by true = left_last (λ one. not (flies_open eyes one)) (flying from to) flight (ap not opens) ∙ none from to
    by false = none i j

posted_seen : (eyes : Eyes) (flying seen : Flying) (from to : HostId) (flight : Flight) (shown : Message) →
    flies_open eyes flight ≡ true → message_view eyes from to flight.message ≡ shown →
    ((i j : HostId) → flights_view eyes i j (flying i j) ≡ seen i j) → (i j : HostId) →
    flights_view eyes i j (with_flights flying from to (flying from to ++ flight ∷ []) i j)
    ≡ with_flights seen from to (seen from to ++ record flight { message = shown } ∷ []) i j
posted_seen eyes flying seen from to flight shown opens is_shown same i j =
    by (i.0 == from.0 && j.0 == to.0) refl
  where
    own : flights_view eyes from to (flying from to ++ flight ∷ [])
        ≡ seen from to ++ record flight { message = shown } ∷ []
    own =
        ap (map (flight_view eyes from to)) (kept_last (flies_open eyes) (flying from to) flight opens)
        ∙ map-append (flight_view eyes from to) (filter (flies_open eyes) (flying from to)) (flight ∷ [])
        ∙ ap (λ all. all ++ flight_view eyes from to flight ∷ []) (same from to)
        ∙ ap (λ m. seen from to ++ record flight { message = m } ∷ []) is_shown

    by : (b : Bool) → (i.0 == from.0 && j.0 == to.0) ≡ b →
        flights_view eyes i j (if b then flying from to ++ flight ∷ [] else flying i j)
        ≡ (if b then seen from to ++ record flight { message = shown } ∷ [] else seen i j)
    by true is =
        let both = parts_same (i.0 == from.0) (j.0 == to.0) is in
        let one : i ≡ from = same_id i from (number_same i.0 from.0 both.0) in
        let two : j ≡ to = same_id j to (number_same j.0 to.0 both.1) in
        ap (λ (h : HostId). flights_view eyes h j (flying from to ++ flight ∷ [])) one
        ∙ ap (λ (h : HostId). flights_view eyes from h (flying from to ++ flight ∷ [])) two ∙ own
    by false is = same i j

-- ---- the world after it

-- A step leaves a host on which nothing runs and nothing goes on unseen, and this is seen of it.
pub record Rested (eyes : Eyes) (old new : HostState) (shown : HostView) : Type 0 where
  pub running : new.running ≡ None
  pub waiting : hidden_waiting eyes old.me new.waiting ≡ []
  pub entries : new.entries ≡ filter (is_shown eyes) new.entries
  pub own : ShowsHost eyes old.me new shown

-- Where it is so, and what is in flight and was sent is seen so, that is what is seen.
pub resting_leads : (eyes : Eyes) (world after : WorldShape) (old new : HostState) (shown : HostView)
    (now seen : LowView) →
    Calm eyes world now → state_at world old.me ≡ Some old → Moved world old.me new after.flying after →
    Rested eyes old new shown → seen.hosts ≡ (with_host now old.me shown).hosts →
    ((i j : HostId) → hidden_flights eyes (after.flying i j) ≡ []) →
    ((i j : HostId) → flights_view eyes i j (after.flying i j) ≡ seen.flying i j) → after.sent ≡ seen.sent →
    Leads eyes after seen
resting_leads eyes world after old new shown now seen calm obeys moved rested hosts none same sent =
    let find = either world after old.me old new after.flying obeys moved in
    let own : ShowsHost eyes old.me new ((with_host now old.me shown).hosts old.me) =
    subst (ShowsHost eyes old.me new) (sym (own_view now old.me shown)) rested.own in
    let rest : Hides eyes nobody [] old.me new = record {
      running = ap (hidden_running eyes old.me) rested.running;
      waiting = rested.waiting;
      entries = rested.entries;
    } in
    record {
      owed = nothing;
      keeps = record {
        holder = nobody;
        links = [];
        present = tt;
        hides = λ host other there. elim (find host other there) [
          | inl mover ↦
              subst (λ (h : HostId). Hides eyes nobody [] h other) (sym mover.same)
              (subst (Hides eyes nobody [] old.me) (sym mover.is) rest)
          | inr apart ↦ record {
            running = calm.running host other apart.obeys;
            waiting = calm.waiting host other apart.obeys;
            entries = calm.entries host other apart.obeys;
          }
        ];
        flying = none;
        spot = nowhere;
        held = refl;
        owes = refl;
        well = tt;
      };
      now = seen;
      shows = record {
        hosts = λ host other there. subst (λ (v : HostId → HostView). ShowsHost eyes host other (v host)) (sym hosts)
            (elim (find host other there) [
              | inl mover ↦
                  subst (λ (h : HostId). ShowsHost eyes h other ((with_host now old.me shown).hosts h)) (sym mover.same)
                  (subst (λ (s : HostState). ShowsHost eyes old.me s ((with_host now old.me shown).hosts old.me))
                  (sym mover.is) own)
              | inr apart ↦
                  subst (ShowsHost eyes host other) (sym (other_view now old.me host shown apart.apart))
                  (calm.shows.hosts host other apart.obeys)
            ]);
        flying = same;
        sent = sent;
      };
      completed = refl;
    }

-- What such a step sends is seen as it may be seen in flight, and a misbehaving host sees it as it is.
pub sent_leads : (eyes : Eyes) (world after : WorldShape) (old new : HostState) (shown : HostView) (outcome : Outcome)
    (to : HostId) (said seen : Message) (labelled : Option ℕ) (label : ℕ) (now : LowView) → Calm eyes world now →
    Watches eyes world → state_at world old.me ≡ Some old → Rested eyes old new shown → sees_at eyes label ≡ true →
    labelled ≡ Some label → message_view eyes old.me to said ≡ seen → (eyes.bad to ≡ true → said ≡ seen) →
    with_message new to said ≡ outcome → after_step world old.me outcome labelled ≡ after →
    Leads eyes after (sent_view (with_host now old.me shown) old.me to
    (record { message = seen; label = label }) (eyes.bad to))
sent_leads eyes world after old new shown outcome to said seen labelled label now calm watch obeys rested opens labels
    flies told_as is leaves =
    by (eyes.bad to) refl
  where
    flight : Flight
    flight = record { message = said; label = label }

    seen_flight : Flight
    seen_flight = record { message = seen; label = label }

    rest_now : LowView
    rest_now = with_host now old.me shown

    by : (bad : Bool) → eyes.bad to ≡ bad → Leads eyes after (sent_view rest_now old.me to seen_flight bad)
    by true bad =
        let told = moved_told world old.me outcome old new to said labelled label after obeys (watch to ∙ bad) labels is
        leaves in
        resting_leads eyes world after old new shown now (sent_view rest_now old.me to seen_flight true) calm obeys
        (record { hosts = told.moved.hosts; flying = refl }) rested refl
        (λ i j. ap (λ (f : Flying). hidden_flights eyes (f i j)) told.moved.flying ∙ calm.flying i j)
        (λ i j. ap (λ (f : Flying). flights_view eyes i j (f i j)) told.moved.flying ∙ calm.shows.flying i j)
        (told.sent ∙ ap (λ all. all ++ (old.me, to, said) ∷ []) calm.shows.sent
        ∙ ap (λ (m : Message). now.sent ++ (old.me, to, m) ∷ []) (told_as bad))
    by false good =
        let posted = moved_posted world old.me outcome old new to said labelled label after obeys (watch to ∙ good)
        labels is leaves in
        resting_leads eyes world after old new shown now (sent_view rest_now old.me to seen_flight false) calm obeys
        (record { hosts = posted.moved.hosts; flying = refl }) rested refl
        (λ i j. ap (λ (f : Flying). hidden_flights eyes (f i j)) posted.moved.flying
        ∙ posted_hidden eyes world.flying old.me to flight opens calm.flying i j)
        (λ i j. ap (λ (f : Flying). flights_view eyes i j (f i j)) posted.moved.flying
        ∙ posted_seen eyes world.flying now.flying old.me to flight seen opens flies calm.shows.flying i j)
        (posted.sent ∙ calm.shows.sent)

-- ---- a turn

-- a turn of a quiet world, and its thread, which may be seen
pub record Turns (eyes : Eyes) (world after : WorldShape) (host : HostId) (now : LowView) (old : HostState)
    (thread : ThreadShape) (there : Instr) (token : Token) : Type 0 where
  pub watch : Watches eyes world
  pub calm : Calm eyes world now
  pub me : old.me ≡ host
  pub obeys : state_at world old.me ≡ Some old
  pub visible : Visible eyes old thread there token now
  pub running : (now.hosts old.me).running ≡ thread_view eyes old.me thread.at thread ∷ []
  pub outcome : Outcome
  pub passes : Bool
  pub checks : IsTrue passes ↔ PassesWith eyes.code (with_running old None) there.op thread.held
  pub does : after_operation eyes.code (with_running old None) thread there.op passes ≡ outcome
  pub label_is : label_of_turn eyes.code old ≡ Some there.label
  pub opens : sees_at eyes there.label ≡ true
  pub leaves : after_step world old.me outcome (label_of_turn eyes.code old) ≡ after

pub reached_turns : (eyes : Eyes) (rows : List declared_hosts.HostShape) (bad : ℕ) (store : List (List ℤ))
    (events : List Event) (world after : WorldShape) (host : HostId) (now : LowView) (old : HostState)
    (thread : ThreadShape) (there : Instr) (token : Token) → state_at world host ≡ Some old →
    old.running ≡ Some thread → instruction_at eyes.code host thread.at ≡ Some there → thread.held ≡ Some token →
    AreEyes eyes → Watches eyes (world_at_start eyes.code rows bad store) →
    IsReached eyes.code rows bad store events world → IsStep eyes.code world (Turn host) after →
    IsQuiet eyes.code world → Leads eyes world now → Turns eyes world after host now old thread there token
reached_turns eyes rows bad store events world after host now old thread there token is_there running is held are watch
    reach step quiet leads =
    let points = points_kept eyes rows bad store events world are watch reach in
    let fits = fits_there eyes.code rows bad store events world reach in
    let calm = quiet_calm eyes world now are points.0 fits quiet leads in
    let own = own_state eyes world host old points.0 fits points.1.hosts is_there in
    let me = own.fit.me in
    let same : step.state ≡ old = some_is (sym step.obeys ∙ is_there) in
    let outcome = step.outcome in
    let turns : IsTurn eyes.code old outcome = subst (λ (s : HostState). IsTurn eyes.code s outcome) same step.turns in
    let here : IsHere eyes old thread there =
    subst (λ (h : HostId). instruction_at eyes.code h thread.at ≡ Some there) (sym me) is in
    let obeys : state_at world old.me ≡ Some old = ap (state_at world) me ∙ is_there in
    let some = visible_of eyes world old thread there now are calm own.fit.fits own.obeys own.keeps obeys running
    here in
    let visible : Visible eyes old thread there token now =
    subst (λ (t : Token). Visible eyes old thread there t now) (some_is (sym some.1.held ∙ held)) some.1 in
    let runs_it : IsRunning eyes.code (with_running old None) thread (Some there) outcome =
    subst (λ found. IsRunning eyes.code (with_running old None) thread found outcome) here
    (subst (λ one. IsTurnOf eyes.code old one outcome) running turns) in
    let same_label : sees_at eyes there.label ≡ is_open eyes old.me thread.at =
    rw (are.shaded.instructions old.me thread.at there here).label_is refl in
    record {
      watch = points.0;
      calm = calm;
      me = me;
      obeys = obeys;
      visible = visible;
      running = seen_thread eyes old thread there token now visible running;
      outcome = outcome;
      passes = runs_it.0;
      checks = runs_it.1;
      does = runs_it.2;
      label_is = rw (running, here) refl;
      opens = same_label ∙ visible.seen;
      leaves = ap (λ (h : HostId). after_step world h outcome (label_of_turn eyes.code old)) me
          ∙ subst (λ (s : HostState). after_step world host outcome (label_of_turn eyes.code s) ≡ after) same
          step.leaves;
    }
