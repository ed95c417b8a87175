-- What misbehaving hosts make a host take is seen alike in two quiet worlds that lead to one view.
use Rattle.std.proofs.Common.{◌≡◌, ◌∙◌, ℕ, Bool, true, false, List, [], ◌∷◌, ◌++◌, Some, None, inl, inr, refl}
use Rattle.std.proofs.Common.{ap, sym, subst}
use Rattle.std.specs.Prelude.{ℤ, if◌then◌else◌, IfSome}
use Rattle.std.proofs.lemmas.Bool.{cases_Bool, false≢true}
use Rattle.js_base.specs.declared.ids.HostId.{HostId}
use Rattle.js_base.specs.declared.ids.FieldId.{FieldId}
use Rattle.jif_tree.specs.Store.{row_of, element_at}
use Rattle.capability.specs.declared.token.Token.{Token}
use Rattle.host_decl.specs.Hosts as declared_hosts
use Rattle.host_code.specs.declared.message.Message.{Message}
use Rattle.host_code.specs.declared.message.Message.TheVariants as message
use Rattle.host_core.specs.Host.{HostState, Outcome}
use Rattle.host_core.specs.Taking.{PassesCheck, IsTaking, after_passing}
use Rattle.event_text.specs.declared.event.Event.{Event}
use Rattle.event_text.specs.declared.event.Event.TheVariants.{Act}
use Rattle.event_text.specs.declared.event.BadMessage.{BadMessage}
use Rattle.net_world.specs.Fits.{IsStateOf, HasOwnToken}
use Rattle.net_world.specs.Flying.{Flying}
use Rattle.net_world.specs.Secret.{IsQuiet}
use Rattle.net_world.specs.Told.{SentMessage, tokens_in, message_made}
use Rattle.net_world.specs.World.{WorldShape, state_at, with_state, after_step, after_telling, IsActStep}
use Rattle.net_world.specs.World.{world_at_start}
use Rattle.net_world.proofs.Moved.{Moved, mover_state, moved_acted}
use Rattle.net_world.proofs.Shapes.{shape_step, own_kept}
use Rattle.net_world.proofs.StepLaws.{act_puts}
use Rattle.token_laws.specs.Reached.{IsReached}
use Rattle.token_laws.proofs.Walks.{fits_there, one_more, own_there}
use Rattle.seen_world.specs.Eyes.{Eyes, AreEyes, Watches, is_hidden}
use Rattle.seen_world.specs.Points.{IsHiddenToken, HostKeeps, ShowsNoHidden, AsksForNoHidden}
use Rattle.seen_world.proofs.Answered.{answer_shows}
use Rattle.seen_world.proofs.FlightsKept.{made_shown}
use Rattle.seen_world.proofs.PointsAtStart.{own_state}
use Rattle.seen_world.proofs.PointsKept.{points_kept}
use Rattle.seen_world.proofs.SeenPlaces.{some_is}
use Rattle.agreement.specs.Handing.{sent_view}
use Rattle.agreement.specs.Leads.{hidden_flights, Leads, Agree}
use Rattle.agreement.specs.Taken.{sees_answer, carried_taken, SeenMessage, SeenAct, answer_view}
use Rattle.agreement.specs.Views.{LowView, sees_field, sees_read, message_view, flights_view, with_host}
use Rattle.agreement.proofs.CarriedSame.{masks_same}
use Rattle.agreement.proofs.SeenAgree.{reached_calm}
use Rattle.agreement.proofs.SeenLeads.{Calm, quiet_calm, arrived_leads, rested_leads}
use Rattle.agreement.proofs.SeenSendings.{resting_leads}
use Rattle.agreement.proofs.SeenTakes.{Receives, Answers, TakeEnds, message_seen}
use Rattle.agreement.proofs.TakesAgree.{message_once}
use Rattle.agreement.proofs.TakesLead.{Took}

-- ---- what is made

-- a misbehaving host is granted no entry that is hidden
made_fresh : (eyes : Eyes) (state : HostState) (from : HostId) (said : Message) → AreEyes eyes →
    eyes.bad from ≡ true → eyes.bad state.me ≡ false → PassesCheck eyes.code state from said → AsksForNoHidden eyes said
made_fresh eyes state from (message.Sync request frame entry token) are bad obeys passes =
    let takes : IsTaking eyes.code state from (message.Sync request frame entry token)
    (after_passing eyes.code state from (message.Sync request frame entry token)) =
    (true, (λ yes. passes, λ holds. refl), refl) in
    let shows = answer_shows eyes state from (message.Sync request frame entry token)
    (after_passing eyes.code state from (message.Sync request frame entry token)) are bad takes in
    elim (cases_Bool (is_hidden eyes entry.0)) [
      | inl hidden ↦ absurd (shows (obeys, hidden))
      | inr plain ↦ plain
    ]
made_fresh eyes state from (message.Get request field index) are bad obeys passes = tt
made_fresh eyes state from (message.Set request field index value) are bad obeys passes = tt
made_fresh eyes state from (message.Forward request frame x value) are bad obeys passes = tt
made_fresh eyes state from (message.Rgoto frame entry token) are bad obeys passes = tt
made_fresh eyes state from (message.RgotoWith frame entry token riders) are bad obeys passes = tt
made_fresh eyes state from (message.Lgoto token) are bad obeys passes = tt
made_fresh eyes state from (message.Value request value) are bad obeys passes = tt
made_fresh eyes state from (message.Ack request) are bad obeys passes = tt
made_fresh eyes state from (message.Token request token) are bad obeys passes = tt

-- ---- an act

-- A host takes at once what a misbehaving host made, in a quiet world.
record Acting (eyes : Eyes) (world after : WorldShape) (from : HostId) (state : HostState) (said : Message)
    (outcome : Outcome) (now : LowView) : Type 0 where
  calm : Calm eyes world now
  there : state_at world state.me ≡ Some state
  bad : eyes.bad from ≡ true
  got : Receives eyes state from said now
  leaves : after_telling (with_state world state.me outcome.state) state.me outcome.sent ≡ after
  took : Took eyes state.me outcome

-- a step that sends nothing
silent_act : (world after : WorldShape) (me : HostId) (outcome : Outcome) →
    after_telling (with_state world me outcome.state) me outcome.sent ≡ after → outcome.sent ≡ None →
    after_step world me outcome None ≡ after
silent_act world after me outcome leaves silent =
    sym (ap (after_telling (with_state world me outcome.state) me) silent) ∙ leaves

told_leads : (eyes : Eyes) (world after : WorldShape) (from : HostId) (state : HostState) (said : Message)
    (outcome : Outcome) (now seen : LowView) → Acting eyes world after from state said outcome now →
    Answers eyes state from 0 now outcome seen → Leads eyes after seen
told_leads eyes world after from state said outcome now seen act answers =
    let moved = moved_acted world state.me outcome after act.leaves in
    let here = with_host now state.me answers.shown in
    let whole : answers.seen_said ≡ answers.said =
    answers.masks ∙ ap (λ (b : Bool). if b then answers.said else message_view eyes state.me from answers.said) act.bad
    in
    let sent : after.sent ≡ world.sent ++ (state.me, from, answers.said) ∷ [] =
    ap (λ (w : WorldShape). w.sent) (sym act.leaves)
    ∙ ap (λ s. (after_telling (with_state world state.me outcome.state) state.me s).sent) answers.sends in
    subst (Leads eyes after) (sym (answers.seen ∙ ap (answer_view eyes here from state.me 0) whole
    ∙ ap (sent_view here state.me from (record { message = answers.said; label = 0 })) act.bad))
    (resting_leads eyes world after state outcome.state answers.shown now
    (sent_view here state.me from (record { message = answers.said; label = 0 }) true) act.calm act.there
    (record { hosts = moved.hosts; flying = refl }) answers.rested refl
    (λ i j. ap (λ (f : Flying). hidden_flights eyes (f i j)) moved.flying ∙ act.calm.flying i j)
    (λ i j. ap (λ (f : Flying). flights_view eyes i j (f i j)) moved.flying ∙ act.calm.shows.flying i j)
    (sent ∙ ap (λ all. all ++ (state.me, from, answers.said) ∷ []) act.calm.shows.sent))

act_ends : (eyes : Eyes) (world after : WorldShape) (from : HostId) (state : HostState) (said : Message)
    (outcome : Outcome) (now seen : LowView) → Acting eyes world after from state said outcome now →
    TakeEnds eyes state from 0 now outcome seen → Leads eyes after seen
act_ends eyes world after from state said outcome now seen act (inl arrives) =
    arrived_leads eyes world after state outcome now seen None act.got.are act.calm act.there
    (silent_act world after state.me outcome act.leaves arrives.silent) act.took.fits act.took.keeps arrives
act_ends eyes world after from state said outcome now seen act (inr (inl rests)) =
    rested_leads eyes world after state outcome now seen None act.calm act.there
    (silent_act world after state.me outcome act.leaves rests.silent) rests
act_ends eyes world after from state said outcome now seen act (inr (inr answers)) =
    told_leads eyes world after from state said outcome now seen act answers

pub reached_acts : (eyes : Eyes) (rows : List declared_hosts.HostShape) (bad : ℕ) (store : List (List ℤ))
    (events : List Event) (world after : WorldShape) (from to : HostId) (made : BadMessage) (now : LowView)
    (step : IsActStep eyes.code world from to made after) → AreEyes eyes →
    Watches eyes (world_at_start eyes.code rows bad store) → IsReached eyes.code rows bad store events world →
    HasOwnToken (world_at_start eyes.code rows bad store) (Act from to made) → IsQuiet eyes.code world →
    Leads eyes world now →
    (seen : LowView)
    × SeenAct eyes now from to made (carried_taken eyes step.state from step.message) seen
    × Leads eyes after seen
reached_acts eyes rows bad store events world after from to made now step are watch reach owns quiet leads =
    let points = points_kept eyes rows bad store events world are watch reach in
    let fits = fits_there eyes.code rows bad store events world reach in
    let calm = quiet_calm eyes world now are points.0 fits quiet leads in
    let then_reached = one_more eyes.code rows bad store events world after (Act from to made) reach owns step in
    let then_points = points_kept eyes rows bad store (events ++ Act from to made ∷ []) after are watch then_reached in
    let its = own_there eyes.code rows bad store events world (Act from to made) reach owns in
    let fits_after = shape_step eyes.code world after (Act from to made) reach.sound fits its step in
    let state = step.state in
    let said = step.message in
    let outcome = step.outcome in
    let own = own_state eyes world to state points.0 fits points.1.hosts step.obeys in
    let me : state.me ≡ to = own.fit.me in
    let is_bad : eyes.bad from ≡ true = sym (points.0 from) ∙ step.bad in
    let moved : Moved world to outcome.state after.flying after =
    record { hosts = act_puts eyes.code world after from to made step; flying = refl } in
    let after_me : state_at after to ≡ Some outcome.state =
    mover_state world after to state outcome.state after.flying step.obeys moved in
    let fit : IsStateOf eyes.code to outcome.state =
    subst (λ one. IfSome one (IsStateOf eyes.code to)) after_me (fits_after.states to) in
    let there : state_at world state.me ≡ Some state = ap (state_at world) me ∙ step.obeys in
    let shows : ShowsNoHidden eyes said =
    made_shown (λ (token : Token). ¬ IsHiddenToken eyes token) world made said points.1.told
    (λ token is one. false≢true (sym one.0 ∙ sym (points.0 token.host) ∙ is)) its step.makes in
    let act : Acting eyes world after from state said outcome now = record {
      calm = calm;
      there = there;
      bad = is_bad;
      got = record {
        are = are;
        obeys = own.obeys;
        keeps = own.keeps;
        fits = own.fit.fits;
        rests = step.rests;
        waits = calm.waiting state.me state there;
        entries = calm.entries state.me state there;
        shows = calm.shows.hosts state.me state there;
        plain = shows;
        fresh = made_fresh eyes state from said are is_bad own.obeys;
      };
      leaves = ap (λ (h : HostId). after_telling (with_state world h outcome.state) h outcome.sent) me ∙ step.leaves;
      took = record {
        fits = fit.fits;
        keeps = subst (λ (h : HostId). HostKeeps eyes h outcome.state) (sym me)
            (then_points.1.hosts to outcome.state after_me);
      };
    } in
    let done = message_seen eyes state from 0 now said outcome act.got act.took.fits act.took.keeps step.takes.0
    step.takes.1 step.takes.2 in (
      done.0,
      record {
        bad = is_bad;
        said = said;
        makes = ap (λ (sent : List SentMessage). message_made (tokens_in sent) made) (sym calm.shows.sent) ∙ step.makes;
        seen = subst (λ (h : HostId). SeenMessage eyes now from h 0 (message_view eyes from h said)
            (carried_taken eyes state from said) done.0) me done.1;
      },
      act_ends eyes world after from state said outcome now done.0 act done.2,
    )

-- ---- two worlds

pub act_once : (eyes : Eyes) (now : LowView) (from to : HostId) (made : BadMessage) (carried : ℤ)
    (first second : LowView) →
    SeenAct eyes now from to made carried first → SeenAct eyes now from to made carried second → first ≡ second
act_once eyes now from to made carried first second one two =
    let said : two.said ≡ one.said = some_is (sym two.makes ∙ one.makes) in
    message_once eyes now from to 0 (message_view eyes from to one.said) carried first second one.seen
    (subst (λ (m : Message). SeenMessage eyes now from to 0 (message_view eyes from to m) carried second) said two.seen)

-- two hosts that show the same carry the same, as misbehaving hosts are told fields that they may see
made_carries_same : (eyes : Eyes) (one other : HostState) (from : HostId) (said : Message) → eyes.bad from ≡ true →
    ((field : FieldId) → sees_field eyes field ≡ true → row_of one.rows field.0 ≡ row_of other.rows field.0) →
    carried_taken eyes one from said ≡ carried_taken eyes other from said
made_carries_same eyes one other from (message.Get request field index) bad rows =
    masks_same (sees_answer eyes from request field) (element_at (row_of one.rows field.0) index)
    (element_at (row_of other.rows field.0) index) (λ seen.
    ap (λ row. element_at row index)
    (rows field (sym (ap (λ (b : Bool). if b then sees_field eyes field else sees_read eyes from request) bad) ∙ seen)))
made_carries_same eyes one other from (message.Set request field index value) bad rows = refl
made_carries_same eyes one other from (message.Forward request frame x value) bad rows = refl
made_carries_same eyes one other from (message.Sync request frame entry token) bad rows = refl
made_carries_same eyes one other from (message.Rgoto frame entry token) bad rows = refl
made_carries_same eyes one other from (message.RgotoWith frame entry token riders) bad rows = refl
made_carries_same eyes one other from (message.Lgoto token) bad rows = refl
made_carries_same eyes one other from (message.Value request value) bad rows = refl
made_carries_same eyes one other from (message.Ack request) bad rows = refl
made_carries_same eyes one other from (message.Token request token) bad rows = refl

pub made_same : (eyes : Eyes) (rows : List declared_hosts.HostShape) (bad : ℕ) (store start : List (List ℤ))
    (events others : List Event) (one other one_after other_after : WorldShape) (from to : HostId) (made : BadMessage)
    (step : IsActStep eyes.code one from to made one_after)
    (twin : IsActStep eyes.code other from to made other_after) → AreEyes eyes →
    Watches eyes (world_at_start eyes.code rows bad store) → Watches eyes (world_at_start eyes.code rows bad start) →
    IsReached eyes.code rows bad store events one → IsReached eyes.code rows bad start others other →
    IsQuiet eyes.code one → IsQuiet eyes.code other → Agree eyes one other →
    carried_taken eyes step.state from step.message ≡ carried_taken eyes twin.state from twin.message
made_same eyes rows bad store start events others one other one_after other_after from to made step twin are watch
    watch_other reach reach_other quiet quiet_other agree =
    let now = agree.shown in
    let calm = (reached_calm eyes rows bad store events one now are watch reach quiet agree.first).1 in
    let calm_other =
    (reached_calm eyes rows bad start others other now are watch_other reach_other quiet_other agree.second).1 in
    let points = points_kept eyes rows bad store events one are watch reach in
    let same : step.message ≡ twin.message =
    some_is (sym step.makes
    ∙ ap (λ (sent : List SentMessage). message_made (tokens_in sent) made)
    (calm.shows.sent ∙ sym calm_other.shows.sent) ∙ twin.makes) in
    made_carries_same eyes step.state twin.state from step.message (sym (points.0 from) ∙ step.bad)
    (λ field seen. (calm.shows.hosts to step.state step.obeys).rows field seen
    ∙ sym ((calm_other.shows.hosts to twin.state twin.obeys).rows field seen))
    ∙ ap (carried_taken eyes twin.state from) same

pub acts_agree : (eyes : Eyes) (rows : List declared_hosts.HostShape) (bad : ℕ) (store start : List (List ℤ))
    (events others : List Event) (one other one_after other_after : WorldShape) (from to : HostId)
    (made : BadMessage) → AreEyes eyes → Watches eyes (world_at_start eyes.code rows bad store) →
    Watches eyes (world_at_start eyes.code rows bad start) → IsReached eyes.code rows bad store events one →
    IsReached eyes.code rows bad start others other →
    HasOwnToken (world_at_start eyes.code rows bad store) (Act from to made) →
    IsActStep eyes.code one from to made one_after → IsActStep eyes.code other from to made other_after →
    IsQuiet eyes.code one → IsQuiet eyes.code other → Agree eyes one other → Agree eyes one_after other_after
acts_agree eyes rows bad store start events others one other one_after other_after from to made are watch watch_other
    reach reach_other owns step twin quiet quiet_other agree =
    let now = agree.shown in
    let owns_other : HasOwnToken (world_at_start eyes.code rows bad start) (Act from to made) =
    own_kept (world_at_start eyes.code rows bad store) (world_at_start eyes.code rows bad start) (Act from to made)
    (λ host. watch_other host ∙ sym (watch host)) owns in
    let first = reached_acts eyes rows bad store events one one_after from to made now step are watch reach owns quiet
    agree.first in
    let second = reached_acts eyes rows bad start others other other_after from to made now twin are watch_other
    reach_other owns_other quiet_other agree.second in
    let carried = made_same eyes rows bad store start events others one other one_after other_after from to made step
    twin are watch watch_other reach reach_other quiet quiet_other agree in
    let same : second.0 ≡ first.0 =
    act_once eyes now from to made (carried_taken eyes step.state from step.message) second.0 first.0
    (subst (λ c. SeenAct eyes now from to made c second.0) (sym carried) second.1) first.1 in
    record {
      shown = first.0;
      first = first.2;
      second = subst (Leads eyes other_after) same second.2;
    }
