-- What a quiet world leads to, where a turn happens that may be seen and changes its host alone.
use Rattle.std.proofs.Common.{◌≡◌, ◌∙◌, ℕ, Bool, true, false, List, [], ◌∷◌, ◌++◌, Option, Some, None, inl, inr, refl}
use Rattle.std.proofs.Common.{ap, sym, subst}
use Rattle.std.specs.Prelude.{ℤ, if◌then◌else◌, IfSome, not, filter}
use Rattle.std.specs.Option.{IsSomeAnd}
use Rattle.std.proofs.lemmas.Bool.{cases_Bool}
use Rattle.js_base.specs.declared.ids.HostId.{HostId}
use Rattle.capability.specs.declared.token.Token.{Token}
use Rattle.host_decl.specs.Hosts as declared_hosts
use Rattle.host_code.specs.declared.instruction.Instr.{Instr}
use Rattle.host_code.specs.Code.{instruction_at}
use Rattle.host_code.specs.Sound.{IsSoundCode}
use Rattle.host_code.specs.Thread.{ThreadShape}
use Rattle.host_core.specs.Fits.{RunningFits, StateFits, TokenFits}
use Rattle.host_core.specs.Host.{HostState, Outcome, with_running, without_message}
use Rattle.host_core.specs.Turn.{IsTurn, IsTurnOf, IsRunning, label_of_turn}
use Rattle.event_text.specs.declared.event.Event.{Event}
use Rattle.event_text.specs.declared.event.Event.TheVariants.{Turn}
use Rattle.net_world.specs.Fits.{ShapeFits, IsStateOf}
use Rattle.net_world.specs.Flying.{Flying}
use Rattle.net_world.specs.Secret.{IsQuiet}
use Rattle.net_world.specs.World.{WorldShape, state_at, after_step, IsStep, world_at_start}
use Rattle.net_world.proofs.Moved.{Moved, mover_state, either, moved_silent, silent_sent}
use Rattle.net_world.proofs.Shapes.{shape_step}
use Rattle.net_world.proofs.StepLaws.{turn_puts}
use Rattle.token_laws.specs.Reached.{IsReached}
use Rattle.token_laws.proofs.Walks.{fits_there, one_more}
use Rattle.seen_world.specs.Eyes.{Eyes, AreEyes, Watches, is_open}
use Rattle.seen_world.specs.Points.{MayHoldToken, RunsWell, HostKeeps, HostsKeep}
use Rattle.seen_world.proofs.PointsAtStart.{own_state}
use Rattle.seen_world.proofs.PointsKept.{points_kept}
use Rattle.seen_world.proofs.SeenPlaces.{some_is, under_seen}
use Rattle.seen_world.proofs.SeenWorlds.{label_read}
use Rattle.agreement.specs.Leads.{hidden_running, hidden_waiting, hidden_flights, nobody, KeepsUnseen, Leads}
use Rattle.agreement.specs.Turns.{ChangesAlone, RunsAtInstruction, carried_in, SeenTurn}
use Rattle.agreement.specs.Views.{LowView, ShowsHost, Shows, running_view, thread_view, flies_open, flights_view}
use Rattle.agreement.specs.Views.{is_shown}
use Rattle.agreement.specs.Views.{with_host, nowhere, nothing}
use Rattle.agreement.proofs.Branches.{own_view, other_view}
use Rattle.agreement.proofs.Coming.{comes_leads}
use Rattle.agreement.proofs.Places.{instruction_within}
use Rattle.agreement.proofs.Quiet.{none_left, runs_seen, quiet_shows}
use Rattle.agreement.proofs.SeenOperations.{Rests, Turned, operation_turned}
use Rattle.agreement.proofs.SeenTurns.{Visible, Arrives}
use Rattle.agreement.proofs.Steps.{moved_leads}
use Rattle.agreement.proofs.Turns.{IsHere, next_there}

-- ---- nothing goes on unseen

pub record Calm (eyes : Eyes) (world : WorldShape) (now : LowView) : Type 0 where
  pub shows : Shows eyes world now
  pub running : (host : HostId) (state : HostState) → state_at world host ≡ Some state →
      hidden_running eyes host state.running ≡ None
  pub waiting : (host : HostId) (state : HostState) → state_at world host ≡ Some state →
      hidden_waiting eyes host state.waiting ≡ []
  pub entries : (host : HostId) (state : HostState) → state_at world host ≡ Some state →
      state.entries ≡ filter (is_shown eyes) state.entries
  pub flying : (from to : HostId) → hidden_flights eyes (world.flying from to) ≡ []

pub quiet_calm : (eyes : Eyes) (world : WorldShape) (now : LowView) → AreEyes eyes → Watches eyes world →
    ShapeFits eyes.code world → IsQuiet eyes.code world → Leads eyes world now → Calm eyes world now
quiet_calm eyes world now are watch fits quiet leads =
    let out = quiet_shows eyes world now are watch fits quiet leads in
    record {
      shows = out.0;
      running = λ host state there. runs_seen eyes world host state are watch
          (subst (λ one. IfSome one (IsStateOf eyes.code host)) there (fits.states host))
          (quiet.running host state there) state.running refl;
      waiting = λ host state there. (out.1 host state there).0;
      entries = λ host state there. (out.1 host state there).1;
      flying = λ i j. none_left (λ one. not (flies_open eyes one)) (world.flying i j) (λ k d lt.
          ap not ((label_read eyes world _ are watch).1 (quiet.flying i j k d lt)));
    }

-- ---- a thread arrives

pub arrived_leads : (eyes : Eyes) (world after : WorldShape) (old : HostState) (outcome : Outcome) (now seen : LowView)
    (label : Option ℕ) → AreEyes eyes → Calm eyes world now → state_at world old.me ≡ Some old →
    after_step world old.me outcome label ≡ after → StateFits eyes.code outcome.state →
    HostKeeps eyes old.me outcome.state → Arrives eyes old now outcome seen → Leads eyes after seen
arrived_leads eyes world after old outcome now seen label are calm obeys leaves fits keep arrives =
    let out : without_message outcome.state ≡ outcome =
    ap (λ s. record { state = outcome.state; sent = s }) (sym arrives.silent) in
    let moved = moved_silent world old.me outcome outcome.state label after out leaves in
    let find = either world after old.me old outcome.state world.flying obeys moved in
    let within = next_there eyes old.me outcome.state arrives.later arrives.running arrives.me fits in
    let on = instruction_within eyes old.me arrives.later.at within in
    let well : RunsWell eyes old.me arrives.later =
    subst (λ running. IfSome running (RunsWell eyes old.me)) arrives.running keep.running in
    let may : MayHoldToken eyes (eyes.shades.at old.me arrives.later.at) arrives.token =
    subst (λ held. IfSome held (MayHoldToken eyes (eyes.shades.at old.me arrives.later.at))) arrives.held well.holds in
    comes_leads eyes after old.me outcome.state arrives.later arrives.token (with_host now old.me arrives.shown) seen
    are (record {
      there = mover_state world after old.me old outcome.state world.flying obeys moved;
      running = arrives.running;
      held = arrives.held;
      instruction = on.0;
      is = on.1;
      may = may;
      shown = arrives.plain;
      rest = λ host other there apart. elim (find host other there) [
        | inl same ↦ absurd (apart (ap (λ (h : HostId). h.0) same.same))
        | inr rest ↦ calm.running host other rest.obeys
      ];
      waiting = λ host other there. elim (find host other there) [
        | inl same ↦
            ap (λ (s : HostState). hidden_waiting eyes host s.waiting) same.is
            ∙ ap (λ (h : HostId). hidden_waiting eyes h outcome.state.waiting) same.same
            ∙ arrives.waiting
        | inr rest ↦ calm.waiting host other rest.obeys
      ];
      entries = λ host other there. elim (find host other there) [
        | inl same ↦
            subst (λ (s : HostState). s.entries ≡ filter (is_shown eyes) s.entries) (sym same.is) arrives.entries
        | inr rest ↦ calm.entries host other rest.obeys
      ];
      flying = λ i j. ap (λ (f : Flying). hidden_flights eyes (f i j)) moved.flying ∙ calm.flying i j;
      own = subst (ShowsHost eyes old.me (with_running outcome.state None)) (sym (own_view now old.me arrives.shown))
          arrives.own;
      others = λ host other there apart. elim (find host other there) [
        | inl same ↦ absurd (apart (ap (λ (h : HostId). h.0) same.same))
        | inr rest ↦
            subst (ShowsHost eyes host other) (sym (other_view now old.me host arrives.shown apart))
            (calm.shows.hosts host other rest.obeys)
      ];
      seen_flying = λ i j. ap (λ (f : Flying). flights_view eyes i j (f i j)) moved.flying ∙ calm.shows.flying i j;
      sent = silent_sent world old.me outcome outcome.state label after out leaves ∙ calm.shows.sent;
    }) arrives.comes

-- ---- no thread does

abbrev calm_keeps : (eyes : Eyes) (world : WorldShape) (now : LowView) → Calm eyes world now →
    KeepsUnseen eyes world nothing
calm_keeps eyes world now calm = record {
  holder = nobody;
  links = [];
  present = tt;
  hides = λ host state there. record {
    running = calm.running host state there;
    waiting = calm.waiting host state there;
    entries = calm.entries host state there;
  };
  flying = calm.flying;
  spot = nowhere;
  held = refl;
  owes = refl;
  well = tt;
}

pub rested_leads : (eyes : Eyes) (world after : WorldShape) (old : HostState) (outcome : Outcome) (now seen : LowView)
    (label : Option ℕ) → Calm eyes world now → state_at world old.me ≡ Some old →
    after_step world old.me outcome label ≡ after → Rests eyes old now outcome seen → Leads eyes after seen
rested_leads eyes world after old outcome now seen label calm obeys leaves rests =
    let out : without_message outcome.state ≡ outcome =
    ap (λ s. record { state = outcome.state; sent = s }) (sym rests.silent) in
    let moved = moved_silent world old.me outcome outcome.state label after out leaves in
    let own : Moved world old.me outcome.state after.flying after = record { hosts = moved.hosts; flying = refl } in
    moved_leads eyes world after old.me old outcome.state nothing (calm_keeps eyes world now calm) now seen rests.later
    calm.shows obeys own (silent_sent world old.me outcome outcome.state label after out leaves)
    (λ i j. ap (λ (f : Flying). hidden_flights eyes (f i j)) moved.flying ∙ calm.flying i j ∙ sym (rests.flies i j))
    (λ i j. ap (λ (f : Flying). flights_view eyes i j (f i j)) moved.flying) rests.leaves

-- ---- a turn

pub open_block : (eyes : Eyes) (host : HostId) (place : ℕ) (there : Instr) → AreEyes eyes →
    instruction_at eyes.code host place ≡ Some there → is_open eyes host place ≡ true →
    eyes.sees (eyes.shades.at host place).block ≡ true
open_block eyes host place there are is seen =
    under_seen eyes are (eyes.shades.at host place).guard (eyes.shades.at host place).block
    (eyes.shades.at host place).pc (are.shaded.instructions host place there is).is_shade.under_block seen

-- the thread that runs in a calm world may be seen
pub calm_open : (eyes : Eyes) (host : HostId) (running : Option ThreadShape) (thread : ThreadShape) →
    running ≡ Some thread → hidden_running eyes host running ≡ None → is_open eyes host thread.at ≡ true
calm_open eyes host running thread is none = elim (cases_Bool (is_open eyes host thread.at)) [
  | inl seen ↦ seen
  | inr hidden ↦
      let never : Some thread ≡ None =
      sym (ap (hidden_running eyes host) is
      ∙ ap (λ (b : Bool). if b then None else Some thread) hidden) ∙ none in
      absurd (cc)
]

pub held_of : (eyes : Eyes) (held : Option Token) → IsSomeAnd held (TokenFits eyes.code) →
    (token : Token) × (held ≡ Some token)
held_of eyes None fits = absurd fits
held_of eyes (Some token) fits = (token, refl)

pub visible_of : (eyes : Eyes) (world : WorldShape) (old : HostState) (thread : ThreadShape) (there : Instr)
    (now : LowView) → AreEyes eyes → Calm eyes world now → StateFits eyes.code old → eyes.bad old.me ≡ false →
    HostKeeps eyes old.me old → state_at world old.me ≡ Some old → old.running ≡ Some thread →
    IsHere eyes old thread there → (token : Token) × Visible eyes old thread there token now
visible_of eyes world old thread there now are calm fits good keep obeys is here =
    let seen = calm_open eyes old.me old.running thread is (calm.running old.me old obeys) in
    let runs : RunningFits eyes.code old.me thread =
    subst (λ one. IfSome one (RunningFits eyes.code old.me)) is fits.running in
    let token = held_of eyes thread.held runs.held in
    let well : RunsWell eyes old.me thread =
    subst (λ running. IfSome running (RunsWell eyes old.me)) is keep.running in
    let may : MayHoldToken eyes (eyes.shades.at old.me thread.at) token.0 =
    subst (λ held. IfSome held (MayHoldToken eyes (eyes.shades.at old.me thread.at))) token.1 well.holds in (
      token.0,
      record {
        are = are;
        obeys = good;
        keeps = keep;
        waits = calm.waiting old.me old obeys;
        is = here;
        seen = seen;
        well = well;
        fits = fits;
        held = token.1;
        shown = may.1 (open_block eyes old.me thread.at there are here seen);
        shows = calm.shows.hosts old.me old obeys;
        entries = calm.entries old.me old obeys;
      },
    )

-- what is seen of the host has the thread alone
pub seen_thread : (eyes : Eyes) (old : HostState) (thread : ThreadShape) (there : Instr) (token : Token)
    (now : LowView) →
    Visible eyes old thread there token now → old.running ≡ Some thread →
    (now.hosts old.me).running ≡ thread_view eyes old.me thread.at thread ∷ []
seen_thread eyes old thread there token now run is =
    sym run.shows.running ∙ ap (running_view eyes old.me) is
    ∙ ap (λ (b : Bool). if b then thread_view eyes old.me thread.at thread ∷ [] else []) run.seen

turned_leads : (eyes : Eyes) (world after : WorldShape) (old : HostState) (outcome : Outcome) (thread : ThreadShape)
    (there : Instr) (now : LowView) → AreEyes eyes → IsSoundCode eyes.code → Calm eyes world now →
    StateFits eyes.code old → eyes.bad old.me ≡ false → HostKeeps eyes old.me old → state_at world old.me ≡ Some old →
    old.running ≡ Some thread → IsHere eyes old thread there → ChangesAlone eyes.code old.me thread.held there.op →
    IsTurn eyes.code old outcome → after_step world old.me outcome (label_of_turn eyes.code old) ≡ after →
    StateFits eyes.code outcome.state → HostKeeps eyes old.me outcome.state →
    (seen : LowView) × SeenTurn eyes now old.me (carried_in eyes old thread there.op) seen × Leads eyes after seen
turned_leads eyes world after old outcome thread there now are sound calm fits good keep obeys is here alone turns
    leaves
    fits_then keep_then =
    let visible = visible_of eyes world old thread there now are calm fits good keep obeys is here in
    let run = visible.1 in
    let runs_it : IsRunning eyes.code (with_running old None) thread (Some there) outcome =
    subst (λ found. IsRunning eyes.code (with_running old None) thread found outcome) here
    (subst (λ running. IsTurnOf eyes.code old running outcome) is turns) in
    let turned : Turned eyes old thread visible.0 now there.op outcome =
    subst (λ (o : Outcome). StateFits eyes.code o.state → Turned eyes old thread visible.0 now there.op o) runs_it.2
    (operation_turned eyes old thread there visible.0 now _ there.op runs_it.0 run alone
    (are.shaded.instructions old.me thread.at there here).law
    ((sound.parts old.me fits.me).instructions thread.at there here).operation runs_it.1) fits_then in (
      turned.0,
      record {
        thread = thread_view eyes old.me thread.at thread;
        running = seen_thread eyes old thread there visible.0 now run is;
        token = visible.0;
        held = run.held;
        instruction = there;
        is = here;
        seen = turned.1;
      },
      elim turned.2 [
        | inl arrives ↦
            arrived_leads eyes world after old outcome now turned.0 (label_of_turn eyes.code old) are calm obeys leaves
            fits_then keep_then arrives
        | inr rests ↦
            rested_leads eyes world after old outcome now turned.0 (label_of_turn eyes.code old) calm obeys leaves
            rests
      ],
    )

pub alone_leads : (eyes : Eyes) (world after : WorldShape) (host : HostId) (now : LowView)
    (alone : RunsAtInstruction eyes.code world host) → AreEyes eyes → IsSoundCode eyes.code → Watches eyes world →
    ShapeFits eyes.code world → ShapeFits eyes.code after → HostsKeep eyes world → HostsKeep eyes after →
    IsStep eyes.code world (Turn host) after → Calm eyes world now →
    (seen : LowView)
    × SeenTurn eyes now host (carried_in eyes alone.state alone.thread alone.instruction.op) seen
    × Leads eyes after seen
alone_leads eyes world after host now alone are sound watch fits fits_after keep keep_after step calm =
    let old = alone.state in
    let own = own_state eyes world host old watch fits keep alone.there in
    let me = own.fit.me in
    let same : step.state ≡ old = some_is (sym step.obeys ∙ alone.there) in
    let outcome = step.outcome in
    let turns : IsTurn eyes.code old outcome = subst (λ (s : HostState). IsTurn eyes.code s outcome) same step.turns in
    let leaves : after_step world host outcome (label_of_turn eyes.code old) ≡ after =
    subst (λ (s : HostState). after_step world host outcome (label_of_turn eyes.code s) ≡ after) same step.leaves in
    let moved : Moved world host outcome.state after.flying after =
    record { hosts = turn_puts eyes.code world after host step; flying = refl } in
    let after_me : state_at after host ≡ Some outcome.state =
    mover_state world after host old outcome.state after.flying alone.there moved in
    let fit : StateFits eyes.code outcome.state =
    (subst (λ one. IfSome one (IsStateOf eyes.code host)) after_me (fits_after.states host)).fits in
    let result = turned_leads eyes world after old outcome alone.thread alone.instruction now are sound calm
    own.fit.fits own.obeys
    own.keeps (ap (state_at world) me ∙ alone.there) alone.running
    (subst (λ (h : HostId). instruction_at eyes.code h alone.thread.at ≡ Some alone.instruction) (sym me) alone.is)
    (subst (λ (h : HostId). ChangesAlone eyes.code h alone.thread.held alone.instruction.op) (sym me) alone.alone) turns
    (ap (λ (h : HostId). after_step world h outcome (label_of_turn eyes.code old)) me ∙ leaves) fit
    (subst (λ (h : HostId). HostKeeps eyes h outcome.state) (sym me) (keep_after host outcome.state after_me)) in (
      result.0,
      subst (λ (h : HostId). SeenTurn eyes now h (carried_in eyes old alone.thread alone.instruction.op)
          result.0) me result.1,
      result.2,
    )

pub reached_leads : (eyes : Eyes) (rows : List declared_hosts.HostShape) (bad : ℕ) (store : List (List ℤ))
    (events : List Event) (world after : WorldShape) (host : HostId) (now : LowView)
    (alone : RunsAtInstruction eyes.code world host) → AreEyes eyes →
    Watches eyes (world_at_start eyes.code rows bad store) →
    IsReached eyes.code rows bad store events world → IsStep eyes.code world (Turn host) after →
    IsQuiet eyes.code world → Leads eyes world now →
    (seen : LowView)
    × SeenTurn eyes now host (carried_in eyes alone.state alone.thread alone.instruction.op) seen
    × Leads eyes after seen
reached_leads eyes rows bad store events world after host now alone are watch reach step quiet leads =
    let points = points_kept eyes rows bad store events world are watch reach in
    let fits = fits_there eyes.code rows bad store events world reach in
    let then_reached = one_more eyes.code rows bad store events world after (Turn host) reach tt step in
    let then_points = points_kept eyes rows bad store (events ++ Turn host ∷ []) after are watch then_reached in
    alone_leads eyes world after host now alone are reach.sound points.0 fits
    (shape_step eyes.code world after (Turn host) reach.sound fits tt step) points.1.hosts then_points.1.hosts step
    (quiet_calm eyes world now are points.0 fits quiet leads)
