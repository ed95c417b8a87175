-- A secret turn leads to the same view.
use Rattle.std.proofs.Common.{◌≡◌, ◌∙◌, ℕ, Bool, true, false, List, [], ◌∷◌, Option, Some, None, refl}
use Rattle.std.proofs.Common.{ap, sym, subst}
use Rattle.std.specs.Prelude.{◌==◌, ◌↔◌, if◌then◌else◌, IfSome, IsTrue}
use Rattle.js_base.specs.declared.ids.HostId.{HostId}
use Rattle.js_base.specs.declared.ids.FrameId.{FrameId}
use Rattle.capability.specs.declared.token.Token.{Token}
use Rattle.host_code.specs.declared.instruction.Instr.{Instr}
use Rattle.host_code.specs.declared.instruction.Op.{Op}
use Rattle.host_code.specs.declared.instruction.Op.TheVariants as op
use Rattle.host_code.specs.declared.message.Message.{Message}
use Rattle.host_code.specs.declared.message.Message.TheVariants as message
use Rattle.host_code.specs.Code.{instruction_at, field_at}
use Rattle.host_code.specs.Sound.{IsSoundCode, OperationFits}
use Rattle.host_code.specs.Thread.{ThreadShape}
use Rattle.host_core.specs.Fits.{RunningFits, StateFits}
use Rattle.host_core.specs.Host.{HostState, Outcome, with_running, without_message, with_message}
use Rattle.host_core.specs.Turn.{IsTurn, IsTurnOf, IsRunning, after_operation, after_back, PassesWith, label_of_turn}
use Rattle.event_text.specs.declared.event.Event.TheVariants.{Turn}
use Rattle.net_world.specs.Fits.{ShapeFits, IsStateOf}
use Rattle.net_world.specs.Flying.{Flying, Flight}
use Rattle.net_world.specs.Secret.{IsSecret}
use Rattle.net_world.specs.World.{WorldShape, state_at, after_step, IsStep}
use Rattle.net_world.proofs.Moved.{Moved, mover_state, moved_silent, silent_sent, moved_posted}
use Rattle.net_world.proofs.Present.{same_id}
use Rattle.net_world.proofs.StepLaws.{turn_puts}
use Rattle.split_shades.specs.ShadedCode.{IsShadedOp}
use Rattle.token_laws.proofs.Tests.{number_same, some_found}
use Rattle.seen_world.specs.Eyes.{Eyes, AreEyes, Watches, sees_at, is_open, is_deep}
use Rattle.seen_world.specs.Points.{RunsWell, HostKeeps, HostsKeep}
use Rattle.seen_world.proofs.PointsAtStart.{own_state}
use Rattle.seen_world.proofs.SecretTurns.{secret_told}
use Rattle.seen_world.proofs.SeenWorlds.{turn_secret}
use Rattle.agreement.specs.Leads.{UnseenHolder, runs, flies_on, HiddenEntry, hidden_running, hidden_flights, HeldAt}
use Rattle.agreement.specs.Leads.{Hides, Owes}
use Rattle.agreement.specs.Leads.{KeepsUnseen, Leads}
use Rattle.agreement.specs.Views.{LowView, Shows, Completed, at, given_back, OwedInView, gives, goes_on, exit_of}
use Rattle.agreement.specs.Views.{flights_view}
use Rattle.agreement.proofs.Branches.{branch_ends}
use Rattle.agreement.proofs.Ends.{Sends, Ends, Unseen, shows_then, hands_unseen}
use Rattle.agreement.proofs.GivesBack.{given_ends}
use Rattle.agreement.proofs.Places.{instruction_within, deep_of}
use Rattle.agreement.proofs.Steps.{moved_leads, FlyOpenly, FlyAlike, posted_alone, posted_alike, runs_apart}
use Rattle.agreement.proofs.Steps.{holder_runs}
use Rattle.agreement.proofs.Transfers.{push_ends, go_ends, go_with_ends, call_ends, call_with_ends, either_by}
use Rattle.agreement.proofs.Turns.{EndsIn, IsHere, same_seen, read_ends, put_ends, let_ends, send_ends, frame_ends}
use Rattle.agreement.proofs.Turns.{return_ends, ask_ends}

-- ---- a token is given back

pub gives_moved : (eyes : Eyes) (links : List HiddenEntry) (owed : OwedInView) (host : HostId) (place : ℕ)
    (frame : FrameId)
    (token : Token) → is_deep eyes host place ≡ true → Owes eyes (at host place frame token) links owed →
    Owes eyes (given_back token) links owed
gives_moved eyes [] owed host place frame token deep owes =
    sym (ap (λ (b : Bool). if b then gives token else goes_on host (exit_of eyes host place) frame token) deep) ∙ owes
gives_moved eyes (link ∷ links) owed host place frame token deep owes = (tt, owes.1, owes.2)

back_ends : (eyes : Eyes) (old : HostState) (thread : ThreadShape) (links : List HiddenEntry) (token : Token)
    (owed : OwedInView)
    (now shown : LowView) (label : ℕ) (there : Instr) (passes : Bool) →
    Unseen eyes old thread links token owed now shown → IsHere eyes old thread there →
    IsShadedOp eyes.scene eyes.shades old.me thread.at op.Back →
    (IsTrue passes ↔ PassesWith eyes.code (with_running old None) op.Back thread.held) →
    EndsIn eyes old thread links now shown label (after_back eyes.code (with_running old None) thread thread.held
    passes)
back_ends eyes old thread links token owed now shown label there passes run is law checks =
    let bare = with_running old None in
    let deep = deep_of eyes run.are old.me thread.at there is law.2 run.hidden in
    let back : Owes eyes (given_back token) links owed =
    gives_moved eyes links owed old.me thread.at thread.frame token deep run.owes in
    let checked : IsTrue passes ↔ PassesWith eyes.code bare op.Back (Some token) =
    subst (λ held. IsTrue passes ↔ PassesWith eyes.code bare op.Back held) run.held checks in
    subst (λ held. EndsIn eyes old thread links now shown label (after_back eyes.code bare thread held passes))
    (sym run.held)
    (either_by (EndsIn eyes old thread links now shown label) (token.host.0 == old.me.0) _ _
    (λ same fits.
    let number : token.host.0 ≡ old.me.0 = number_same token.host.0 old.me.0 same in
    given_ends eyes bare (runs old.me thread) links token owed now shown label passes (record {
      are = run.are;
      rests = refl;
      stands = run.keeps.entries;
      waiting = run.hides.waiting;
      entries = run.hides.entries;
      shows = shows_then eyes old bare thread links token owed now shown run (same_seen eyes old.me old None) refl refl;
      runs_apart = λ other apart. runs_apart old.me other thread apart;
      waits_none = λ other. refl;
      owes = back;
      well = run.owed_well;
      completed = run.completed;
      host = same_id token.host old.me number;
    }) (λ yes. checked.0 yes number) (λ top. checked.1 (λ n. top)))
    (λ apart fits. hands_unseen eyes old thread links token owed now shown label token.host (message.Lgoto token)
    (given_back token) run (refl, refl) back))

-- ---- each instruction

operation_ends : (eyes : Eyes) (old : HostState) (thread : ThreadShape) (links : List HiddenEntry) (token : Token)
    (owed :
    OwedInView)
    (now shown : LowView) (label count : ℕ) (there : Instr) (it : Op) (passes : Bool) →
    Unseen eyes old thread links token owed now shown → IsHere eyes old thread there →
    IsShadedOp eyes.scene eyes.shades old.me thread.at it → OperationFits eyes.code old.me count it →
    (IsTrue passes ↔ PassesWith eyes.code (with_running old None) it thread.held) →
    EndsIn eyes old thread links now shown label (after_operation eyes.code (with_running old None) thread it passes)
operation_ends eyes old thread links token owed now shown label count there (op.Read field index) passes run is law
    fits checks =
    read_ends eyes old thread links token owed now shown label there field index run is law (field_at eyes.code field)
operation_ends eyes old thread links token owed now shown label count there (op.Let x value) passes run is law
    fits checks =
    let_ends eyes old thread links token owed now shown label there thread.frame x value false law.0 run is law.1.1
    law.1.2
    law.1.3 law.2
operation_ends eyes old thread links token owed now shown label count there (op.Put field index value) passes run is law
    fits checks =
    put_ends eyes old thread links token owed now shown label there field index value run is law
    (field_at eyes.code field)
operation_ends eyes old thread links token owed now shown label count there (op.Send x to) passes run is law
    fits checks =
    send_ends eyes old thread links token owed now shown label thread.frame x to run
operation_ends eyes old thread links token owed now shown label count there (op.Frame site) passes run is law
    fits checks =
    frame_ends eyes old thread links token owed now shown label there site run is law
operation_ends eyes old thread links token owed now shown label count there (op.Arg x value) passes run is law
    fits checks =
    let_ends eyes old thread links token owed now shown label there thread.new_frame x value true law.0 run is law.1.1
    law.1.2 law.1.3 law.2
operation_ends eyes old thread links token owed now shown label count there (op.Pass x to) passes run is law
    fits checks =
    send_ends eyes old thread links token owed now shown label thread.new_frame x to run
operation_ends eyes old thread links token owed now shown label count there (op.Push entry) passes run is law
    fits checks =
    push_ends eyes old thread links token owed now shown label there entry run is law fits
operation_ends eyes old thread links token owed now shown label count there (op.Ask entry on) passes run is law
    fits checks =
    ask_ends eyes old thread links token owed now shown label entry on run
operation_ends eyes old thread links token owed now shown label count there (op.Go entry on) passes run is law
    fits checks =
    go_ends eyes old thread links token owed now shown label there entry on run is law fits.0
operation_ends eyes old thread links token owed now shown label count there (op.Call entry on) passes run is law
    fits checks =
    call_ends eyes old thread links token owed now shown label there entry on run is law fits.0
operation_ends eyes old thread links token owed now shown label count there (op.GoWith entry on riders) passes run is
    law fits checks =
    go_with_ends eyes old thread links token owed now shown label there entry on riders run is law fits.0
operation_ends eyes old thread links token owed now shown label count there (op.CallWith entry on riders) passes run is
    law fits checks =
    call_with_ends eyes old thread links token owed now shown label there entry on riders run is law fits.0
operation_ends eyes old thread links token owed now shown label count there (op.Ret x value) passes run is law
    fits checks =
    return_ends eyes old thread links token owed now shown label there x value passes run is law
operation_ends eyes old thread links token owed now shown label count there op.Back passes run is law
    fits checks =
    back_ends eyes old thread links token owed now shown label there passes run is law checks
operation_ends eyes old thread links token owed now shown label count there (op.Branch guard target) passes run is law
    fits checks =
    branch_ends eyes old thread links token owed now shown label there guard target run is law

-- ---- a step of a host

-- with what is in flight but for a message that was taken
pub ends_leads : (eyes : Eyes) (world after : WorldShape) (flying : Flying) (me : HostId) (old : HostState)
    (outcome : Outcome) (label : ℕ) (owed : OwedInView) (keeps : KeepsUnseen eyes world owed) (now shown : LowView) →
    Shows eyes world now → Watches eyes world → state_at world me ≡ Some old → FlyOpenly eyes flying →
    FlyAlike eyes flying world.flying → sees_at eyes label ≡ false →
    IfSome outcome.sent (λ it. eyes.bad it.0 ≡ false) →
    after_step (record world { flying = flying }) me outcome (Some label) ≡ after →
    Ends eyes me keeps.holder keeps.links now shown label outcome → Leads eyes after shown
ends_leads eyes world after flying me old outcome label owed keeps now shown shows watch obeys openly alike hidden good
    leaves ends = by outcome.sent refl ends.sends good
  where
    by : (sent : Option (HostId × Message)) → outcome.sent ≡ sent → Sends me label sent ends.later →
        IfSome sent (λ it. eyes.bad it.0 ≡ false) → Leads eyes after shown
    by None is sends told =
        let from : WorldShape = record world { flying = flying } in
        let out : without_message outcome.state ≡ outcome = ap (λ s. record { state = outcome.state; sent = s }) (sym
        is) in
        let moved = moved_silent from me outcome outcome.state (Some label) after out leaves in
        let own : Moved world me outcome.state after.flying after = record { hosts = moved.hosts; flying = refl } in
        moved_leads eyes world after me old outcome.state owed keeps now shown ends.later shows obeys own
        (silent_sent from me outcome outcome.state (Some label) after out leaves)
        (λ i j. ap (λ (f : Flying). hidden_flights eyes (f i j)) moved.flying ∙ openly i j ∙ sym (sends i j))
        (λ i j. ap (λ (f : Flying). flights_view eyes i j (f i j)) moved.flying ∙ alike i j) ends.leaves
    by (Some it) is sends told =
        let from : WorldShape = record world { flying = flying } in
        let flight : Flight = record { message = it.1; label = label } in
        let out : with_message outcome.state it.0 it.1 ≡ outcome =
        ap (λ s. record { state = outcome.state; sent = s }) (sym is) in
        let posted = moved_posted from me outcome old outcome.state it.0 it.1 (Some label) label after obeys
        (watch it.0 ∙ told) refl out leaves in
        let own : Moved world me outcome.state after.flying after = record {
          hosts = posted.moved.hosts;
          flying = refl;
        } in
        moved_leads eyes world after me old outcome.state owed keeps now shown ends.later shows obeys own posted.sent
        (λ i j. ap (λ (f : Flying). hidden_flights eyes (f i j)) posted.moved.flying
        ∙ posted_alone eyes flying me it.0 flight openly hidden i j ∙ sym (sends i j))
        (λ i j. ap (λ (f : Flying). flights_view eyes i j (f i j)) posted.moved.flying
        ∙ posted_alike eyes flying me it.0 flight hidden i j ∙ alike i j) ends.leaves

-- ---- a turn

-- what holds where a thread runs unseen
turn_unseen : (eyes : Eyes) (world : WorldShape) (old : HostState) (thread : ThreadShape) (owed : OwedInView)
    (keeps : KeepsUnseen eyes world owed) (now shown : LowView) → AreEyes eyes → IsSoundCode eyes.code →
    eyes.bad old.me ≡ false → HostKeeps eyes old.me old → state_at world old.me ≡ Some old →
    old.running ≡ Some thread → is_open eyes old.me thread.at ≡ false → Shows eyes world now →
    Completed eyes owed now shown → (keeps.holder ≡ runs old.me thread)
    × ((token : Token) × Unseen eyes old thread keeps.links token owed now shown)
turn_unseen eyes world old thread owed keeps now shown are sound obeys own there is hidden shows completed =
    let hides = keeps.hides old.me old there in
    let unseen : hidden_running eyes old.me old.running ≡ Some thread =
    ap (hidden_running eyes old.me) is ∙ ap (λ (b : Bool). if b then None else Some thread) hidden in
    let holder : keeps.holder ≡ runs old.me thread = holder_runs keeps.holder old.me thread (sym hides.running ∙
    unseen) in
    let held : HeldAt eyes (runs old.me thread) keeps.spot = subst (λ h. HeldAt eyes h keeps.spot) holder keeps.held
    in (
      holder,
      (
        held.0,
        record {
          are = are;
          sound = sound;
          obeys = obeys;
          keeps = own;
          is_running = is;
          well = subst (λ running. IfSome running (RunsWell eyes old.me)) is own.running;
          hidden = hidden;
          held = held.1;
          hides = subst (λ h. Hides eyes h keeps.links old.me old) holder hides;
          owes = subst (λ spot. Owes eyes spot keeps.links owed) held.2 keeps.owes;
          owed_well = keeps.well;
          shows = shows.hosts old.me old there;
          completed = completed;
        },
      ),
    )

turned : (eyes : Eyes) (world after : WorldShape) (old : HostState) (outcome : Outcome) (thread : ThreadShape)
    (there : Instr) (shown : LowView) → AreEyes eyes → IsSoundCode eyes.code → Watches eyes world →
    ShapeFits eyes.code after → StateFits eyes.code old → eyes.bad old.me ≡ false → HostKeeps eyes old.me old →
    state_at world old.me ≡ Some old → old.running ≡ Some thread → IsHere eyes old thread there →
    is_open eyes old.me thread.at ≡ false → IsTurn eyes.code old outcome →
    after_step world old.me outcome (label_of_turn eyes.code old) ≡ after → state_at after old.me ≡ Some outcome.state →
    Leads eyes world shown → Leads eyes after shown
turned eyes world after old outcome thread there shown are sound watch fits_after fits obeys own at_me is here hidden
    turns
    leaves after_me leads =
    let unseen = turn_unseen eyes world old thread leads.owed leads.keeps leads.now shown are sound obeys own at_me is
    hidden leads.shows leads.completed in
    let run = unseen.1.1 in
    let links = leads.keeps.links in
    let label = there.label in
    let shaded = are.shaded.instructions old.me thread.at there here in
    let same : sees_at eyes label ≡ is_open eyes old.me thread.at = rw shaded.label_is refl in
    let label_is : label_of_turn eyes.code old ≡ Some label = rw (is, here) refl in
    let fit : StateFits eyes.code outcome.state =
    (subst (λ one. IfSome one (IsStateOf eyes.code old.me)) after_me (fits_after.states old.me)).fits in
    let runs_it : IsRunning eyes.code (with_running old None) thread (Some there) outcome =
    subst (λ found. IsRunning eyes.code (with_running old None) thread found outcome) here
    (subst (λ running. IsTurnOf eyes.code old running outcome) is turns) in
    let ends : Ends eyes old.me (runs old.me thread) links leads.now shown label outcome =
    subst (λ (o : Outcome). EndsIn eyes old thread links leads.now shown label o) runs_it.2
    (operation_ends eyes old thread links unseen.1.0 leads.owed leads.now shown label _ there there.op runs_it.0 run
    here
    shaded.law ((sound.parts old.me fits.me).instructions thread.at there here).operation runs_it.1) fit in
    ends_leads eyes world after world.flying old.me old outcome label leads.owed leads.keeps leads.now shown leads.shows
    watch at_me
    (λ i j. leads.keeps.flying i j ∙ ap (λ (h : UnseenHolder). flies_on h i j) unseen.0) (λ i j. refl) (same ∙ hidden)
    (secret_told eyes old thread outcome are is run.well hidden turns)
    (ap (after_step world old.me outcome) (sym label_is) ∙ leaves)
    (subst (λ h. Ends eyes old.me h links leads.now shown label outcome) (sym unseen.0) ends)

pub turn_leads : (eyes : Eyes) (world after : WorldShape) (host : HostId) (shown : LowView) → AreEyes eyes →
    IsSoundCode eyes.code → Watches eyes world → ShapeFits eyes.code world → ShapeFits eyes.code after →
    HostsKeep eyes world → IsStep eyes.code world (Turn host) after → IsSecret eyes.code world (Turn host) →
    Leads eyes world shown → Leads eyes after shown
turn_leads eyes world after host shown are sound watch fits fits_after keep step secret leads =
    let state = step.state in
    let own = own_state eyes world host state watch fits keep step.obeys in
    let me = own.fit.me in
    let thread = some_found state.running step.runs in
    let runs_well : RunningFits eyes.code state.me thread.0 =
    subst (λ running. IfSome running (RunningFits eyes.code state.me)) thread.1 own.fit.fits.running in
    let there = instruction_within eyes state.me thread.0.at runs_well.place in
    let there_is : instruction_at eyes.code host thread.0.at ≡ Some there.0 =
    subst (λ (h : HostId). instruction_at eyes.code h thread.0.at ≡ Some there.0) me there.1 in
    let hidden : is_open eyes host thread.0.at ≡ false =
    (turn_secret eyes world host state thread.0 there.0 are watch step.obeys me thread.1 there_is).1 secret in
    let moved : Moved world host step.outcome.state after.flying after =
    record { hosts = turn_puts eyes.code world after host step; flying = refl } in
    let after_me : state_at after host ≡ Some step.outcome.state =
    mover_state world after host state step.outcome.state after.flying step.obeys moved in
    turned eyes world after state step.outcome thread.0 there.0 shown are sound watch fits_after own.fit.fits own.obeys
    own.keeps (ap (state_at world) me ∙ step.obeys) thread.1 there.1
    (ap (λ (h : HostId). is_open eyes h thread.0.at) me ∙ hidden) step.turns
    (ap (λ (h : HostId). after_step world h step.outcome (label_of_turn eyes.code state)) me ∙ step.leaves)
    (ap (state_at after) me ∙ after_me) leads
