-- Two quiet worlds that lead to one view still do after the same turn that may be seen and releases the same.
use Rattle.std.proofs.Common.{◌≡◌, ◌∙◌, ℕ, List, [], ◌∷◌, Option, Some, None, ap, sym, subst}
use Rattle.std.specs.Prelude.{◌==◌, true, false, ℤ, Bool, if◌then◌else◌, IfSome, map}
use Rattle.js_base.specs.declared.ids.HostId.{HostId}
use Rattle.js_base.specs.declared.ids.VarId.{VarId}
use Rattle.capability.specs.declared.token.Token.{Token}
use Rattle.host_decl.specs.Hosts as declared_hosts
use Rattle.host_code.specs.declared.code.Entry.{Entry}
use Rattle.host_code.specs.declared.instruction.Instr.{Instr}
use Rattle.host_code.specs.declared.instruction.Op.{Op}
use Rattle.host_code.specs.declared.instruction.Op.TheVariants as op
use Rattle.host_code.specs.Code.{instruction_at, entry_at}
use Rattle.host_code.specs.Sound.{IsSoundCode, IsHost}
use Rattle.host_code.specs.Thread.{ThreadShape}
use Rattle.host_core.specs.Host.{HostState, value_in_thread}
use Rattle.event_text.specs.declared.event.Event.{Event}
use Rattle.event_text.specs.declared.event.Event.TheVariants.{Turn}
use Rattle.net_world.specs.Fits.{ShapeFits, IsStateOf}
use Rattle.net_world.specs.Released.{released_at}
use Rattle.net_world.specs.Secret.{IsQuiet}
use Rattle.net_world.specs.World.{WorldShape, state_at, IsStep, world_at_start}
use Rattle.token_laws.specs.Reached.{IsReached}
use Rattle.token_laws.proofs.Walks.{fits_there}
use Rattle.split_rules.specs.Releases.{ReleasesShape}
use Rattle.split_shades.specs.ShadedCode.{IsTabled}
use Rattle.seen_world.specs.Eyes.{Eyes, AreEyes, Watches}
use Rattle.seen_world.proofs.SeenPlaces.{some_is}
use Rattle.seen_world.proofs.PointsKept.{points_kept}
use Rattle.agreement.specs.Handing.{RunsHanding}
use Rattle.agreement.specs.Leads.{Leads, Agree}
use Rattle.agreement.specs.Turns.{ChangesAlone, RunsAtInstruction, Carried, carried_in, ComesInto, ComesWithResult}
use Rattle.agreement.specs.Turns.{SeenOperation}
use Rattle.agreement.specs.Turns.{SeenTurn, host_idle}
use Rattle.agreement.specs.Views.{gives, with_host, LowView, running_view, thread_view, masked_all}
use Rattle.agreement.proofs.CarriedSame.{Twins, operation_same}
use Rattle.agreement.proofs.Coming.{comes_once}
use Rattle.agreement.proofs.Lists.{each_same}
use Rattle.agreement.proofs.ReleasedTurns.{turns_release}
use Rattle.token_laws.proofs.Tests.{some_found}
use Rattle.agreement.proofs.ViewLaws.{completed_once}
use Rattle.agreement.proofs.SeenHandings.{same_first, reached_hands, handing_once, handed_too}
use Rattle.agreement.proofs.SeenLeads.{Calm, quiet_calm, calm_open, reached_leads}

-- ---- one view

into_once : (eyes : Eyes) (now : LowView) (host : HostId) (thread : ThreadShape) (token : Token) (found : Option Entry)
    (first second : LowView) → ComesInto eyes now host thread token found first →
    ComesInto eyes now host thread token found second → first ≡ second
into_once eyes now host thread token None first second one two = absurd one
into_once eyes now host thread token (Some there) first second one two =
    comes_once eyes _ host _ token first second one two

result_once : (eyes : Eyes) (now : LowView) (host : HostId) (thread : ThreadShape) (token : Token) (x : VarId)
    (value : ℤ)
    (own : Bool) (first second : LowView) → ComesWithResult eyes now host thread token x value own first →
    ComesWithResult eyes now host thread token x value own second → first ≡ second
result_once eyes now host thread token x value true first second one two =
    comes_once eyes _ host _ token first second one two
result_once eyes now host thread token x value false first second one two =
    comes_once eyes _ host _ token first second one two

operation_once : (eyes : Eyes) (now : LowView) (host : HostId) (thread : ThreadShape) (token : Token) (it : Op)
    (carried : Carried) (first second : LowView) → SeenOperation eyes now host thread token it carried first →
    SeenOperation eyes now host thread token it carried second → first ≡ second
operation_once eyes now host thread token (op.Let x value) carried first second one two =
    comes_once eyes _ host _ token first second one two
operation_once eyes now host thread token (op.Arg x value) carried first second one two =
    comes_once eyes _ host _ token first second one two
operation_once eyes now host thread token (op.Put field index value) carried first second one two =
    comes_once eyes _ host _ token first second one two
operation_once eyes now host thread token (op.Branch guard target) carried first second one two =
    comes_once eyes _ host _ token first second one two
operation_once eyes now host thread token (op.Read field index) carried first second one two =
    comes_once eyes _ host _ token first second one two
operation_once eyes now host thread token (op.Send x to) carried first second one two = absurd one
operation_once eyes now host thread token (op.Frame site) carried first second one two =
    comes_once eyes _ host _ _ first second one two
operation_once eyes now host thread token (op.Pass x to) carried first second one two = absurd one
operation_once eyes now host thread token (op.Push entry) carried first second one two =
    comes_once eyes _ host _ _ first second one two
operation_once eyes now host thread token (op.Ask entry on) carried first second one two = absurd one
operation_once eyes now host thread token (op.Go entry on) carried first second one two = absurd one
operation_once eyes now host thread token (op.Call entry on) carried first second one two =
    into_once eyes now host thread token (entry_at eyes.code entry) first second one two
operation_once eyes now host thread token (op.GoWith entry on riders) carried first second one two = absurd one
operation_once eyes now host thread token (op.CallWith entry on riders) carried first second one two = absurd one
operation_once eyes now host thread token (op.Ret x value) carried first second one two =
    result_once eyes now host thread token x carried.value (token.host.0 == host.0) first second one two
operation_once eyes now host thread token op.Back carried first second one two =
    completed_once eyes (gives token) (with_host now host (host_idle (now.hosts host))) first second one two

pub seen_once : (eyes : Eyes) (now : LowView) (host : HostId) (carried : Carried) (first second : LowView) →
    SeenTurn eyes now host carried first → SeenTurn eyes now host carried second → first ≡ second
seen_once eyes now host carried first second one two =
    let thread : two.thread ≡ one.thread = same_first two.thread one.thread (sym two.running ∙ one.running) in
    let token : two.token ≡ one.token =
    some_is (sym two.held ∙ ap (λ (t : ThreadShape). t.held) thread ∙ one.held) in
    let there : two.instruction ≡ one.instruction =
    some_is
    (sym two.is ∙ ap (λ (t : ThreadShape). instruction_at eyes.code host t.at) thread ∙ one.is) in
    operation_once eyes now host one.thread one.token one.instruction.op carried first second one.seen
    (subst (λ (t : ThreadShape). SeenOperation eyes now host t one.token one.instruction.op carried second) thread
    (subst (λ (t : Token). SeenOperation eyes now host two.thread t one.instruction.op carried second) token
    (subst (λ (i : Instr). SeenOperation eyes now host two.thread two.token i.op carried second) there two.seen)))

-- ---- two worlds

-- the thread that is seen on a host of a calm world
shown_running : (eyes : Eyes) (world : WorldShape) (now : LowView) (host : HostId) (state : HostState)
    (thread : ThreadShape) → Calm eyes world now → state_at world host ≡ Some state → state.running ≡ Some thread →
    (now.hosts host).running ≡ thread_view eyes host thread.at thread ∷ []
shown_running eyes world now host state thread calm there is =
    sym (calm.shows.hosts host state there).running ∙ ap (running_view eyes host) is
    ∙ ap (λ (b : Bool). if b then thread_view eyes host thread.at thread ∷ [] else [])
    (calm_open eyes host state.running thread is (calm.running host state there))

pub state_me : (eyes : Eyes) (world : WorldShape) (host : HostId) (state : HostState) → ShapeFits eyes.code world →
    state_at world host ≡ Some state → IsStateOf eyes.code host state
state_me eyes world host state fits there =
    subst (λ one. IfSome one (IsStateOf eyes.code host)) there (fits.states host)

pub twins_of : (eyes : Eyes) (one other : WorldShape) (now : LowView) (host : HostId) (state mirror : HostState)
    (thread twin : ThreadShape) → ShapeFits eyes.code one → ShapeFits eyes.code other → Calm eyes one now →
    Calm eyes other now → state_at one host ≡ Some state → state_at other host ≡ Some mirror →
    state.running ≡ Some thread → mirror.running ≡ Some twin → Twins eyes host state mirror thread twin
twins_of eyes one other now host state mirror thread twin fits fits_other calm calm_other there there_other is
    is_other =
    let same : thread_view eyes host thread.at thread ≡ thread_view eyes host twin.at twin =
    same_first (thread_view eyes host thread.at thread) (thread_view eyes host twin.at twin)
    (sym (shown_running eyes one now host state thread calm there is)
    ∙ shown_running eyes other now host mirror twin calm_other there_other is_other) in
    let place : thread.at ≡ twin.at = ap (λ (t : ThreadShape). t.at) same in
    record {
      me_one = (state_me eyes one host state fits there).me;
      me_other = (state_me eyes other host mirror fits_other there_other).me;
      place = sym place;
      frame = sym (ap (λ (t : ThreadShape). t.frame) same);
      new_frame = sym (ap (λ (t : ThreadShape). t.new_frame) same);
      held = sym (ap (λ (t : ThreadShape). t.held) same);
      temps = ap (λ (t : ThreadShape). t.temporaries) same
          ∙ ap (λ n. masked_all eyes (eyes.shades.at host n).temps twin.temporaries) (sym place);
      rows = λ field seen. (calm.shows.hosts host state there).rows field seen
          ∙ sym ((calm_other.shows.hosts host mirror there_other).rows field seen);
      variables = λ frame x seen. (calm.shows.hosts host state there).variables frame x seen
          ∙ sym ((calm_other.shows.hosts host mirror there_other).variables frame x seen);
    }

-- the other runs the same instruction
alone_too : (eyes : Eyes) (one other after : WorldShape) (now : LowView) (host : HostId) → ShapeFits eyes.code one →
    ShapeFits eyes.code other → Calm eyes one now → Calm eyes other now → RunsAtInstruction eyes.code one host →
    IsStep eyes.code other (Turn host) after → RunsAtInstruction eyes.code other host
alone_too eyes one other after now host fits fits_other calm calm_other alone step =
    let thread = some_found step.state.running step.runs in
    let twins = twins_of eyes one other now host alone.state step.state alone.thread thread.0 fits fits_other calm
    calm_other alone.there step.obeys alone.running thread.1 in
    record {
      state = step.state;
      there = step.obeys;
      thread = thread.0;
      running = thread.1;
      instruction = alone.instruction;
      is = ap (instruction_at eyes.code host) twins.place ∙ alone.is;
      alone = subst (λ held. ChangesAlone eyes.code host held alone.instruction.op) (sym twins.held) alone.alone;
    }

calm_carried : (eyes : Eyes) (one other : WorldShape) (now : LowView) (host : HostId)
    (alone : RunsAtInstruction eyes.code one host) (twin : RunsAtInstruction eyes.code other host) → AreEyes eyes →
    IsSoundCode eyes.code →
    map (value_in_thread alone.state alone.thread) (eyes.shades.at host alone.thread.at).released
    ≡ map (value_in_thread twin.state twin.thread) (eyes.shades.at host alone.thread.at).released →
    ShapeFits eyes.code one → ShapeFits eyes.code other → Calm eyes one now → Calm eyes other now →
    carried_in eyes alone.state alone.thread alone.instruction.op
    ≡ carried_in eyes twin.state twin.thread twin.instruction.op
calm_carried eyes one other now host alone twin are sound same fits fits_other calm calm_other =
    let twins = twins_of eyes one other now host alone.state twin.state alone.thread twin.thread fits fits_other calm
    calm_other alone.there twin.there alone.running twin.running in
    let there : twin.instruction ≡ alone.instruction =
    some_is
    (sym twin.is ∙ ap (instruction_at eyes.code host) twins.place ∙ alone.is) in
    let own = state_me eyes one host alone.state fits alone.there in
    let is_host : IsHost eyes.code host = subst (IsHost eyes.code) own.me own.fits.me in
    operation_same eyes host alone.state twin.state alone.thread twin.thread _ alone.instruction.op are twins
    (calm_open eyes host alone.state.running alone.thread alone.running
    (calm.running host alone.state alone.there))
    (are.shaded.instructions host alone.thread.at alone.instruction alone.is).law
    ((sound.parts host is_host).instructions alone.thread.at alone.instruction alone.is).operation
    (each_same (value_in_thread alone.state alone.thread) (value_in_thread twin.state twin.thread)
    (eyes.shades.at host alone.thread.at).released same)
    ∙ ap (λ (i : Instr). carried_in eyes twin.state twin.thread i.op) (sym there)

-- what is known of a quiet world that events lead to
pub reached_calm : (eyes : Eyes) (rows : List declared_hosts.HostShape) (bad : ℕ) (store : List (List ℤ))
    (events : List Event) (world : WorldShape) (now : LowView) → AreEyes eyes →
    Watches eyes (world_at_start eyes.code rows bad store) → IsReached eyes.code rows bad store events world →
    IsQuiet eyes.code world → Leads eyes world now → ShapeFits eyes.code world × Calm eyes world now
reached_calm eyes rows bad store events world now are watch reach quiet leads =
    let fits = fits_there eyes.code rows bad store events world reach in (
      fits,
      quiet_calm eyes world now are (points_kept eyes rows bad store events world are watch reach).0 fits quiet
          leads,
    )

pub carried_same : (eyes : Eyes) (rows : List declared_hosts.HostShape) (bad : ℕ) (store start : List (List ℤ))
    (events others : List Event) (one other : WorldShape) (host : HostId) (alone : RunsAtInstruction eyes.code one host)
    (twin : RunsAtInstruction eyes.code other host) → AreEyes eyes →
    map (value_in_thread alone.state alone.thread) (eyes.shades.at host alone.thread.at).released
    ≡ map (value_in_thread twin.state twin.thread) (eyes.shades.at host alone.thread.at).released →
    Watches eyes (world_at_start eyes.code rows bad store) → Watches eyes (world_at_start eyes.code rows bad start) →
    IsReached eyes.code rows bad store events one → IsReached eyes.code rows bad start others other →
    IsQuiet eyes.code one → IsQuiet eyes.code other → Agree eyes one other →
    carried_in eyes alone.state alone.thread alone.instruction.op
    ≡ carried_in eyes twin.state twin.thread twin.instruction.op
carried_same eyes rows bad store start events others one other host alone twin are same watch watch_other reach
    reach_other quiet quiet_other agree =
    let calm = reached_calm eyes rows bad store events one agree.shown are watch reach quiet agree.first in
    let calm_other =
    reached_calm eyes rows bad start others other agree.shown are watch_other reach_other quiet_other agree.second in
    calm_carried eyes one other agree.shown host alone twin are reach.sound same calm.0 calm_other.0 calm.1
    calm_other.1

pub turn_agrees : (eyes : Eyes) (rows : List declared_hosts.HostShape) (bad : ℕ) (store start : List (List ℤ))
    (events others : List Event) (one other one_after other_after : WorldShape) (host : HostId)
    (table : ReleasesShape) → AreEyes eyes → IsTabled eyes.code eyes.shades table →
    released_at table one host ≡ released_at table other host → Watches eyes (world_at_start eyes.code rows bad store) →
    Watches eyes (world_at_start eyes.code rows bad start) → IsReached eyes.code rows bad store events one →
    IsReached eyes.code rows bad start others other → RunsAtInstruction eyes.code one host →
    IsStep eyes.code one (Turn host) one_after → IsStep eyes.code other (Turn host) other_after →
    IsQuiet eyes.code one → IsQuiet eyes.code other → Agree eyes one other → Agree eyes one_after other_after
turn_agrees eyes rows bad store start events others one other one_after other_after host table are tabled same watch
    watch_other reach reach_other alone step step_other quiet quiet_other agree =
    let now = agree.shown in
    let calm = reached_calm eyes rows bad store events one now are watch reach quiet agree.first in
    let calm_other =
    reached_calm eyes rows bad start others other now are watch_other reach_other quiet_other agree.second in
    let twin = alone_too eyes one other other_after now host calm.0 calm_other.0 calm.1 calm_other.1 alone step_other in
    let first = reached_leads eyes rows bad store events one one_after host now alone are watch reach step quiet
    agree.first in
    let second = reached_leads eyes rows bad start others other other_after host now twin are watch_other reach_other
    step_other quiet_other agree.second in
    let twins = twins_of eyes one other now host alone.state twin.state alone.thread twin.thread calm.0 calm_other.0
    calm.1 calm_other.1 alone.there twin.there alone.running twin.running in
    let releases = turns_release eyes table one other host alone.state twin.state alone.thread twin.thread
    alone.instruction tabled alone.there twin.there alone.running twin.running alone.is twins.place same in
    let carried = calm_carried eyes one other now host alone twin are reach.sound releases calm.0 calm_other.0 calm.1
    calm_other.1 in
    let one_view : second.0 ≡ first.0 =
    seen_once eyes now host (carried_in eyes alone.state alone.thread alone.instruction.op) second.0 first.0
    (subst (λ (c : Carried). SeenTurn eyes now host c second.0) (sym carried) second.1) first.1 in
    record {
      shown = first.0;
      first = first.2;
      second = subst (Leads eyes other_after) one_view second.2;
    }

-- ---- control that is handed over

-- the other hands control over alike
handing_too : (eyes : Eyes) (one other after : WorldShape) (now : LowView) (host : HostId) → ShapeFits eyes.code one →
    ShapeFits eyes.code other → Calm eyes one now → Calm eyes other now → RunsHanding eyes.code one host →
    IsStep eyes.code other (Turn host) after → RunsHanding eyes.code other host
handing_too eyes one other after now host fits fits_other calm calm_other run step =
    let thread = some_found step.state.running step.runs in
    let twins = twins_of eyes one other now host run.state step.state run.thread thread.0 fits fits_other calm
    calm_other run.there step.obeys run.running thread.1 in
    let hands = handed_too run.state.variables step.state.variables host run.thread thread.0 run.token
    run.instruction.op run.to run.said run.hands in
    record {
      state = step.state;
      there = step.obeys;
      thread = thread.0;
      running = thread.1;
      token = run.token;
      held = twins.held ∙ run.held;
      instruction = run.instruction;
      is = ap (instruction_at eyes.code host) twins.place ∙ run.is;
      to = run.to;
      said = hands.0;
      hands = hands.1;
    }

pub hands_agree : (eyes : Eyes) (rows : List declared_hosts.HostShape) (bad : ℕ) (store start : List (List ℤ))
    (events others : List Event) (one other one_after other_after : WorldShape) (host : HostId) → AreEyes eyes →
    Watches eyes (world_at_start eyes.code rows bad store) → Watches eyes (world_at_start eyes.code rows bad start) →
    IsReached eyes.code rows bad store events one → IsReached eyes.code rows bad start others other →
    RunsHanding eyes.code one host → IsStep eyes.code one (Turn host) one_after →
    IsStep eyes.code other (Turn host) other_after → IsQuiet eyes.code one → IsQuiet eyes.code other →
    Agree eyes one other → Agree eyes one_after other_after
hands_agree eyes rows bad store start events others one other one_after other_after host are watch watch_other reach
    reach_other run step step_other quiet quiet_other agree =
    let now = agree.shown in
    let calm = reached_calm eyes rows bad store events one now are watch reach quiet agree.first in
    let calm_other =
    reached_calm eyes rows bad start others other now are watch_other reach_other quiet_other agree.second in
    let twin = handing_too eyes one other other_after now host calm.0 calm_other.0 calm.1 calm_other.1 run step_other
    in
    let first = reached_hands eyes rows bad store events one one_after host now run are watch reach step quiet
    agree.first in
    let second = reached_hands eyes rows bad start others other other_after host now twin are watch_other
    reach_other step_other quiet_other agree.second in
    record {
      shown = first.0;
      first = first.2;
      second = subst (Leads eyes other_after)
          (handing_once eyes now host second.0 first.0 second.1 first.1) second.2;
    }
