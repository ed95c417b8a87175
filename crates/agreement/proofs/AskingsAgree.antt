-- Two quiet worlds that lead to one view still do after the same turn that may be seen, releases the same and asks
-- another host.
use Rattle.std.proofs.Common.{◌≡◌, ◌∙◌, ℕ, Bool, List, Option, ap, sym, subst}
use Rattle.std.specs.Prelude.{true, ℤ, map}
use Rattle.js_base.specs.declared.ids.FrameId.{FrameId}
use Rattle.js_base.specs.declared.ids.HostId.{HostId}
use Rattle.capability.specs.declared.token.Token.{Token}
use Rattle.host_decl.specs.Hosts as declared_hosts
use Rattle.host_code.specs.declared.instruction.Instr.{Instr}
use Rattle.host_code.specs.declared.instruction.Op.{Op}
use Rattle.host_code.specs.declared.instruction.Op.TheVariants as op
use Rattle.host_code.specs.Code.{instruction_at}
use Rattle.host_code.specs.Sound.{IsSoundCode, IsHost, OperationFits}
use Rattle.host_code.specs.Thread.{ThreadShape}
use Rattle.host_core.specs.Host.{HostState, value_in_thread, next_request}
use Rattle.event_text.specs.declared.event.Event.{Event}
use Rattle.event_text.specs.declared.event.Event.TheVariants.{Turn}
use Rattle.net_world.specs.Fits.{ShapeFits}
use Rattle.net_world.specs.Released.{released_at}
use Rattle.net_world.specs.Secret.{IsQuiet}
use Rattle.net_world.specs.World.{WorldShape, IsStep, world_at_start}
use Rattle.token_laws.specs.Reached.{IsReached}
use Rattle.split_rules.specs.Releases.{ReleasesShape}
use Rattle.split_shades.specs.ShadedCode.{IsShadedOp, IsTabled}
use Rattle.seen_world.specs.Eyes.{Eyes, AreEyes, Watches, is_open}
use Rattle.seen_world.proofs.SeenPlaces.{some_is}
use Rattle.agreement.specs.Asking.{RunsAsking, carried_index, carried_asking, Question, asked, request_shown}
use Rattle.agreement.specs.Asking.{host_waiting, SeenAsking}
use Rattle.agreement.specs.Handing.{sent_view}
use Rattle.agreement.specs.Leads.{Leads, Agree}
use Rattle.agreement.specs.Turns.{Carried, carried_value}
use Rattle.agreement.specs.Views.{LowView, masked, sees_variable, sees_read, with_host}
use Rattle.agreement.proofs.CarriedSame.{Twins, ReleaseAlike, masks_same, read_sees, index_same, operation_same}
use Rattle.agreement.proofs.Lists.{each_same}
use Rattle.agreement.proofs.ReleasedTurns.{turns_release}
use Rattle.token_laws.proofs.Tests.{some_found}
use Rattle.agreement.proofs.SeenAgree.{state_me, twins_of, reached_calm}
use Rattle.agreement.proofs.SeenAskings.{reached_asks}
use Rattle.agreement.proofs.SeenHandings.{same_first}
use Rattle.agreement.proofs.SeenLeads.{Calm, calm_open}

-- ---- one view

pub asking_once : (eyes : Eyes) (now : LowView) (host : HostId) (carried : Carried) (first second : LowView) →
    SeenAsking eyes now host carried first → SeenAsking eyes now host carried second → first ≡ second
asking_once eyes now host carried first second one two =
    let thread : two.thread ≡ one.thread = same_first two.thread one.thread (sym two.running ∙ one.running) in
    let token : two.token ≡ one.token =
    some_is (sym two.held ∙ ap (λ (t : ThreadShape). t.held) thread ∙ one.held) in
    let there : two.instruction ≡ one.instruction =
    some_is (sym two.is ∙ ap (λ (t : ThreadShape). instruction_at eyes.code host t.at) thread ∙ one.is) in
    let shown = now.hosts host in
    let asks : ThreadShape → Token → Op → Option Question = λ t k it.
    asked eyes.code t k (request_shown shown t.at) carried it in
    let question : two.question ≡ one.question =
    some_is (sym two.asks_so ∙ ap (λ (t : ThreadShape). asks t two.token two.instruction.op) thread
    ∙ ap (λ (k : Token). asks one.thread k two.instruction.op) token
    ∙ ap (λ (i : Instr). asks one.thread one.token i.op) there ∙ one.asks_so) in
    let seen : ThreadShape → Question → ℕ → LowView = λ t q label.
    sent_view (with_host now host (host_waiting shown (request_shown shown t.at) q)) host q.to
    (record { message = q.said; label = label }) (eyes.bad q.to) in
    one.seen
    ∙ sym (two.seen ∙ ap (λ (t : ThreadShape). seen t two.question two.instruction.label) thread
    ∙ ap (λ (q : Question). seen one.thread q two.instruction.label) question
    ∙ ap (λ (i : Instr). seen one.thread one.question i.label) there)

-- ---- what is carried

asking_same : (eyes : Eyes) (me : HostId) (one other : HostState) (thread twin : ThreadShape) (count : ℕ) (it : Op) →
    AreEyes eyes → Twins eyes me one other thread twin → is_open eyes me thread.at ≡ true →
    IsShadedOp eyes.scene eyes.shades me thread.at it → OperationFits eyes.code me count it →
    ReleaseAlike one other thread twin (eyes.shades.at me thread.at).released →
    carried_asking eyes one thread it ≡ carried_asking eyes other twin it
asking_same eyes me one other thread twin count (op.Read field index) are same seen law fits releases =
    let number = value_in_thread one thread index in
    let mirror = value_in_thread other twin index in
    ap carried_index
    (ap (λ (b : Bool). masked b number) (read_sees eyes me one other thread twin same)
    ∙ masks_same (sees_read eyes other.me (next_request other twin.at)) number mirror
    (index_same eyes me one other thread twin count field index are same law fits.1 releases))
asking_same eyes me one other thread twin count (op.Send x to) are same seen law fits releases =
    ap carried_value
    (masks_same (sees_variable eyes x) (one.variables thread.frame x) (other.variables twin.frame x) (λ sees.
    same.variables thread.frame x sees ∙ ap (λ (f : FrameId). other.variables f x) (sym same.frame)))
asking_same eyes me one other thread twin count (op.Pass x to) are same seen law fits releases =
    ap carried_value
    (masks_same (sees_variable eyes x) (one.variables thread.new_frame x) (other.variables twin.new_frame x) (λ sees.
    same.variables thread.new_frame x sees ∙ ap (λ (f : FrameId). other.variables f x) (sym same.new_frame)))
asking_same eyes me one other thread twin count it are same seen law fits releases =
    operation_same eyes me one other thread twin count it are same seen law fits releases

-- ---- two worlds

-- the other asks alike
asking_too : (eyes : Eyes) (one other after : WorldShape) (now : LowView) (host : HostId) → ShapeFits eyes.code one →
    ShapeFits eyes.code other → Calm eyes one now → Calm eyes other now → RunsAsking eyes.code one host →
    IsStep eyes.code other (Turn host) after → RunsAsking eyes.code other host
asking_too eyes one other after now host fits fits_other calm calm_other run step =
    let thread = some_found step.state.running step.runs in
    let twins = twins_of eyes one other now host run.state step.state run.thread thread.0 fits fits_other calm
    calm_other run.there step.obeys run.running thread.1 in
    record {
      state = step.state;
      there = step.obeys;
      thread = thread.0;
      running = thread.1;
      token = run.token;
      held = twins.held ∙ run.held;
      instruction = run.instruction;
      is = ap (instruction_at eyes.code host) twins.place ∙ run.is;
      asks = run.asks;
    }

calm_asking : (eyes : Eyes) (one other : WorldShape) (now : LowView) (host : HostId)
    (run : RunsAsking eyes.code one host) (twin : RunsAsking eyes.code other host) → AreEyes eyes →
    IsSoundCode eyes.code →
    map (value_in_thread run.state run.thread) (eyes.shades.at host run.thread.at).released
    ≡ map (value_in_thread twin.state twin.thread) (eyes.shades.at host run.thread.at).released →
    ShapeFits eyes.code one → ShapeFits eyes.code other → Calm eyes one now → Calm eyes other now →
    carried_asking eyes run.state run.thread run.instruction.op
    ≡ carried_asking eyes twin.state twin.thread twin.instruction.op
calm_asking eyes one other now host run twin are sound same fits fits_other calm calm_other =
    let twins = twins_of eyes one other now host run.state twin.state run.thread twin.thread fits fits_other calm
    calm_other run.there twin.there run.running twin.running in
    let there : twin.instruction ≡ run.instruction =
    some_is (sym twin.is ∙ ap (instruction_at eyes.code host) twins.place ∙ run.is) in
    let own = state_me eyes one host run.state fits run.there in
    let is_host : IsHost eyes.code host = subst (IsHost eyes.code) own.me own.fits.me in
    asking_same eyes host run.state twin.state run.thread twin.thread _ run.instruction.op are twins
    (calm_open eyes host run.state.running run.thread run.running (calm.running host run.state run.there))
    (are.shaded.instructions host run.thread.at run.instruction run.is).law
    ((sound.parts host is_host).instructions run.thread.at run.instruction run.is).operation
    (each_same (value_in_thread run.state run.thread) (value_in_thread twin.state twin.thread)
    (eyes.shades.at host run.thread.at).released same)
    ∙ ap (λ (i : Instr). carried_asking eyes twin.state twin.thread i.op) (sym there)

pub asking_carried : (eyes : Eyes) (rows : List declared_hosts.HostShape) (bad : ℕ) (store start : List (List ℤ))
    (events others : List Event) (one other : WorldShape) (host : HostId) (run : RunsAsking eyes.code one host)
    (twin : RunsAsking eyes.code other host) → AreEyes eyes →
    map (value_in_thread run.state run.thread) (eyes.shades.at host run.thread.at).released
    ≡ map (value_in_thread twin.state twin.thread) (eyes.shades.at host run.thread.at).released →
    Watches eyes (world_at_start eyes.code rows bad store) → Watches eyes (world_at_start eyes.code rows bad start) →
    IsReached eyes.code rows bad store events one → IsReached eyes.code rows bad start others other →
    IsQuiet eyes.code one → IsQuiet eyes.code other → Agree eyes one other →
    carried_asking eyes run.state run.thread run.instruction.op
    ≡ carried_asking eyes twin.state twin.thread twin.instruction.op
asking_carried eyes rows bad store start events others one other host run twin are same watch watch_other reach
    reach_other quiet quiet_other agree =
    let calm = reached_calm eyes rows bad store events one agree.shown are watch reach quiet agree.first in
    let calm_other =
    reached_calm eyes rows bad start others other agree.shown are watch_other reach_other quiet_other agree.second in
    calm_asking eyes one other agree.shown host run twin are reach.sound same calm.0 calm_other.0 calm.1 calm_other.1

pub asks_agree : (eyes : Eyes) (rows : List declared_hosts.HostShape) (bad : ℕ) (store start : List (List ℤ))
    (events others : List Event) (one other one_after other_after : WorldShape) (host : HostId)
    (table : ReleasesShape) → AreEyes eyes → IsTabled eyes.code eyes.shades table →
    released_at table one host ≡ released_at table other host → Watches eyes (world_at_start eyes.code rows bad store) →
    Watches eyes (world_at_start eyes.code rows bad start) → IsReached eyes.code rows bad store events one →
    IsReached eyes.code rows bad start others other → RunsAsking eyes.code one host →
    IsStep eyes.code one (Turn host) one_after → IsStep eyes.code other (Turn host) other_after →
    IsQuiet eyes.code one → IsQuiet eyes.code other → Agree eyes one other → Agree eyes one_after other_after
asks_agree eyes rows bad store start events others one other one_after other_after host table are tabled same watch
    watch_other reach reach_other run step step_other quiet quiet_other agree =
    let now = agree.shown in
    let calm = reached_calm eyes rows bad store events one now are watch reach quiet agree.first in
    let calm_other =
    reached_calm eyes rows bad start others other now are watch_other reach_other quiet_other agree.second in
    let twin = asking_too eyes one other other_after now host calm.0 calm_other.0 calm.1 calm_other.1 run step_other in
    let first = reached_asks eyes rows bad store events one one_after host now run are watch reach step quiet
    agree.first in
    let second = reached_asks eyes rows bad start others other other_after host now twin are watch_other reach_other
    step_other quiet_other agree.second in
    let twins = twins_of eyes one other now host run.state twin.state run.thread twin.thread calm.0 calm_other.0 calm.1
    calm_other.1 run.there twin.there run.running twin.running in
    let releases = turns_release eyes table one other host run.state twin.state run.thread twin.thread run.instruction
    tabled run.there twin.there run.running twin.running run.is twins.place same in
    let carried = calm_asking eyes one other now host run twin are reach.sound releases calm.0 calm_other.0 calm.1
    calm_other.1 in
    record {
      shown = first.0;
      first = first.2;
      second = subst (Leads eyes other_after)
          (asking_once eyes now host (carried_asking eyes run.state run.thread run.instruction.op) second.0 first.0
          (subst (λ (c : Carried). SeenAsking eyes now host c second.0) (sym carried) second.1) first.1) second.2;
    }
