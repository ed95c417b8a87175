-- To whom a turn sends, and that a secret one sends no misbehaving host anything.
use Rattle.std.proofs.Common.{◌≡◌, ◌∙◌, ℕ, true, false, Option, Some}
use Rattle.std.proofs.Common.{None, inl, inr, refl, ap, sym, subst}
use Rattle.std.specs.Prelude.{not, IfSome, IsSome, IsSomeAnd}
use Rattle.std.proofs.lemmas.Bool.{cases_Bool, false≢true}
use Rattle.js_base.specs.declared.ids.HostId.{HostId}
use Rattle.js_base.specs.declared.ids.FieldId.{FieldId}
use Rattle.capability.specs.declared.token.Token.{Token}
use Rattle.host_code.specs.declared.instruction.Instr.{Instr}
use Rattle.host_code.specs.declared.instruction.Op.{Op}
use Rattle.host_code.specs.declared.instruction.Op.TheVariants as op
use Rattle.host_code.specs.Code.{CodeShape, CodeFieldShape, instruction_at, field_at}
use Rattle.host_code.specs.Thread.{ThreadShape}
use Rattle.host_core.specs.Host.{HostState, Outcome, with_running}
use Rattle.host_core.specs.Turn.{IsTurn}
use Rattle.event_text.specs.declared.event.Event.TheVariants.{Turn}
use Rattle.host_code.specs.declared.message.Message.{Message}
use Rattle.host_core.specs.Turn.{label_of_thread, label_of_turn}
use Rattle.net_world.specs.Fits.{ShapeFits}
use Rattle.net_world.specs.Secret.{IsReadable, IsSecret}
use Rattle.net_world.specs.World.{WorldShape, state_at, misbehaves, with_state, after_sending, letter_of, IsTurnStep}
use Rattle.net_world.specs.World.{IsStep}
use Rattle.net_world.proofs.StepLaws.{absent_set}
use Rattle.split_shades.specs.ShadedCode.{IsShadedOp}
use Rattle.split_shades.specs.Shading.{IsUnderBlock}
use Rattle.seen_world.specs.Eyes.{Eyes, AreEyes, Watches, is_open, is_deep, sees_level, NamesHost}
use Rattle.seen_world.specs.Points.{RunsWell, MayHoldToken, HostsKeep}
use Rattle.seen_world.proofs.PointsAtStart.{own_state}
use Rattle.seen_world.proofs.SeenPlaces.{named_open, block_under}
use Rattle.seen_world.proofs.Sendings.{EachSending, turn_sends}
use Rattle.seen_world.proofs.SeenWorlds.{turn_secret}

-- ---- to whom

pub held_by : {X : Type 0} (P Q : X → Type 0) (o : Option X) → ((x : X) → P x → Q x) → IfSome o P → IfSome o Q
held_by P Q None each some = tt
held_by P Q (Some x) each some = each x some

-- where a token is given back that may not be seen there, its host obeys, as no guard of a loop gives a token back
gives_obeying : (eyes : Eyes) (host : HostId) (place : ℕ) (there : Instr) (token : Token) → AreEyes eyes →
    instruction_at eyes.code host place ≡ Some there → (eyes.shades.at host place).guard ≡ None →
    is_open eyes host place ≡ false → MayHoldToken eyes (eyes.shades.at host place) token → eyes.bad token.host ≡ false
gives_obeying eyes host place there token are is unguarded hidden holds =
    let here = eyes.shades.at host place in
    let P : Option ℕ → Type 0 = λ guard. IsUnderBlock guard here.block here.pc in
    let same : here.pc ≡ here.block =
    subst P unguarded (are.shaded.instructions host place there is).is_shade.under_block in
    let block : is_deep eyes host place ≡ true = ap not (ap eyes.sees (sym same) ∙ hidden) in
    elim (cases_Bool (sees_level eyes here.level)) [
      | inl seen ↦ absurd (false≢true (sym (block_under eyes host place there are is seen) ∙ block))
      | inr unseen ↦ (holds.0 unseen).0
    ]

field_named : (code : CodeShape) (field : FieldId) (there : CodeFieldShape) → field_at code field ≡ Some there →
    IsSomeAnd (field_at code field) (λ one. one.host ≡ there.host)
field_named code field there is = rw is refl

operation_told : (eyes : Eyes) (host : HostState) (thread : ThreadShape) (it : Op) →
    IsShadedOp eyes.scene eyes.shades host.me thread.at it →
    ((on : HostId) → NamesHost eyes.code it on → eyes.bad on ≡ false) →
    ((token : Token) → (eyes.shades.at host.me thread.at).guard ≡ None →
    MayHoldToken eyes (eyes.shades.at host.me thread.at) token → eyes.bad token.host ≡ false) →
    EachSending (λ on said. eyes.bad on ≡ false) (MayHoldToken eyes (eyes.shades.at host.me thread.at)) eyes.code host
    thread it
operation_told eyes host thread (op.Read field index) law named back =
    λ there is apart. named there.host (field_named eyes.code field there is)
operation_told eyes host thread (op.Let x value) law named back = tt
operation_told eyes host thread (op.Put field index value) law named back =
    λ there is apart. named there.host (field_named eyes.code field there is)
operation_told eyes host thread (op.Send x on) law named back = named on refl
operation_told eyes host thread (op.Frame site) law named back = tt
operation_told eyes host thread (op.Arg x value) law named back = tt
operation_told eyes host thread (op.Pass x on) law named back = named on refl
operation_told eyes host thread (op.Push entry) law named back = tt
operation_told eyes host thread (op.Ask entry on) law named back = λ token holds. named on refl
operation_told eyes host thread (op.Go entry on) law named back = λ token holds. named on refl
operation_told eyes host thread (op.Call entry on) law named back = λ apart token holds. named on refl
operation_told eyes host thread (op.GoWith entry on riders) law named back = λ token holds. named on refl
operation_told eyes host thread (op.CallWith entry on riders) law named back = λ token holds. named on refl
operation_told eyes host thread (op.Ret x value) law named back = λ token holds. back token law.1.1 holds
operation_told eyes host thread op.Back law named back = λ token holds. back token law.2 holds
operation_told eyes host thread (op.Branch guard target) law named back = tt

-- ---- secret turns

pub secret_told : (eyes : Eyes) (state : HostState) (thread : ThreadShape) (outcome : Outcome) → AreEyes eyes →
    state.running ≡ Some thread → RunsWell eyes state.me thread → is_open eyes state.me thread.at ≡ false →
    IsTurn eyes.code state outcome → IfSome outcome.sent (λ sent. eyes.bad sent.0 ≡ false)
secret_told eyes state thread outcome are runs well hidden turns =
    turn_sends (λ on said. eyes.bad on ≡ false) (MayHoldToken eyes (eyes.shades.at state.me thread.at)) eyes.code state
    thread outcome runs turns well.holds
    (λ there is. operation_told eyes (with_running state None) thread there.op
    (are.shaded.instructions state.me thread.at there is).law (named there is)
    (λ token unguarded holds. gives_obeying eyes state.me thread.at there token are is unguarded hidden holds))
  where
    named : (there : Instr) → instruction_at eyes.code state.me thread.at ≡ Some there → (on : HostId) →
        NamesHost eyes.code there.op on → eyes.bad on ≡ false
    named there is on names = elim (cases_Bool (eyes.bad on)) [
      | inl bad ↦ absurd (false≢true (sym hidden ∙ named_open eyes state.me on thread.at there are is names bad))
      | inr good ↦ good
    ]

-- ---- worlds

-- what goes to an obeying host tells no misbehaving one anything
pub sent_silent : (eyes : Eyes) (world : WorldShape) (host : HostId) (old state : HostState) (label : Option ℕ)
    (sent : Option (HostId × Message)) → Watches eyes world → state_at world host ≡ Some old →
    IfSome sent (λ it. eyes.bad it.0 ≡ false) →
    (after_sending (with_state world host state) host (letter_of label sent)).sent ≡ world.sent
sent_silent eyes world host old state None sent watch there obeys = refl
sent_silent eyes world host old state (Some label) None watch there obeys = refl
sent_silent eyes world host old state (Some label) (Some it) watch there obeys =
    let good : misbehaves (with_state world host state) it.0 ≡ false =
    absent_set world.hosts host.0 it.0.0 old state there ∙ watch it.0 ∙ obeys in
    rw good refl

-- the instruction of a turn that is secret is there
secret_there : (code : CodeShape) (P : ℕ → Type 0) (host : HostId) (thread : ThreadShape) (found : Option Instr) →
    instruction_at code host thread.at ≡ found → IsSomeAnd (label_of_thread code host (Some thread)) P →
    (there : Instr) × (instruction_at code host thread.at ≡ Some there)
secret_there code P host thread None is secret =
    let none : label_of_thread code host (Some thread) ≡ None = rw is refl in
    absurd (subst (λ label. IsSomeAnd label P) none secret)
secret_there code P host thread (Some there) is secret = (there, is)

turn_silent : (eyes : Eyes) (world after : WorldShape) (host : HostId) (running : Option ThreadShape) →
    AreEyes eyes → Watches eyes world → ShapeFits eyes.code world → HostsKeep eyes world →
    (step : IsTurnStep eyes.code world host after) → step.state.running ≡ running →
    IsSecret eyes.code world (Turn host) → after.sent ≡ world.sent
turn_silent eyes world after host None are watch fits keep step is secret =
    absurd (false≢true (subst IsSome is step.runs))
turn_silent eyes world after host (Some thread) are watch fits keep step is secret =
    let state = step.state in
    let own = own_state eyes world host state watch fits keep step.obeys in
    let P : ℕ → Type 0 = λ label. ¬ IsReadable eyes.code world label in
    let told : IsSomeAnd (label_of_turn eyes.code state) P =
    subst (λ one. IsSomeAnd one (λ it. IsSomeAnd (label_of_turn eyes.code it) P)) step.obeys secret in
    let label : IsSomeAnd (label_of_thread eyes.code state.me (Some thread)) P =
    subst (λ one. IsSomeAnd (label_of_thread eyes.code state.me one) P) is told in
    let there = secret_there eyes.code P state.me thread (instruction_at eyes.code state.me thread.at) refl label in
    let there_is : instruction_at eyes.code host thread.at ≡ Some there.0 =
    subst (λ me. instruction_at eyes.code me thread.at ≡ Some there.0) own.fit.me there.1 in
    let hidden : is_open eyes host thread.at ≡ false =
    (turn_secret eyes world host state thread there.0 are watch step.obeys own.fit.me is there_is).1 secret in
    let obeys : IfSome step.outcome.sent (λ sent. eyes.bad sent.0 ≡ false) =
    secret_told eyes state thread step.outcome are is
    (subst (λ one. IfSome one (RunsWell eyes state.me)) is own.keeps.running)
    (subst (λ me. is_open eyes me thread.at ≡ false) (sym own.fit.me) hidden) step.turns in
    ap (λ (it : WorldShape). it.sent) (sym step.leaves)
    ∙ sent_silent eyes world host state step.outcome.state (label_of_turn eyes.code state) step.outcome.sent watch
    step.obeys obeys

pub secret_silent : (eyes : Eyes) (world after : WorldShape) (host : HostId) → AreEyes eyes → Watches eyes world →
    ShapeFits eyes.code world → HostsKeep eyes world → IsStep eyes.code world (Turn host) after →
    IsSecret eyes.code world (Turn host) → after.sent ≡ world.sent
secret_silent eyes world after host are watch fits keep step secret =
    turn_silent eyes world after host step.state.running are watch fits keep step refl secret
