-- What is sent carries the label of the instruction that it names, and where that may be seen, nothing in it is hidden.
use Rattle.std.proofs.Common.{◌≡◌, ◌∙◌, ℕ, true, false, Option, Some, None, inl, inr, refl, ap, sym}
use Rattle.std.proofs.Common.{subst}
use Rattle.std.specs.Prelude.{not, IfSome, ⊤}
use Rattle.std.specs.Option.{option_and_then}
use Rattle.std.proofs.lemmas.Bool.{false≢true}
use Rattle.js_base.specs.declared.ids.HostId.{HostId}
use Rattle.capability.specs.declared.token.Token.{Token}
use Rattle.host_code.specs.declared.instruction.Instr.{Instr}
use Rattle.host_code.specs.declared.instruction.Op.{Op}
use Rattle.host_code.specs.declared.instruction.Op.TheVariants as op
use Rattle.host_code.specs.declared.message.Message.{Message}
use Rattle.host_code.specs.declared.message.Message.TheVariants as message
use Rattle.host_code.specs.Code.{instruction_at}
use Rattle.host_code.specs.Thread.{ThreadShape}
use Rattle.host_core.specs.Host.{HostState, Outcome, with_running}
use Rattle.host_core.specs.Taking.{IsTaking, after_passing}
use Rattle.host_core.specs.Turn.{IsTurn}
use Rattle.host_core.specs.Turn.{label_of_thread, label_of_turn}
use Rattle.token_laws.proofs.Riding.{names_ride}
use Rattle.seen_world.specs.Eyes.{Eyes, AreEyes, sees_at, is_open}
use Rattle.seen_world.specs.Points.{RunsWell, IsAskedBy, FliesWell, ShowsNoHidden, AsksForNoHidden}
use Rattle.seen_world.specs.Points.{HasLabelAt, IsLabelledAs, IsGrantedTo, IsInFlight}
use Rattle.seen_world.proofs.Answered.{asking_at, taking_sends}
use Rattle.seen_world.proofs.Sendings.{EachSending, turn_sends, any_held}
use Rattle.seen_world.proofs.TokensTold.{open_shows}
use Rattle.seen_world.proofs.TurnsKept.{hidden_is}

-- ---- what a turn sends

operation_labelled : (eyes : Eyes) (Q : Token → Type 0) (host : HostState) (thread : ThreadShape) (label : ℕ)
    (it : Op) → (has : HasLabelAt eyes host.me thread.at label) → has.0.op ≡ it →
    EachSending (λ on said. IsLabelledAs eyes host.me on said label) Q eyes.code host thread it
operation_labelled eyes Q host thread label (op.Read field index) has is = λ there found apart. has
operation_labelled eyes Q host thread label (op.Let x value) has is = tt
operation_labelled eyes Q host thread label (op.Put field index value) has is = λ there found apart. has
operation_labelled eyes Q host thread label (op.Send x on) has is = has
operation_labelled eyes Q host thread label (op.Frame site) has is = tt
operation_labelled eyes Q host thread label (op.Arg x value) has is = tt
operation_labelled eyes Q host thread label (op.Pass x on) has is = has
operation_labelled eyes Q host thread label (op.Push entry) has is = tt
operation_labelled eyes Q host thread label (op.Ask entry on) has is = λ token holds. has
operation_labelled eyes Q host thread label (op.Go entry on) has is = λ token holds. (thread.at, has, inl is)
operation_labelled eyes Q host thread label (op.Call entry on) has is =
    λ apart token holds. (thread.at, has, inr is)
operation_labelled eyes Q host thread label (op.GoWith entry on riders) has is =
    let names = sym (names_ride host thread.frame riders) in
    λ token holds. (thread.at, has, inl (is ∙ ap (op.GoWith entry on) names))
operation_labelled eyes Q host thread label (op.CallWith entry on riders) has is =
    let names = sym (names_ride host thread.new_frame riders) in
    λ token holds. (thread.at, has, inr (is ∙ ap (op.CallWith entry on) names))
operation_labelled eyes Q host thread label (op.Ret x value) has is = λ token holds. has
operation_labelled eyes Q host thread label op.Back has is = λ token holds. (thread.at, has, is)
operation_labelled eyes Q host thread label (op.Branch guard target) has is = tt

-- ---- labels of places

-- the label of an instruction may be seen just where the instruction may
pub label_same : (eyes : Eyes) → AreEyes eyes → (host : HostId) (place label : ℕ) →
    HasLabelAt eyes host place label → sees_at eyes label ≡ is_open eyes host place
label_same eyes are host place label has =
    let same : sees_at eyes has.0.label ≡ is_open eyes host place =
    rw (are.shaded.instructions host place has.0 has.1).label_is refl in
    ap (sees_at eyes) (sym has.2) ∙ same

-- a push for which an instruction asks that may be seen is that of no hidden entry
asks_openly : (eyes : Eyes) → AreEyes eyes → (from to : HostId) (said : Message) (label : ℕ) →
    IsAskedBy eyes from to said → IsLabelledAs eyes from to said label → sees_at eyes label ≡ true →
    AsksForNoHidden eyes said
asks_openly eyes are from to (message.Get request field index) label asked has sees = tt
asks_openly eyes are from to (message.Set request field index value) label asked has sees = tt
asks_openly eyes are from to (message.Forward request frame x value) label asked has sees = tt
asks_openly eyes are from to (message.Sync request frame entry token) label asked has sees =
    let asking = asking_at eyes are from request.at entry to asked in
    hidden_is eyes (eyes.shades.at from request.at) entry.0 asking.pushes.0
    ∙ ap not (sym (label_same eyes are from request.at label has) ∙ sees)
asks_openly eyes are from to (message.Rgoto frame entry token) label asked has sees = tt
asks_openly eyes are from to (message.RgotoWith frame entry token riders) label asked has sees = tt
asks_openly eyes are from to (message.Lgoto token) label asked has sees = tt
asks_openly eyes are from to (message.Value request value) label asked has sees = tt
asks_openly eyes are from to (message.Ack request) label asked has sees = tt
asks_openly eyes are from to (message.Token request token) label asked has sees = tt

-- ---- turns

label_there : (eyes : Eyes) (me : HostId) (thread : ThreadShape) (label : ℕ) (found : Option Instr) →
    instruction_at eyes.code me thread.at ≡ found →
    option_and_then (λ (one : Instr). Some one.label) found ≡ Some label → HasLabelAt eyes me thread.at label
label_there eyes me thread label None is same = absurd (cc)
label_there eyes me thread label (Some there) is same = (there, is, (let one : there.label ≡ label = cc in one))

both_sent : {X : Type 0} (P Q R : X → Type 0) (o : Option X) → ((x : X) → P x → Q x → R x) → IfSome o P →
    IfSome o Q → IfSome o R
both_sent P Q R None each one other = tt
both_sent P Q R (Some x) each one other = each x one other

pub turn_labelled : (eyes : Eyes) (state : HostState) (thread : ThreadShape) (outcome : Outcome) (label : ℕ) →
    AreEyes eyes → state.running ≡ Some thread → RunsWell eyes state.me thread → IsTurn eyes.code state outcome →
    label_of_turn eyes.code state ≡ Some label →
    IfSome outcome.sent (λ sent. IsLabelledAs eyes state.me sent.0 sent.1 label
    × (sees_at eyes label ≡ true → ShowsNoHidden eyes sent.1))
turn_labelled eyes state thread outcome label are is well turns labels =
    let has : HasLabelAt eyes state.me thread.at label =
    label_there eyes state.me thread label (instruction_at eyes.code state.me thread.at) refl
    (subst (λ running. label_of_thread eyes.code state.me running ≡ Some label) is labels) in
    both_sent (λ sent. IsLabelledAs eyes state.me sent.0 sent.1 label)
    (λ sent. sees_at eyes label ≡ true → ShowsNoHidden eyes sent.1)
    (λ sent. IsLabelledAs eyes state.me sent.0 sent.1 label
    × (sees_at eyes label ≡ true → ShowsNoHidden eyes sent.1)) outcome.sent (λ sent one other. (one, other))
    (turn_sends (λ on said. IsLabelledAs eyes state.me on said label) (λ token. ⊤) eyes.code state thread outcome is
    turns (any_held thread.held) (λ there found.
    operation_labelled eyes (λ token. ⊤) (with_running state None) thread label there.op has
    (same has.0 there (sym has.1 ∙ found))))
    (shown outcome.sent (λ sees. open_shows eyes state thread outcome are is well
    (sym (label_same eyes are state.me thread.at label has) ∙ sees) turns))
  where
    same : (one other : Instr) → Some one ≡ Some other → one.op ≡ other.op
    same one other alike = cc

    shown : (sent : Option (HostId × Message)) →
        (sees_at eyes label ≡ true → IfSome sent (λ it. ShowsNoHidden eyes it.1)) →
        IfSome sent (λ it. sees_at eyes label ≡ true → ShowsNoHidden eyes it.1)
    shown None each = tt
    shown (Some it) each = each

-- ---- answers

passing_labelled : (eyes : Eyes) (host : HostState) (from : HostId) (said : Message) (label : ℕ) →
    IsLabelledAs eyes from host.me said label → (sees_at eyes label ≡ true → AsksForNoHidden eyes said) →
    IfSome (after_passing eyes.code host from said).sent (λ sent. IsLabelledAs eyes host.me sent.0 sent.1 label
    × (sees_at eyes label ≡ true → ShowsNoHidden eyes sent.1))
passing_labelled eyes host from (message.Get request field index) label has shows = (has, λ sees. tt)
passing_labelled eyes host from (message.Set request field index value) label has shows = (has, λ sees. tt)
passing_labelled eyes host from (message.Forward request frame x value) label has shows = (has, λ sees. tt)
passing_labelled eyes host from (message.Sync request frame entry token) label has shows =
    (has, λ sees hidden. false≢true (sym (shows sees) ∙ hidden.1))
passing_labelled eyes host from (message.Rgoto frame entry token) label has shows = tt
passing_labelled eyes host from (message.RgotoWith frame entry token riders) label has shows = tt
passing_labelled eyes host from (message.Lgoto token) label has shows = tt
passing_labelled eyes host from (message.Value request value) label has shows = tt
passing_labelled eyes host from (message.Ack request) label has shows = tt
passing_labelled eyes host from (message.Token request token) label has shows = tt

pub answer_labelled : (eyes : Eyes) (state : HostState) (from : HostId) (said : Message) (outcome : Outcome)
    (label : ℕ) → IsLabelledAs eyes from state.me said label →
    (sees_at eyes label ≡ true → AsksForNoHidden eyes said) → IsTaking eyes.code state from said outcome →
    IfSome outcome.sent (λ sent. IsLabelledAs eyes state.me sent.0 sent.1 label
    × (sees_at eyes label ≡ true → ShowsNoHidden eyes sent.1))
answer_labelled eyes state from said outcome label has shows takes =
    let P : HostId × Message → Type 0 = λ sent. IsLabelledAs eyes state.me sent.0 sent.1 label
    × (sees_at eyes label ≡ true → ShowsNoHidden eyes sent.1) in
    subst (λ (it : Outcome). IfSome it.sent P) takes.2
    (taking_sends P eyes state from said takes.0 takes.1.0
    (λ passes. passing_labelled eyes state from said label has shows))

-- ---- flights

-- what is sent is well in flight
pub sent_in_flight : (eyes : Eyes) → AreEyes eyes → (from : HostId) (label : ℕ) (sent : Option (HostId × Message)) →
    eyes.bad from ≡ false → IfSome sent (λ it. FliesWell eyes from it.0 it.1) →
    IfSome sent (λ it. IsGrantedTo eyes from it.0 it.1) →
    IfSome sent (λ it. IsLabelledAs eyes from it.0 it.1 label
    × (sees_at eyes label ≡ true → ShowsNoHidden eyes it.1)) →
    IfSome sent (λ it. IsInFlight eyes from it.0 (record { message = it.1; label = label }))
sent_in_flight eyes are from label None obeys well granted has = tt
sent_in_flight eyes are from label (Some it) obeys well granted has = record {
  obeys = obeys;
  well = well;
  granted = granted;
  labelled = has.0;
  shows = λ sees. (has.1 sees, asks_openly eyes are from it.0 it.1 label well.0 has.0 sees);
}
