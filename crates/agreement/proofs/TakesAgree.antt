-- Two quiet worlds that lead to one view still do after the same take that may be seen.
use Rattle.std.proofs.Common.{◌≡◌, ◌∙◌, ℕ, Bool, true, false, List, Option, Some, None, inl, inr, refl}
use Rattle.std.proofs.Common.{ap, sym, subst}
use Rattle.std.specs.Prelude.{ℤ, if◌then◌else◌, slice_get}
use Rattle.js_base.specs.declared.ids.HostId.{HostId}
use Rattle.js_base.specs.declared.ids.FieldId.{FieldId}
use Rattle.js_base.specs.declared.ids.FrameId.{FrameId}
use Rattle.js_base.specs.declared.ids.RequestId.{RequestId}
use Rattle.label_lattice.specs.declared.label.Label.{Label}
use Rattle.jif_tree.specs.LabelRules.{field_label}
use Rattle.jif_tree.specs.Store.{row_of, element_at}
use Rattle.capability.specs.declared.token.Token.{Token}
use Rattle.host_decl.specs.Hosts as declared_hosts
use Rattle.host_code.specs.declared.code.Entry.{Entry}
use Rattle.host_code.specs.declared.instruction.Op.TheVariants as op
use Rattle.host_code.specs.declared.message.Message.{Message}
use Rattle.host_code.specs.declared.message.Message.TheVariants as message
use Rattle.host_code.specs.Code.{CodeFieldShape, entry_at}
use Rattle.host_code.specs.Thread.{ThreadShape, WaitingShape}
use Rattle.host_core.specs.Host.{HostState}
use Rattle.event_text.specs.declared.event.Event.{Event}
use Rattle.net_world.specs.Flying.{Flight}
use Rattle.net_world.specs.Secret.{IsQuiet}
use Rattle.net_world.specs.World.{WorldShape, IsTakeStep, world_at_start}
use Rattle.split_rules.proofs.SeenLabels.{flows_first}
use Rattle.split_shades.specs.Basis.{value_label, read_label}
use Rattle.split_shades.specs.ShadedCode.{IsShadedOp}
use Rattle.token_laws.specs.Reached.{IsReached}
use Rattle.token_laws.proofs.HeldLaws.{all_at}
use Rattle.seen_world.specs.Eyes.{Eyes, AreEyes, Watches}
use Rattle.seen_world.specs.Points.{IsAskedBy, IsInFlight}
use Rattle.seen_world.proofs.PointsKept.{points_kept}
use Rattle.seen_world.proofs.SeenPlaces.{some_is}
use Rattle.agreement.specs.Comes.{Comes}
use Rattle.agreement.specs.Leads.{Leads, Agree}
use Rattle.agreement.specs.Taken.{sees_answer, carried_taken, host_without, ComesAnswered, ComesToEntry}
use Rattle.agreement.specs.Taken.{SeenPassing, SeenMessage, SeenTake, view_riding, view_without}
use Rattle.agreement.specs.Views.{LowView, masked, sees_field, sees_read, message_view, flight_view, with_host}
use Rattle.agreement.proofs.CarriedSame.{field_seen, masks_same}
use Rattle.agreement.proofs.Coming.{comes_once}
use Rattle.agreement.proofs.Queues.{flight_seen}
use Rattle.agreement.proofs.SeenAgree.{reached_calm}
use Rattle.agreement.proofs.SeenOperations.{read_seen}
use Rattle.agreement.proofs.SeenTurns.{some_below}
use Rattle.agreement.proofs.TakesLead.{reached_takes}
use Rattle.agreement.proofs.ViewLaws.{given_once}

-- ---- one view

entry_once : (eyes : Eyes) (now : LowView) (host : HostId) (found : Option Entry) (frame : FrameId) (token : Token)
    (first second : LowView) → ComesToEntry eyes now host found frame token first →
    ComesToEntry eyes now host found frame token second → first ≡ second
entry_once eyes now host None frame token first second one two = absurd one
entry_once eyes now host (Some there) frame token first second one two =
    comes_once eyes now host _ token first second one two

answered_once : (eyes : Eyes) (now : LowView) (host : HostId) (found : Option ℕ) (answered : ThreadShape → ThreadShape)
    (first second : LowView) → ComesAnswered eyes now host found answered first →
    ComesAnswered eyes now host found answered second → first ≡ second
answered_once eyes now host found answered first second one two =
    let place : two.place ≡ one.place = some_is (sym two.is ∙ one.is) in
    let waiting : two.waiting ≡ one.waiting =
    some_is
    (sym two.there ∙ ap (slice_get (now.hosts host).waiting) place ∙ one.there) in
    let token : two.token ≡ one.token =
    some_is (sym two.held ∙ ap (λ (w : WaitingShape). (answered w.thread).held) waiting ∙ one.held) in
    comes_once eyes (with_host now host (host_without (now.hosts host) one.place)) host (answered one.waiting.thread)
    one.token first second one.comes
    (subst (λ n. Comes eyes (with_host now host (host_without (now.hosts host) n)) host (answered one.waiting.thread)
    one.token second) place
    (subst (λ (w : WaitingShape). Comes eyes (with_host now host (host_without (now.hosts host) two.place)) host
    (answered w.thread) one.token second) waiting
    (subst (λ (t : Token). Comes eyes (with_host now host (host_without (now.hosts host) two.place)) host
    (answered two.waiting.thread) t second) token two.comes)))

passing_once : (eyes : Eyes) (now : LowView) (from to : HostId) (label : ℕ) (said : Message) (carried : ℤ)
    (first second : LowView) → SeenPassing eyes now from to label said carried first →
    SeenPassing eyes now from to label said carried second → first ≡ second
passing_once eyes now from to label (message.Get request field index) carried first second one two = one ∙ sym two
passing_once eyes now from to label (message.Set request field index value) carried first second one two =
    one ∙ sym two
passing_once eyes now from to label (message.Forward request frame x value) carried first second one two =
    one ∙ sym two
passing_once eyes now from to label (message.Sync request frame entry token) carried first second one two =
    one ∙ sym two
passing_once eyes now from to label (message.Rgoto frame entry token) carried first second one two =
    entry_once eyes now to (entry_at eyes.code entry) frame token first second one two
passing_once eyes now from to label (message.RgotoWith frame entry token riders) carried first second one two =
    entry_once eyes (view_riding now to frame riders) to (entry_at eyes.code entry) frame token first second one two
passing_once eyes now from to label (message.Lgoto token) carried first second one two =
    given_once eyes now token (now.hosts to).entries first second one two
passing_once eyes now from to label (message.Value request value) carried first second one two =
    answered_once eyes now to _ _ first second one two
passing_once eyes now from to label (message.Ack request) carried first second one two =
    answered_once eyes now to _ _ first second one two
passing_once eyes now from to label (message.Token request token) carried first second one two =
    answered_once eyes now to _ _ first second one two

pub message_once : (eyes : Eyes) (now : LowView) (from to : HostId) (label : ℕ) (said : Message) (carried : ℤ)
    (first second : LowView) → SeenMessage eyes now from to label said carried first →
    SeenMessage eyes now from to label said carried second → first ≡ second
message_once eyes now from to label said carried first second (inl one) (inl two) =
    passing_once eyes now from to label said carried first second one.1 two.1
message_once eyes now from to label said carried first second (inl one) (inr two) = absurd (two.0 one.0)
message_once eyes now from to label said carried first second (inr one) (inl two) = absurd (one.0 two.0)
message_once eyes now from to label said carried first second (inr one) (inr two) = one.1 ∙ sym two.1

pub take_once : (eyes : Eyes) (now : LowView) (from to : HostId) (place : ℕ) (carried : ℤ) (first second : LowView) →
    SeenTake eyes now from to place carried first → SeenTake eyes now from to place carried second → first ≡ second
take_once eyes now from to place carried first second one two =
    let flight : two.flight ≡ one.flight = some_is (sym two.there ∙ one.there) in
    message_once eyes (view_without now from to place) from to one.flight.label one.flight.message carried first second
    one.seen
    (subst (λ (f : Flight). SeenMessage eyes (view_without now from to place) from to f.label f.message carried second)
    flight two.seen)

-- ---- what it carries

-- it is told by what is seen of the message
carried_view : (eyes : Eyes) (state : HostState) (from to : HostId) (said : Message) → eyes.bad from ≡ false →
    carried_taken eyes state from (message_view eyes from to said) ≡ carried_taken eyes state from said
carried_view eyes state from to (message.Get request field index) good =
    let same : sees_answer eyes from request field ≡ sees_read eyes from request =
    ap (λ (b : Bool). if b then sees_field eyes field else sees_read eyes from request) good in
    ap (λ (b : Bool). masked b (element_at (row_of state.rows field.0) (masked (sees_read eyes from request) index)))
    same
    ∙ by (sees_read eyes from request)
    ∙ ap (λ (b : Bool). masked b (element_at (row_of state.rows field.0) index)) (sym same)
  where
    by : (b : Bool) → masked b (element_at (row_of state.rows field.0) (masked b index))
        ≡ masked b (element_at (row_of state.rows field.0) index)
    by true = refl
    by false = refl
carried_view eyes state from to (message.Set request field index value) good = refl
carried_view eyes state from to (message.Forward request frame x value) good = refl
carried_view eyes state from to (message.Sync request frame entry token) good = refl
carried_view eyes state from to (message.Rgoto frame entry token) good = refl
carried_view eyes state from to (message.RgotoWith frame entry token riders) good = refl
carried_view eyes state from to (message.Lgoto token) good = refl
carried_view eyes state from to (message.Value request value) good = refl
carried_view eyes state from to (message.Ack request) good = refl
carried_view eyes state from to (message.Token request token) good = refl

-- a field may be seen whose element is seen where it was asked for
field_read : (eyes : Eyes) (from to : HostId) (request : RequestId) (field : FieldId) (index : ℤ) → AreEyes eyes →
    IsAskedBy eyes from to (message.Get request field index) → sees_read eyes from request ≡ true →
    sees_field eyes field ≡ true
field_read eyes from to request field index are asked seen =
    let here = eyes.shades.at from request.at in
    let law : IsShadedOp eyes.scene eyes.shades from request.at (op.Read field asked.0) =
    subst (IsShadedOp eyes.scene eyes.shades from request.at) asked.1.2
    (are.shaded.instructions from request.at asked.1.0 asked.1.1).law in
    let own : Label = field_label eyes.scene.basis.labelled.program field in
    let at_label : Label = value_label eyes.scene.basis here.pc law.1.index in
    let label : Label = read_label eyes.scene.basis here.pc (record { field = field; index = law.1.index }) in
    let sees : eyes.sees label ≡ true = sym (read_seen eyes from request.at field asked.0 law) ∙ seen in
    field_seen eyes are field (some_below (λ (there : CodeFieldShape). there.host ≡ to) eyes.code.fields field.0
    asked.2) (are.below own label (flows_first own at_label) sees)

-- two hosts that show the same carry the same
message_carries : (eyes : Eyes) (one other : HostState) (from to : HostId) (said : Message) → AreEyes eyes →
    eyes.bad from ≡ false → IsAskedBy eyes from to said →
    ((field : FieldId) → sees_field eyes field ≡ true → row_of one.rows field.0 ≡ row_of other.rows field.0) →
    carried_taken eyes one from said ≡ carried_taken eyes other from said
message_carries eyes one other from to (message.Get request field index) are good asked rows =
    masks_same (sees_answer eyes from request field) (element_at (row_of one.rows field.0) index)
    (element_at (row_of other.rows field.0) index) (λ seen.
    ap (λ row. element_at row index)
    (rows field (field_read eyes from to request field index are asked
    (sym (ap (λ (b : Bool). if b then sees_field eyes field else sees_read eyes from request) good) ∙ seen))))
message_carries eyes one other from to (message.Set request field index value) are good asked rows = refl
message_carries eyes one other from to (message.Forward request frame x value) are good asked rows = refl
message_carries eyes one other from to (message.Sync request frame entry token) are good asked rows = refl
message_carries eyes one other from to (message.Rgoto frame entry token) are good asked rows = refl
message_carries eyes one other from to (message.RgotoWith frame entry token riders) are good asked rows = refl
message_carries eyes one other from to (message.Lgoto token) are good asked rows = refl
message_carries eyes one other from to (message.Value request value) are good asked rows = refl
message_carries eyes one other from to (message.Ack request) are good asked rows = refl
message_carries eyes one other from to (message.Token request token) are good asked rows = refl

pub taken_same : (eyes : Eyes) (rows : List declared_hosts.HostShape) (bad : ℕ) (store start : List (List ℤ))
    (events others : List Event) (one other one_after other_after : WorldShape) (from to : HostId) (place : ℕ)
    (step : IsTakeStep eyes.code one from to place one_after)
    (twin : IsTakeStep eyes.code other from to place other_after) → AreEyes eyes →
    Watches eyes (world_at_start eyes.code rows bad store) → Watches eyes (world_at_start eyes.code rows bad start) →
    IsReached eyes.code rows bad store events one → IsReached eyes.code rows bad start others other →
    IsQuiet eyes.code one → IsQuiet eyes.code other → Agree eyes one other →
    carried_taken eyes step.state from step.flight.message ≡ carried_taken eyes twin.state from twin.flight.message
taken_same eyes rows bad store start events others one other one_after other_after from to place step twin are watch
    watch_other reach reach_other quiet quiet_other agree =
    let now = agree.shown in
    let calm = (reached_calm eyes rows bad store events one now are watch reach quiet agree.first).1 in
    let calm_other =
    (reached_calm eyes rows bad start others other now are watch_other reach_other quiet_other agree.second).1 in
    let points = points_kept eyes rows bad store events one are watch reach in
    let flies : IsInFlight eyes from to step.flight =
    all_at (IsInFlight eyes from to) (one.flying from to) place step.flight (points.1.flying from to) step.there in
    let same : flight_view eyes from to step.flight ≡ flight_view eyes from to twin.flight =
    some_is
    (sym (flight_seen eyes one from to place step.flight now calm step.there)
    ∙ flight_seen eyes other from to place twin.flight now calm_other twin.there) in
    message_carries eyes step.state twin.state from to step.flight.message are flies.obeys flies.well.0
    (λ field seen. (calm.shows.hosts to step.state step.obeys).rows field seen
    ∙ sym ((calm_other.shows.hosts to twin.state twin.obeys).rows field seen))
    ∙ sym (carried_view eyes twin.state from to step.flight.message flies.obeys)
    ∙ ap (λ (f : Flight). carried_taken eyes twin.state from f.message) same
    ∙ carried_view eyes twin.state from to twin.flight.message flies.obeys

pub takes_agree : (eyes : Eyes) (rows : List declared_hosts.HostShape) (bad : ℕ) (store start : List (List ℤ))
    (events others : List Event) (one other one_after other_after : WorldShape) (from to : HostId) (place : ℕ) →
    AreEyes eyes → Watches eyes (world_at_start eyes.code rows bad store) →
    Watches eyes (world_at_start eyes.code rows bad start) → IsReached eyes.code rows bad store events one →
    IsReached eyes.code rows bad start others other → IsTakeStep eyes.code one from to place one_after →
    IsTakeStep eyes.code other from to place other_after → IsQuiet eyes.code one → IsQuiet eyes.code other →
    Agree eyes one other → Agree eyes one_after other_after
takes_agree eyes rows bad store start events others one other one_after other_after from to place are watch watch_other
    reach reach_other step twin quiet quiet_other agree =
    let now = agree.shown in
    let first = reached_takes eyes rows bad store events one one_after from to place now step are watch reach quiet
    agree.first in
    let second = reached_takes eyes rows bad start others other other_after from to place now twin are watch_other
    reach_other quiet_other agree.second in
    let carried = taken_same eyes rows bad store start events others one other one_after other_after from to place step
    twin are watch watch_other reach reach_other quiet quiet_other agree in
    let same : second.0 ≡ first.0 =
    take_once eyes now from to place (carried_taken eyes step.state from step.flight.message) second.0 first.0
    (subst (λ c. SeenTake eyes now from to place c second.0) (sym carried) second.1) first.1 in
    record {
      shown = first.0;
      first = first.2;
      second = subst (Leads eyes other_after) same second.2;
    }
