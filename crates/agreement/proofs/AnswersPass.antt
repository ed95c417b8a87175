-- A secret answer in flight passes its check.
use Rattle.std.proofs.Common.{◌≡◌, ◌∙◌, ℕ, false, [], Some, inl, inr, refl, ap, sym}
use Rattle.std.proofs.Common.{subst}
use Rattle.std.specs.Prelude.{not, IfSome, IsSome, slice_get}
use Rattle.std.proofs.lemmas.Bool.{false≢true}
use Rattle.js_base.specs.declared.ids.HostId.{HostId}
use Rattle.js_base.specs.declared.ids.RequestId.{RequestId}
use Rattle.host_code.specs.declared.message.Message.{Message}
use Rattle.host_code.specs.declared.message.Message.TheVariants as message
use Rattle.host_code.specs.Thread.{Awaited, WaitingShape}
use Rattle.host_code.specs.Thread.Awaited.{value_of_field, acknowledgement, token_of_entry}
use Rattle.host_core.specs.Host.{HostState}
use Rattle.host_core.specs.Taking.{PassesCheck, place_of_awaiting}
use Rattle.net_world.specs.Fits.{ShapeFits, IsStateOf}
use Rattle.net_world.specs.Flying.{Flight}
use Rattle.net_world.specs.World.{WorldShape, state_at}
use Rattle.token_laws.specs.Requests.{number_answered}
use Rattle.token_laws.proofs.HeldLaws.{all_at}
use Rattle.seen_world.specs.Eyes.{Eyes, sees_at}
use Rattle.seen_world.specs.Points.{AsksAt, WaitsWell, HostKeeps, IsAskedBy, IsInFlight, PointsHold}
use Rattle.seen_world.proofs.SeenPlaces.{some_is}
use Rattle.agreement.specs.Leads.{waits, Hides, IsMailOf, FliesTo, HeldAt, Leads}
use Rattle.agreement.specs.Views.{LowView, Spot, flies_open}
use Rattle.agreement.proofs.AnswersTaken.{found_waiting}
use Rattle.agreement.proofs.Ends.{own_waiting}
use Rattle.agreement.proofs.HiddenTakes.{holder_flies, no_request}

-- the thread is found that waits for it
waits_found : (eyes : Eyes) (state : HostState) (host from : HostId) (waiting : WaitingShape) (flight : Flight)
    (awaited : Awaited) (request : RequestId) → HostKeeps eyes state.me state →
    Hides eyes (waits host waiting from state.me flight) [] state.me (record state { entries = [] }) →
    AsksAt eyes state.me request.at awaited from → Some request ≡ Some waiting.request → from ≡ waiting.asked →
    state.me ≡ host → IsSome (place_of_awaiting state awaited request from)
waits_found eyes state host from waiting flight awaited request keeps hides asks number asked own =
    let me = state.me in
    let mine : Hides eyes (waits me waiting from me flight) [] me (record state { entries = [] }) =
    subst (λ (h : HostId). Hides eyes (waits h waiting from me flight) [] me (record state { entries = [] })) (sym own)
    hides in
    let found = found_waiting eyes state from waiting awaited request
    (mine.waiting ∙ own_waiting me from me waiting flight)
    (λ n one there. all_at (WaitsWell eyes me) state.waiting n one keeps.waiting there) asks
    (some_is number) asked in
    subst IsSome (sym found.is) refl

waiting_passes : (eyes : Eyes) (state : HostState) (host from : HostId) (waiting : WaitingShape) (flight : Flight)
    (said : Message) → HostKeeps eyes state.me state →
    Hides eyes (waits host waiting from state.me flight) [] state.me (record state { entries = [] }) →
    IsAskedBy eyes from state.me said → IsMailOf host waiting from state.me said → IsSome (number_answered said) →
    PassesCheck eyes.code state from said
waiting_passes eyes state host from waiting flight (message.Value request value) keeps hides asks (inr mail) answers =
    waits_found eyes state host from waiting flight value_of_field request keeps hides asks mail.0 mail.1 mail.2
waiting_passes eyes state host from waiting flight (message.Ack request) keeps hides asks (inr mail) answers =
    waits_found eyes state host from waiting flight acknowledgement request keeps hides asks mail.0 mail.1 mail.2
waiting_passes eyes state host from waiting flight (message.Token request token) keeps hides asks (inr mail) answers =
    waits_found eyes state host from waiting flight token_of_entry request keeps hides asks mail.0 mail.1 mail.2
waiting_passes eyes state host from waiting flight (message.Value request value) keeps hides asks (inl mail) answers =
    no_request waiting.request mail.0
waiting_passes eyes state host from waiting flight (message.Ack request) keeps hides asks (inl mail) answers =
    no_request waiting.request mail.0
waiting_passes eyes state host from waiting flight (message.Token request token) keeps hides asks (inl mail) answers =
    no_request waiting.request mail.0
waiting_passes eyes state host from waiting flight (message.Get request field index) keeps hides asks mail answers =
    absurd (false≢true answers)
waiting_passes eyes state host from waiting flight (message.Set request field index value) keeps hides asks mail
    answers = absurd (false≢true answers)
waiting_passes eyes state host from waiting flight (message.Forward request frame x value) keeps hides asks mail
    answers = absurd (false≢true answers)
waiting_passes eyes state host from waiting flight (message.Sync request frame entry token) keeps hides asks mail
    answers = absurd (false≢true answers)
waiting_passes eyes state host from waiting flight (message.Rgoto frame entry token) keeps hides asks mail answers =
    absurd (false≢true answers)
waiting_passes eyes state host from waiting flight (message.RgotoWith frame entry token riders) keeps hides asks mail
    answers = absurd (false≢true answers)
waiting_passes eyes state host from waiting flight (message.Lgoto token) keeps hides asks mail answers =
    absurd (false≢true answers)

-- no answer hands control over
flying_none : {A : Type 0} (eyes : Eyes) (to : HostId) (said : Message) (spot : Spot) → FliesTo eyes to said spot →
    IsSome (number_answered said) → A
flying_none eyes to (message.Rgoto frame entry token) spot goes answers = absurd (false≢true answers)
flying_none eyes to (message.RgotoWith frame entry token riders) spot goes answers = absurd (false≢true answers)
flying_none eyes to (message.Lgoto token) spot goes answers = absurd (false≢true answers)
flying_none eyes to (message.Get request field index) spot goes answers = absurd goes
flying_none eyes to (message.Set request field index value) spot goes answers = absurd goes
flying_none eyes to (message.Forward request frame x value) spot goes answers = absurd goes
flying_none eyes to (message.Sync request frame entry token) spot goes answers = absurd goes
flying_none eyes to (message.Value request value) spot goes answers = absurd goes
flying_none eyes to (message.Ack request) spot goes answers = absurd goes
flying_none eyes to (message.Token request token) spot goes answers = absurd goes

at_me : (eyes : Eyes) (world : WorldShape) (from : HostId) (place : ℕ) (flight : Flight) (state : HostState)
    (shown : LowView) → PointsHold eyes world → HostKeeps eyes state.me state →
    slice_get (world.flying from state.me) place ≡ Some flight → state_at world state.me ≡ Some state →
    sees_at eyes flight.label ≡ false → IsSome (number_answered flight.message) → Leads eyes world shown →
    PassesCheck eyes.code state from flight.message
at_me eyes world from place flight state shown points own there here hidden answers leads =
    let me = state.me in
    let keeps = leads.keeps in
    let flies_well : IsInFlight eyes from me flight =
    all_at (IsInFlight eyes from me) (world.flying from me) place flight (points.flying from me) there in
    let hides = keeps.hides me state here in
    elim (holder_flies keeps.holder (λ one. not (flies_open eyes one)) (world.flying from me) place from me flight
    (keeps.flying from me) there (ap not hidden)) [
      | inl is ↦
          let held : HeldAt eyes (waits is.0 is.1 from me flight) keeps.spot =
          subst (λ h. HeldAt eyes h keeps.spot) is.2 keeps.held in
          let bare : Hides eyes (waits is.0 is.1 from me flight) [] me (record state { entries = [] }) =
          subst (λ h. Hides eyes h [] me (record state { entries = [] })) is.2
          (record { running = hides.running; waiting = hides.waiting; entries = refl }) in
          waiting_passes eyes state is.0 from is.1 flight flight.message own bare flies_well.well.0 held.3 answers
      | inr is ↦
          flying_none eyes me flight.message keeps.spot (subst (λ h. HeldAt eyes h keeps.spot) is keeps.held) answers
    ]

pub answer_passes : (eyes : Eyes) (world : WorldShape) (from to : HostId) (place : ℕ) (flight : Flight)
    (state : HostState) (shown : LowView) → ShapeFits eyes.code world → PointsHold eyes world →
    slice_get (world.flying from to) place ≡ Some flight → state_at world to ≡ Some state →
    sees_at eyes flight.label ≡ false → IsSome (number_answered flight.message) → Leads eyes world shown →
    PassesCheck eyes.code state from flight.message
answer_passes eyes world from to place flight state shown fits points there here hidden answers leads =
    let fit : IsStateOf eyes.code to state =
    subst (λ one. IfSome one (IsStateOf eyes.code to)) here (fits.states to) in
    let own : HostKeeps eyes state.me state =
    subst (λ (h : HostId). HostKeeps eyes h state) (sym fit.me) (points.hosts to state here) in
    at_me eyes world from place flight state shown points own
    (ap (λ (h : HostId). slice_get (world.flying from h) place) fit.me ∙ there) (ap (state_at world) fit.me ∙ here)
    hidden answers leads
