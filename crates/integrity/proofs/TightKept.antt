-- Every event that is none of the holder's leaves the chain and the holder, and all else outside.
use Rattle.std.proofs.Common.{◌≡◌, ◌≢◌, ◌∙◌, inl, inr, ℕ, true, Some, None}
use Rattle.std.proofs.Common.{refl, sym, ap, subst}
use Rattle.std.specs.Prelude.{slice_get}
use Rattle.js_base.specs.declared.ids.HostId.{HostId}
use Rattle.js_base.specs.declared.ids.RequestId.{RequestId}
use Rattle.host_code.specs.declared.message.Message.{Message}
use Rattle.host_code.specs.Thread.{WaitingShape}
use Rattle.host_core.specs.Fits.{WaitingFits}
use Rattle.host_core.specs.Host.{HostState}
use Rattle.net_world.specs.Fits.{ShapeFits}
use Rattle.net_world.specs.World.{WorldShape, state_at, misbehaves}
use Rattle.net_world.proofs.Fitting.{bad_differs}
use Rattle.token_laws.specs.Requests.{FlightSpot, number_asked, number_answered}
use Rattle.token_laws.proofs.Asked.{AreAsked}
use Rattle.token_laws.proofs.AskedLaws.{one_under_way, waits_once, ends_obey}
use Rattle.token_laws.proofs.Held.{AreHeld}
use Rattle.token_laws.proofs.HeldLaws.{all_at}
use Rattle.token_laws.proofs.HeldLaws as tokens
use Rattle.token_laws.proofs.Tests.{some_found}
use Rattle.integrity.specs.Holding.{IsAmong, Holder, runs, asked, answered, stuck, passes, lost, halted, Waits}
use Rattle.integrity.specs.Holding.{MessageFlies}
use Rattle.integrity.specs.Holding.{IsThere, OwnsRunning, OwnsWaiting, OwnsMessage}
use Rattle.integrity.specs.Outside.{Threat}
use Rattle.integrity.proofs.Among.{same_item, one_of_some, some_of}
use Rattle.integrity.proofs.OpenWorlds.{AreBad, state_fits}
use Rattle.integrity.proofs.WaitMoves.{WaitsAt}

-- what is known of a world that events lead to
pub record IsLawful (threat : Threat) (world : WorldShape) : Type 0 where
  pub fits : ShapeFits threat.code world
  pub held : AreHeld world
  pub asked : AreAsked world
  pub bad : AreBad threat world

pub tokens_known : (threat : Threat) (world : WorldShape) → IsLawful threat world → tokens.IsKnown threat.code world
tokens_known threat world is = record { fits = is.fits; held = is.held }

-- ---- the holder's thread is not woken

-- a message comes to a host from another that obeys, or from one that misbehaves
pub data Comes (world : WorldShape) (from to : HostId) (m : Message) : Type 0 where
  flies : MessageFlies world from to m → Comes world from to m
  told : misbehaves world from ≡ true → Comes world from to m

one_waits : (threat : Threat) (world : WorldShape) → IsLawful threat world → (host : HostId)
    (waiting one : WaitingShape) (state : HostState) (place : ℕ) → state_at world host ≡ Some state →
    slice_get state.waiting place ≡ Some one → one.request ≡ waiting.request → IsAmong state.waiting waiting →
    one ≡ waiting
one_waits threat world is host waiting one state place obeys there same (other, also) =
    let place_is =
    waits_once world.flying host state place other one waiting (is.asked.hosts host state obeys) there also same in
    same_item state.waiting other one waiting (subst (λ n. slice_get state.waiting n ≡ Some one) place_is there) also

-- who waits for the number that the holder's thread waits for is the holder's thread
the_waiting : (threat : Threat) (world : WorldShape) → IsLawful threat world → (host : HostId)
    (waiting one : WaitingShape) (state : HostState) (place : ℕ) → Waits world host waiting →
    state_at world host ≡ Some state → slice_get state.waiting place ≡ Some one → one.request ≡ waiting.request →
    one ≡ waiting
the_waiting threat world is host waiting one state place waits obeys there same =
    let at = one_of_some (state_at world host) (λ s. IsAmong s.waiting waiting) waits in
    let both : Some at.one ≡ Some state = sym at.is ∙ obeys in
    let same_state : at.one ≡ state = cc in
    one_waits threat world is host waiting one state place obeys there same
    (subst (λ s. IsAmong s.waiting waiting) same_state at.has)

-- a request in flight has no answer yet
not_answered : (threat : Threat) (world : WorldShape) → IsLawful threat world → (me : HostId) (waiting : WaitingShape)
    (asking m : Message) (state : HostState) → state_at world me ≡ Some state →
    MessageFlies world me waiting.asked asking →
    number_asked asking ≡ Some waiting.request → waiting.asked ≢ me → number_answered m ≡ Some waiting.request →
    Comes world waiting.asked me m → ⊥
not_answered threat world is me waiting asking m state obeys sent number apart answer (flies came) =
    let first : FlightSpot = record { from = me; to = waiting.asked; place = sent.among.0 } in
    let second : FlightSpot = record { from = waiting.asked; to = me; place = came.among.0 } in
    let same =
    one_under_way world me waiting.asked waiting.asked state waiting.request first second
    (is.asked.hosts me state obeys)
    (inl (
      refl,
      refl,
      some_of (slice_get (world.flying me waiting.asked) sent.among.0)
          (λ flight. number_asked flight.message ≡ Some waiting.request) sent.flight sent.among.1
          (ap number_asked sent.is ∙ number),
    ))
    (inr (
      refl,
      refl,
      some_of (slice_get (world.flying waiting.asked me) came.among.0)
          (λ flight. number_answered flight.message ≡ Some waiting.request) came.flight came.among.1
          (ap number_answered came.is ∙ answer),
    )) in
    apart (ap (λ (s : FlightSpot). s.from) (sym same))
not_answered threat world is me waiting asking m state obeys sent number apart answer (told bad) =
    let ends =
    ends_obey threat.code world me waiting.asked sent.among.0 sent.flight is.fits is.asked sent.among.1 in
    let obeying = some_found (state_at world waiting.asked) ends.1 in
    bad_differs world waiting.asked waiting.asked obeying.0 bad obeying.1 refl

pub asks_another : (threat : Threat) (world : WorldShape) → IsLawful threat world → (me : HostId) (state : HostState)
    (place : ℕ) (one : WaitingShape) → state_at world me ≡ Some state → slice_get state.waiting place ≡ Some one →
    one.asked ≢ me
asks_another threat world is me state place one obeys there =
    let fits = state_fits threat world me state is.fits obeys in
    let one_fits = all_at (WaitingFits threat.code state.me) state.waiting place one fits.fits.waiting there in
    λ same. one_fits.asked.1 (same ∙ sym fits.me)

answer_is : (m : Message) (request : RequestId) (one waiting : WaitingShape) → number_answered m ≡ Some request →
    one.request ≡ request → one.request ≡ waiting.request → number_answered m ≡ Some waiting.request
answer_is m request one waiting answer is same = answer ∙ ap (λ (r : RequestId). Some r) (sym is ∙ same)

pub not_woken : (threat : Threat) (world : WorldShape) → IsLawful threat world → (holder : Holder) →
    IsThere world holder → (me from : HostId) (state : HostState) (m : Message) (request : RequestId) (place : ℕ)
    (one : WaitingShape) → state_at world me ≡ Some state → WaitsAt state.waiting request from place one →
    number_answered m ≡ Some request → OwnsWaiting holder me one → Comes world from me m →
    (OwnsMessage holder from me m → ⊥) → ⊥
not_woken threat world is (runs host thread) there me from state m request place one obeys at answer own comes apart =
    own
not_woken threat world is (asked host waiting asking) there me from state m request place one obeys at answer own comes
    apart =
    let same =
    the_waiting threat world is me waiting one state place
    (subst (λ h. Waits world h waiting) (sym own.0) there.0) obeys at.there own.1 in
    let from_is : waiting.asked ≡ from = ap (λ (w : WaitingShape). w.asked) (sym same) ∙ at.asked_is in
    not_answered threat world is me waiting asking m state obeys
    (subst (λ h. MessageFlies world h waiting.asked asking) (sym own.0) there.1) there.2
    (λ here. asks_another threat world is me state place one obeys at.there
    (ap (λ (w : WaitingShape). w.asked) same ∙ here))
    (answer_is m request one waiting answer at.request_is own.1) (subst (λ h. Comes world h me m) (sym from_is) comes)
not_woken threat world is (answered host waiting asking) there me from state m request place one obeys at answer own
    comes apart =
    let same =
    the_waiting threat world is me waiting one state place
    (subst (λ h. Waits world h waiting) (sym own.0) there.0) obeys at.there own.1 in
    apart (
      sym at.asked_is ∙ ap (λ (w : WaitingShape). w.asked) same,
      own.0,
      answer_is m request one waiting answer at.request_is own.1,
    )
not_woken threat world is (stuck host waiting) there me from state m request place one obeys at answer own comes apart =
    let same =
    the_waiting threat world is me waiting one state place
    (subst (λ h. Waits world h waiting) (sym own.0) there.0) obeys at.there own.1 in
    apart (
      sym at.asked_is ∙ ap (λ (w : WaitingShape). w.asked) same,
      own.0,
      answer_is m request one waiting answer at.request_is own.1,
    )
not_woken threat world is (passes sender target said) there me from state m request place one obeys at answer own comes
    apart = own
not_woken threat world is lost there me from state m request place one obeys at answer own comes apart = own
not_woken threat world is halted there me from state m request place one obeys at answer own comes apart = own

-- the holder's thread doesn't run where none runs
pub rests_apart : (world : WorldShape) (holder : Holder) (me : HostId) (state : HostState) → IsThere world holder →
    state_at world me ≡ Some state → state.running ≡ None → OwnsRunning holder me → ⊥
rests_apart world (runs host thread) me state there obeys rests own =
    let at = one_of_some (state_at world host) (λ s. s.running ≡ Some thread) there in
    let both : Some at.one ≡ Some state = sym at.is ∙ ap (state_at world) (sym own) ∙ obeys in
    let same : at.one ≡ state = cc in
    let runs_there : state.running ≡ Some thread = subst (λ s. s.running ≡ Some thread) same at.has in
    let never : Some thread ≡ None = sym runs_there ∙ rests in
    absurd (cc)
rests_apart world (asked host waiting m) me state there obeys rests own = own
rests_apart world (answered host waiting m) me state there obeys rests own = own
rests_apart world (stuck host waiting) me state there obeys rests own = own
rests_apart world (passes from to m) me state there obeys rests own = own
rests_apart world lost me state there obeys rests own = own
rests_apart world halted me state there obeys rests own = own
