-- A message that is taken keeps what holds of the threads of its host and of the entries on its stack.
use Rattle.std.proofs.Common.{◌≡◌, ◌≢◌, ◌∙◌, ℕ, ◌+◌, Bool, true, false, arith, Option, Some, None}
use Rattle.std.proofs.Common.{take, drop, suc, refl, ap, sym, subst}
use Rattle.std.specs.Prelude.{◌==◌, ◌&&◌, ℤ, IfSome, IsSomeAnd, IsTrue, slice_get}
use Rattle.std.specs.Option.{option_map}
use Rattle.std.proofs.lemmas.Bool.{false≢true}
use Rattle.std.proofs.lemmas.Bool.Decides.{nat_tests}
use Rattle.std.proofs.lemmas.Option.{slice_get_within, get_or_from_slice_get}
use Rattle.std.proofs.lemmas.List.Elements.{All-append, All-take, All-drop, All-get_or}
use Rattle.std.proofs.lemmas.List.Quantifiers.{position-Some}
use Rattle.js_base.specs.declared.ids.HostId.{HostId}
use Rattle.js_base.specs.declared.ids.EntryId.{EntryId}
use Rattle.js_base.specs.declared.ids.RequestId.{RequestId}
use Rattle.label_lattice.specs.declared.label.Label.{Label}
use Rattle.capability.specs.declared.token.Token.{Token}
use Rattle.host_code.specs.declared.code.Entry.{Entry}
use Rattle.host_code.specs.declared.message.Message.{Message}
use Rattle.host_code.specs.declared.message.Message.TheVariants as message
use Rattle.host_code.specs.Code.{halt, entry_at}
use Rattle.host_code.specs.Thread.{ThreadShape, WaitingShape, Awaited}
use Rattle.host_code.specs.Thread.Awaited.{value_of_field, acknowledgement, token_of_entry}
use Rattle.entry_check.specs.Checks.{MayEnter, IsTrustedFor, MaySee, label_at, label_of_host}
use Rattle.host_core.specs.Awaiting.{awaits, is_same_answer}
use Rattle.host_core.specs.Host.{HostState, Outcome, with_running, with_temporary, with_token}
use Rattle.host_core.specs.Host.{after_pop, after_entering, with_variables_set}
use Rattle.host_core.specs.Taking.{IsTaking, PassesCheck, after_passing, after_taking, after_answer, place_of_awaiting}
use Rattle.event_text.specs.declared.event.Event.TheVariants.{Take}
use Rattle.net_world.specs.Fits.{ShapeFits, IsStateOf}
use Rattle.net_world.specs.Flying.{Flight}
use Rattle.net_world.specs.World.{WorldShape, IsStep}
use Rattle.net_world.proofs.StepLaws.{take_puts}
use Rattle.token_laws.proofs.Riding.{riding_is}
use Rattle.seen_world.specs.Eyes.{Eyes, AreEyes}
use Rattle.seen_world.specs.Points.{AnsweredWell, RunsWell, WaitsWell, StandsWell, HostKeeps}
use Rattle.seen_world.specs.Points.{HostsKeep, MessageCarriesWell, MayHoldToken}
use Rattle.seen_world.proofs.TurnsKept.{more_entries, entered_kept, pop_kept, hosts_kept}
use Rattle.seen_world.proofs.SeenPlaces.{some_is}

-- ---- answers

pub waits_at : (eyes : Eyes) (host : HostState) (place : ℕ) (waiting : WaitingShape) → HostKeeps eyes host.me host →
    slice_get host.waiting place ≡ Some waiting → WaitsWell eyes host.me waiting
waits_at eyes host place waiting keeps at =
    subst (WaitsWell eyes host.me) (get_or_from_slice_get host.waiting place waiting waiting at)
    (All-get_or (WaitsWell eyes host.me) host.waiting place waiting
    (slice_get_within host.waiting place waiting at) keeps.waiting)

pub awaits_at : (host : HostState) (awaited : Awaited) (request : RequestId) (from : HostId) (place : ℕ)
    (waiting : WaitingShape) → place_of_awaiting host awaited request from ≡ Some place →
    slice_get host.waiting place ≡ Some waiting → awaits awaited request from waiting ≡ true
awaits_at host awaited request from place waiting is at =
    subst (λ one. awaits awaited request from one ≡ true)
    (get_or_from_slice_get host.waiting place waiting waiting at)
    (position-Some (awaits awaited request from) host.waiting place waiting is).1

woken : (eyes : Eyes) (me : HostId) (found : Option WaitingShape) (answered : ThreadShape → ThreadShape) →
    ((waiting : WaitingShape) → found ≡ Some waiting → RunsWell eyes me (answered waiting.thread)) →
    IfSome (option_map (λ (waiting : WaitingShape). answered waiting.thread) found) (RunsWell eyes me)
woken eyes me None answered runs = tt
woken eyes me (Some waiting) answered runs = runs waiting refl

answer_kept : (eyes : Eyes) (host : HostState) (found : Option ℕ) (answered : ThreadShape → ThreadShape) →
    HostKeeps eyes host.me host →
    ((place : ℕ) (waiting : WaitingShape) → found ≡ Some place → slice_get host.waiting place ≡ Some waiting →
    RunsWell eyes host.me (answered waiting.thread)) → HostKeeps eyes host.me (after_answer host found answered)
answer_kept eyes host None answered keeps runs = keeps
answer_kept eyes host (Some place) answered keeps runs = record {
  running = woken eyes host.me (slice_get host.waiting place) answered (λ waiting at. runs place waiting refl at);
  waiting = All-append (WaitsWell eyes host.me) (take place host.waiting) (drop (suc place) host.waiting)
      (All-take (WaitsWell eyes host.me) place host.waiting keeps.waiting)
      (All-drop (WaitsWell eyes host.me) (suc place) host.waiting keeps.waiting);
  entries = keeps.entries;
}

with_value : (eyes : Eyes) (host : HostId) (thread : ThreadShape) (waits : Awaited) (request from : Bool) (value : ℤ) →
    ((is_same_answer waits value_of_field && request) && from) ≡ true → AnsweredWell eyes host thread waits →
    RunsWell eyes host (with_temporary value thread)
with_value eyes host thread value_of_field request from value same well = well value
with_value eyes host thread acknowledgement request from value same well = absurd (false≢true same)
with_value eyes host thread token_of_entry request from value same well = absurd (false≢true same)

with_nothing : (eyes : Eyes) (host : HostId) (thread : ThreadShape) (waits : Awaited) (request from : Bool) →
    ((is_same_answer waits acknowledgement && request) && from) ≡ true → AnsweredWell eyes host thread waits →
    RunsWell eyes host thread
with_nothing eyes host thread value_of_field request from same well = absurd (false≢true same)
with_nothing eyes host thread acknowledgement request from same well = well
with_nothing eyes host thread token_of_entry request from same well = absurd (false≢true same)

with_given : (eyes : Eyes) (host : HostId) (thread : ThreadShape) (waits : Awaited) (request from : Bool)
    (token : Token) → ((is_same_answer waits token_of_entry && request) && from) ≡ true →
    AnsweredWell eyes host thread waits → MayHoldToken eyes (eyes.shades.at host thread.at) token →
    RunsWell eyes host (with_token (Some token) thread)
with_given eyes host thread value_of_field request from token same well holds = absurd (false≢true same)
with_given eyes host thread acknowledgement request from token same well holds = absurd (false≢true same)
with_given eyes host thread token_of_entry request from token same well holds = well token holds

pub same_place : (kind : Bool) (waits asked count : ℕ) (other from : Bool) →
    ((kind && (waits == asked && other)) && from) ≡ true → waits ≡ asked
same_place true waits asked count true true same = grind (arith, nat_tests)
same_place true waits asked count true false same = grind (arith, nat_tests)
same_place true waits asked count false from same = grind (arith, nat_tests)
same_place false waits asked count other from same = absurd (false≢true same)

-- ---- requests and transfers

apart_of : (entry : EntryId) → entry ≢ halt → entry.0 ≢ 0
apart_of entry apart same = apart (ap make same)
  where
    make : ℕ → EntryId
    make n = record { 0 = n }

pub on_me : (eyes : Eyes) (me from : HostId) (entry : EntryId) →
    MayEnter eyes.code me entry (label_of_host eyes.code from) →
    IsSomeAnd (entry_at eyes.code entry) (λ there. there.host ≡ me)
on_me eyes me from entry may = of (entry_at eyes.code entry) may.1
  where
    asker : Option Label
    asker = label_of_host eyes.code from

    of : (found : Option Entry) → IsSomeAnd found (λ there. (there.host ≡ me) × IsTrustedFor asker there.need
        × MaySee (label_at eyes.code there.label) asker) → IsSomeAnd found (λ there. there.host ≡ me)
    of None some = absurd some
    of (Some there) some = some.0

passing_kept : (eyes : Eyes) → AreEyes eyes → (host : HostState) (from : HostId) (m : Message) →
    HostKeeps eyes host.me host → host.running ≡ None → MessageCarriesWell eyes host.me m →
    PassesCheck eyes.code host from m → HostKeeps eyes host.me (after_passing eyes.code host from m).state
passing_kept eyes are host from (message.Get request field index) keeps rests carries passes = keeps
passing_kept eyes are host from (message.Set request field index value) keeps rests carries passes =
    record { running = keeps.running; waiting = keeps.waiting; entries = keeps.entries }
passing_kept eyes are host from (message.Forward request frame x value) keeps rests carries passes =
    record { running = keeps.running; waiting = keeps.waiting; entries = keeps.entries }
passing_kept eyes are host from (message.Sync request frame entry token) keeps rests carries passes = record {
  running = keeps.running;
  waiting = keeps.waiting;
  entries = more_entries (StandsWell eyes host.me) _ host.entries (record {
    shade = carries.0.shade;
    is = carries.0.is;
    token_host = refl;
    token_entry = refl;
    on_host = on_me eyes host.me from entry passes;
    block = λ shown other. carries.1 shown;
    kept = λ other. carries.0.level;
    open_kept = carries.0.shown;
  }) keeps.entries;
}
passing_kept eyes are host from (message.Rgoto frame entry token) keeps rests carries passes =
    entered_kept eyes are host entry frame token (entry_at eyes.code entry) refl (apart_of entry passes.0)
    (on_me eyes host.me from entry passes) carries (keeps.entries, keeps.waiting)
passing_kept eyes are host from (message.RgotoWith frame entry token riders) keeps rests carries passes =
    let rode : HostState = record host { variables = (with_variables_set host frame riders).variables } in
    subst (λ (one : HostState). HostKeeps eyes host.me (after_entering one (entry_at eyes.code entry) frame token))
    (riding_is host frame riders)
    (entered_kept eyes are rode entry frame token (entry_at eyes.code entry) refl (apart_of entry passes.0.0)
    (on_me eyes host.me from entry passes.0) carries (keeps.entries, keeps.waiting))
passing_kept eyes are host from (message.Lgoto token) keeps rests carries passes =
    let same : with_running host None ≡ host = ap (with_running host) (sym rests) in
    subst (λ (one : HostState). HostKeeps eyes host.me (after_pop eyes.code one host.entries)) same
    (pop_kept eyes are host host.entries keeps.entries (keeps.entries, keeps.waiting))
passing_kept eyes are host from (message.Value request value) keeps rests carries passes =
    answer_kept eyes host (place_of_awaiting host value_of_field request from) (with_temporary value) keeps
    (λ place waiting is at.
    with_value eyes host.me waiting.thread waiting.awaited _ _ value
    (awaits_at host value_of_field request from place waiting is at) (waits_at eyes host place waiting keeps at).1)
passing_kept eyes are host from (message.Ack request) keeps rests carries passes =
    answer_kept eyes host (place_of_awaiting host acknowledgement request from) (λ thread. thread) keeps
    (λ place waiting is at.
    with_nothing eyes host.me waiting.thread waiting.awaited _ _
    (awaits_at host acknowledgement request from place waiting is at) (waits_at eyes host place waiting keeps at).1)
passing_kept eyes are host from (message.Token request token) keeps rests carries passes =
    answer_kept eyes host (place_of_awaiting host token_of_entry request from) (with_token (Some token)) keeps
    (λ place waiting is at.
    let same = awaits_at host token_of_entry request from place waiting is at in
    let well = waits_at eyes host place waiting keeps at in
    let there : waiting.request.at ≡ request.at =
    same_place (is_same_answer waiting.awaited token_of_entry) waiting.request.at request.at 0
    (waiting.request.count == request.count) (waiting.asked.0 == from.0) same in
    let goes : request.at + 1 ≡ waiting.thread.at = ap (λ n. n + 1) (sym there) ∙ sym well.0 in
    with_given eyes host.me waiting.thread waiting.awaited _ _ token same well.1
    (subst (λ n. MayHoldToken eyes (eyes.shades.at host.me n) token) goes carries))

either_passes : (eyes : Eyes) → AreEyes eyes → (host : HostState) (from : HostId) (m : Message) (passes : Bool) →
    HostKeeps eyes host.me host → host.running ≡ None →
    (PassesCheck eyes.code host from m → MessageCarriesWell eyes host.me m) →
    (IsTrue passes → PassesCheck eyes.code host from m) →
    HostKeeps eyes host.me (after_taking eyes.code host from m passes).state
either_passes eyes are host from m true keeps rests carries passes =
    passing_kept eyes are host from m keeps rests (carries (passes refl)) (passes refl)
either_passes eyes are host from m false keeps rests carries passes =
    record { running = keeps.running; waiting = keeps.waiting; entries = keeps.entries }

pub take_keeps : (eyes : Eyes) (state : HostState) (from : HostId) (said : Message) (outcome : Outcome) →
    AreEyes eyes → HostKeeps eyes state.me state → state.running ≡ None →
    (PassesCheck eyes.code state from said → MessageCarriesWell eyes state.me said) →
    IsTaking eyes.code state from said outcome → HostKeeps eyes state.me outcome.state
take_keeps eyes state from said outcome are keeps rests carries takes =
    subst (λ (it : Outcome). HostKeeps eyes state.me it.state) takes.2
    (either_passes eyes are state from said takes.0 keeps rests carries takes.1.0)

pub taken_world : (eyes : Eyes) (world after : WorldShape) (from to : HostId) (place : ℕ) (flight : Flight) →
    AreEyes eyes → ShapeFits eyes.code world → HostsKeep eyes world →
    slice_get (world.flying from to) place ≡ Some flight → MessageCarriesWell eyes to flight.message →
    IsStep eyes.code world (Take from to place) after → HostsKeep eyes after
taken_world eyes world after from to place flight are fits keep there carries step =
    let state = step.state in
    let fit : IsStateOf eyes.code to state =
    subst (λ one. IfSome one (IsStateOf eyes.code to)) step.obeys (fits.states to) in
    let same : flight ≡ step.flight = some_is (sym there ∙ step.there) in
    let carried : MessageCarriesWell eyes state.me step.flight.message =
    subst (λ (me : HostId). MessageCarriesWell eyes me step.flight.message) (sym fit.me)
    (subst (λ (one : Flight). MessageCarriesWell eyes to one.message) same carries) in
    let kept : HostKeeps eyes state.me step.outcome.state =
    take_keeps eyes state from step.flight.message step.outcome are
    (subst (λ (me : HostId). HostKeeps eyes me state) (sym fit.me) (keep to state step.obeys)) step.rests
    (λ passes. carried) step.takes in
    hosts_kept eyes world after to state step.outcome.state keep step.obeys
    (take_puts eyes.code world after from to place step)
    (subst (λ (me : HostId). HostKeeps eyes me step.outcome.state) fit.me kept)
