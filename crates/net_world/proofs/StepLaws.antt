-- An event leaves one world, and most of it alone.
use Rattle.std.proofs.Common.{◌≡◌, ◌≢◌, ℕ, zero, suc, Bool, true, false, List, [], ◌∷◌, ◌++◌, refl, ap, sym, subst, ◌∙◌}
use Rattle.std.proofs.Common.{Option, Some, None, append-nil}
use Rattle.std.specs.Prelude.{slice_get, slice_set, IsSome, IsSomeAnd, IsTrue, ◌↔◌, if◌then◌else◌, length}
use Rattle.js_base.specs.declared.ids.HostId.{HostId}
use Rattle.js_base.proofs.Options.{some_same}
use Rattle.event_text.specs.declared.event.Event.{Event}
use Rattle.event_text.specs.declared.event.Event.TheVariants.{Take, Turn, Act}
use Rattle.event_text.specs.declared.event.BadMessage.{BadMessage}
use Rattle.host_code.specs.declared.message.Message.{Message}
use Rattle.host_code.specs.declared.instruction.Instr.{Instr}
use Rattle.host_code.specs.Code.{CodeShape, instruction_at}
use Rattle.host_code.specs.Thread.{ThreadShape}
use Rattle.host_core.specs.Host.{HostState, Outcome, Letter, with_running}
use Rattle.host_core.specs.Taking.{IsTaking, after_taking}
use Rattle.host_core.specs.Turn.{IsTurn, IsTurnOf, IsRunning, after_operation, label_of_turn}
use Rattle.host_core.proofs.OneOutcome.{one_taking, one_turn_of}
use Rattle.net_world.specs.Flying.{Flight}
use Rattle.net_world.specs.Told.{SentMessage, message_made}
use Rattle.net_world.specs.World.{WorldShape, IsStep, IsRun, IsTakeStep, IsTurnStep, IsActStep, refusal_of, mover}
use Rattle.net_world.specs.World.{refusal_of_turn}
use Rattle.net_world.specs.World.{misbehaves, is_absent, given, state_at, with_state, without_flight, after_step}
use Rattle.net_world.specs.World.{after_sending, after_telling, letter_of, tokens_sent}
use Rattle.net_world.proofs.Present.{get_other}
use Rattle.net_world.proofs.StepsOf.{take_not_refused, act_not_refused}

-- ---- one outcome

one_take : (code : CodeShape) (world first second : WorldShape) (from to : HostId) (place : ℕ) →
    IsTakeStep code world from to place first → IsTakeStep code world from to place second → first ≡ second
one_take code world first second from to place a b =
    let state : a.state ≡ b.state = some_same (state_at world to) a.state b.state a.obeys b.obeys in
    let flight : a.flight ≡ b.flight =
    some_same (slice_get (world.flying from to) place) a.flight b.flight a.there b.there in
    let takes : IsTaking code b.state from b.flight.message a.outcome =
    subst (λ (f : Flight). IsTaking code b.state from f.message a.outcome) flight
    (subst (λ (s : HostState). IsTaking code s from a.flight.message a.outcome) state a.takes) in
    let outcome : a.outcome ≡ b.outcome =
    one_taking code b.state from b.flight.message a.outcome b.outcome takes b.takes in
    let left = without_flight world from to place in
    sym a.leaves ∙ ap (λ (o : Outcome). after_step left to o (Some a.flight.label)) outcome
    ∙ ap (λ (f : Flight). after_step left to b.outcome (Some f.label)) flight ∙ b.leaves

one_turn : (code : CodeShape) (world first second : WorldShape) (host : HostId) →
    IsTurnStep code world host first → IsTurnStep code world host second → first ≡ second
one_turn code world first second host a b =
    let state : a.state ≡ b.state = some_same (state_at world host) a.state b.state a.obeys b.obeys in
    let turns : IsTurn code b.state a.outcome = subst (λ (s : HostState). IsTurn code s a.outcome) state a.turns in
    let outcome : a.outcome ≡ b.outcome =
    one_turn_of code b.state b.state.running a.outcome b.outcome turns b.turns in
    sym a.leaves ∙ ap (λ (o : Outcome). after_step world host o (label_of_turn code a.state)) outcome
    ∙ ap (λ (s : HostState). after_step world host b.outcome (label_of_turn code s)) state ∙ b.leaves

one_act : (code : CodeShape) (world first second : WorldShape) (from to : HostId) (made : BadMessage) →
    IsActStep code world from to made first → IsActStep code world from to made second → first ≡ second
one_act code world first second from to made a b =
    let state : a.state ≡ b.state = some_same (state_at world to) a.state b.state a.obeys b.obeys in
    let message : a.message ≡ b.message =
    some_same (message_made (tokens_sent world) made) a.message b.message a.makes b.makes in
    let takes : IsTaking code b.state from b.message a.outcome =
    subst (λ (m : Message). IsTaking code b.state from m a.outcome) message
    (subst (λ (s : HostState). IsTaking code s from a.message a.outcome) state a.takes) in
    let outcome : a.outcome ≡ b.outcome = one_taking code b.state from b.message a.outcome b.outcome takes b.takes in
    sym a.leaves ∙ ap (λ (o : Outcome). after_telling (with_state world to o.state) to o.sent) outcome ∙ b.leaves

pub one_step : (code : CodeShape) (world first second : WorldShape) (event : Event) →
    IsStep code world event first → IsStep code world event second → first ≡ second
one_step code world first second (Take from to place) a b = one_take code world first second from to place a b
one_step code world first second (Turn host) a b = one_turn code world first second host a b
one_step code world first second (Act from to made) a b = one_act code world first second from to made a b

-- ---- it is not refused

turn_not_refused : (o : Option HostState) (state : HostState) → o ≡ Some state → IsSome state.running →
    refusal_of_turn o ≡ None
turn_not_refused None state obeys runs = absurd (cc)
turn_not_refused (Some other) state obeys runs =
    let same : other ≡ state = cc in
    rw (same, runs) refl

rests_at : (o : Option HostState) (state : HostState) → o ≡ Some state → state.running ≡ None →
    IsSomeAnd o (λ s. s.running ≡ None)
rests_at None state obeys rests = absurd (cc)
rests_at (Some other) state obeys rests =
    let same : other ≡ state = cc in
    rw same rests

pub not_refused : (code : CodeShape) (world after : WorldShape) (event : Event) → IsStep code world event after →
    refusal_of world event ≡ None
not_refused code world after (Take from to place) step =
    take_not_refused (slice_get (world.flying from to) place) (state_at world to) step.flight step.there
    (rests_at (state_at world to) step.state step.obeys step.rests)
not_refused code world after (Turn host) step =
    turn_not_refused (state_at world host) step.state step.obeys step.runs
not_refused code world after (Act from to made) step =
    act_not_refused (misbehaves world from) (state_at world to) (length (tokens_sent world))
    (message_made (tokens_sent world) made) step.message step.bad step.makes
    (rests_at (state_at world to) step.state step.obeys step.rests)

-- ---- the hosts after it

telling_hosts : (world : WorldShape) (from : HostId) (sent : Option (HostId × Message)) →
    (after_telling world from sent).hosts ≡ world.hosts
telling_hosts world from None = refl
telling_hosts world from (Some sent) = refl

either_hosts : (b : Bool) (x y world : WorldShape) → x.hosts ≡ world.hosts → y.hosts ≡ world.hosts →
    (if b then x else y).hosts ≡ world.hosts
either_hosts true x y world first second = first
either_hosts false x y world first second = second

sending_hosts : (world : WorldShape) (from : HostId) (letter : Option Letter) →
    (after_sending world from letter).hosts ≡ world.hosts
sending_hosts world from None = refl
sending_hosts world from (Some letter) = either_hosts (misbehaves world letter.to) _ _ world refl refl

pub take_puts : (code : CodeShape) (world after : WorldShape) (from to : HostId) (place : ℕ)
    (step : IsTakeStep code world from to place after) →
    after.hosts ≡ slice_set world.hosts to.0 (Some step.outcome.state)
take_puts code world after from to place step =
    ap (λ (w : WorldShape). w.hosts) (sym step.leaves)
    ∙ sending_hosts (with_state (without_flight world from to place) to step.outcome.state) to
    (letter_of (Some step.flight.label) step.outcome.sent)

pub turn_puts : (code : CodeShape) (world after : WorldShape) (host : HostId)
    (step : IsTurnStep code world host after) →
    after.hosts ≡ slice_set world.hosts host.0 (Some step.outcome.state)
turn_puts code world after host step =
    ap (λ (w : WorldShape). w.hosts) (sym step.leaves)
    ∙ sending_hosts (with_state world host step.outcome.state) host
    (letter_of (label_of_turn code step.state) step.outcome.sent)

pub act_puts : (code : CodeShape) (world after : WorldShape) (from to : HostId) (made : BadMessage)
    (step : IsActStep code world from to made after) →
    after.hosts ≡ slice_set world.hosts to.0 (Some step.outcome.state)
act_puts code world after from to made step =
    ap (λ (w : WorldShape). w.hosts) (sym step.leaves)
    ∙ telling_hosts (with_state world to step.outcome.state) to step.outcome.sent

-- a step puts a state in the place of one
record HasPut (world : WorldShape) (host : HostId) (after : WorldShape) : Type 0 where
  before : HostState
  state : HostState
  obeys : state_at world host ≡ Some before
  puts : after.hosts ≡ slice_set world.hosts host.0 (Some state)

puts_state : (code : CodeShape) (world after : WorldShape) (event : Event) → IsStep code world event after →
    HasPut world (mover event) after
puts_state code world after (Take from to place) step = record {
  before = step.state;
  state = step.outcome.state;
  obeys = step.obeys;
  puts = take_puts code world after from to place step;
}
puts_state code world after (Turn host) step = record {
  before = step.state;
  state = step.outcome.state;
  obeys = step.obeys;
  puts = turn_puts code world after host step;
}
puts_state code world after (Act from to made) step = record {
  before = step.state;
  state = step.outcome.state;
  obeys = step.obeys;
  puts = act_puts code world after from to made step;
}

pub others_stay : (code : CodeShape) (world after : WorldShape) (event : Event) (host : HostId) →
    IsStep code world event after → host.0 ≢ (mover event).0 →
    slice_get after.hosts host.0 ≡ slice_get world.hosts host.0
others_stay code world after event host step other =
    let put = puts_state code world after event step in
    ap (λ hosts. slice_get hosts host.0) put.puts
    ∙ get_other world.hosts (mover event).0 host.0 (Some put.state) other

pub absent_set : {X : Type 0} (hosts : List (Option X)) (i j : ℕ) (x y : X) → given (slice_get hosts i) ≡ Some x →
    is_absent (slice_get (slice_set hosts i (Some y)) j) ≡ is_absent (slice_get hosts j)
absent_set [] i j x y there = refl
absent_set (None ∷ hosts) zero zero x y there = absurd (cc)
absent_set (Some z ∷ hosts) zero zero x y there = refl
absent_set (host ∷ hosts) zero (suc j) x y there = refl
absent_set (host ∷ hosts) (suc i) zero x y there = refl
absent_set (host ∷ hosts) (suc i) (suc j) x y there = absent_set hosts i j x y there

pub same_misbehave : (code : CodeShape) (world after : WorldShape) (event : Event) (host : HostId) →
    IsStep code world event after → misbehaves after host ≡ misbehaves world host
same_misbehave code world after event host step =
    let put = puts_state code world after event step in
    ap (λ hosts. is_absent (slice_get hosts host.0)) put.puts
    ∙ absent_set world.hosts (mover event).0 host.0 put.before put.state put.obeys

-- ---- what misbehaving hosts were sent

telling_more : (world : WorldShape) (from : HostId) (sent : Option (HostId × Message)) →
    (more : List SentMessage) × ((after_telling world from sent).sent ≡ world.sent ++ more)
telling_more world from None = ([], sym (append-nil world.sent))
telling_more world from (Some sent) = ((from, sent.0, sent.1) ∷ [], refl)

either_more : (b : Bool) (x y : WorldShape) (sent : List SentMessage) →
    ((more : List SentMessage) × (x.sent ≡ sent ++ more)) → ((more : List SentMessage) × (y.sent ≡ sent ++ more)) →
    (more : List SentMessage) × ((if b then x else y).sent ≡ sent ++ more)
either_more true x y sent first second = first
either_more false x y sent first second = second

sending_more : (world : WorldShape) (from : HostId) (letter : Option Letter) →
    (more : List SentMessage) × ((after_sending world from letter).sent ≡ world.sent ++ more)
sending_more world from None = ([], sym (append-nil world.sent))
sending_more world from (Some letter) =
    either_more (misbehaves world letter.to) _ _ world.sent
    (telling_more world from (Some (letter.to, letter.message))) ([], sym (append-nil world.sent))

left : (old after : WorldShape) (sent : List SentMessage) → old ≡ after →
    ((more : List SentMessage) × (old.sent ≡ sent ++ more)) → (more : List SentMessage) × (after.sent ≡ sent ++ more)
left old after sent same more = (more.0, ap (λ (w : WorldShape). w.sent) (sym same) ∙ more.1)

pub told_more : (code : CodeShape) (world after : WorldShape) (event : Event) → IsStep code world event after →
    (more : List SentMessage) × (after.sent ≡ world.sent ++ more)
told_more code world after (Take from to place) step =
    left _ after world.sent step.leaves
    (sending_more (with_state (without_flight world from to place) to step.outcome.state) to
    (letter_of (Some step.flight.label) step.outcome.sent))
told_more code world after (Turn host) step =
    left _ after world.sent step.leaves
    (sending_more (with_state world host step.outcome.state) host
    (letter_of (label_of_turn code step.state) step.outcome.sent))
told_more code world after (Act from to made) step =
    left _ after world.sent step.leaves
    (telling_more (with_state world to step.outcome.state) to step.outcome.sent)

-- ---- runs

pub one_run : (code : CodeShape) (world first second : WorldShape) (events : List Event) →
    IsRun code world events first → IsRun code world events second → first ≡ second
one_run code world first second [] a b = sym a ∙ b
one_run code world first second (event ∷ events) a b =
    one_run code b.0 first second events
    (subst (λ (w : WorldShape). IsRun code w events first) (one_step code world a.0 b.0 event a.1 b.1) a.2) b.2

pub joined : (code : CodeShape) (world middle after : WorldShape) (events later : List Event) →
    IsRun code world events middle → IsRun code middle later after → IsRun code world (events ++ later) after
joined code world middle after [] later first second =
    subst (λ (w : WorldShape). IsRun code w later after) (sym first) second
joined code world middle after (event ∷ events) later first second =
    (first.0, first.1, joined code first.0 middle after events later first.2 second)

pub split : (code : CodeShape) (world after : WorldShape) (events later : List Event) →
    IsRun code world (events ++ later) after →
    (middle : WorldShape) × IsRun code world events middle × IsRun code middle later after
split code world after [] later run = (world, refl, run)
split code world after (event ∷ events) later run =
    let rest = split code run.0 after events later run.2 in
    (rest.0, (run.0, run.1, rest.1), rest.2)
