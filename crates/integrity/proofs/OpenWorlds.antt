-- Every event keeps that all that goes on could be the doing of misbehaving hosts, and changes nothing that they may
-- not affect.
use Rattle.std.specs.Prelude.{◌==◌, if◌then◌else◌, slice_get, slice_set, All, Any, IfSome, IsSomeAnd}
use Rattle.std.specs.Option.{option_map}
use Rattle.std.specs.Int.{bit_at}
use Rattle.std.proofs.Common.{◌≡◌, ◌∙◌, ℕ, zero, suc, ◌+◌, inl, inr, ℤ, Bool, true, false, List, [], ◌∷◌, ◌++◌}
use Rattle.std.proofs.Common.{Option, Some, None, refl, sym, ap, subst, arith}
use Rattle.std.proofs.lemmas.Option.{slice_get-map}
use Rattle.js_base.specs.declared.ids.HostId.{HostId}
use Rattle.label_lattice.specs.declared.label.Label.{Label}
use Rattle.host_decl.specs.Hosts as declared_hosts
use Rattle.jif_tree.specs.Altered.{Exposure}
use Rattle.need_labels.proofs.Somewhere.{any_here, any_right}
use Rattle.ics_stack.specs.declared.stack.StackEntry.{StackEntry}
use Rattle.host_code.specs.declared.message.Message.{Message}
use Rattle.host_code.specs.declared.message.Message.TheVariants as message
use Rattle.host_code.specs.Thread.{ThreadShape, WaitingShape}
use Rattle.host_code.specs.Code.{CodeShape}
use Rattle.entry_check.specs.Checks.{label_of_host}
use Rattle.event_text.specs.declared.event.Event.{Event}
use Rattle.event_text.specs.declared.event.Event.TheVariants.{Take, Turn, Act}
use Rattle.event_text.specs.declared.event.BadMessage.{BadMessage}
use Rattle.host_core.specs.Host.{HostState}
use Rattle.host_core.specs.Turn.{label_of_turn}
use Rattle.net_world.specs.Fits.{ShapeFits, IsStateOf, HasOwnToken}
use Rattle.net_world.specs.World.{IsRun}
use Rattle.net_world.specs.Flying.{Flight}
use Rattle.net_world.specs.World.{
  WorldShape,
  IsStep,
  IsTakeStep,
  IsTurnStep,
  IsActStep,
  state_at,
  misbehaves,
  is_absent,
}
use Rattle.net_world.specs.World.{named_host, hosts_before, with_state, without_flight, world_at_start}
use Rattle.net_world.proofs.Moved.{moved_acted, either}
use Rattle.net_world.proofs.StepLaws.{take_puts, turn_puts, act_puts}
use Rattle.token_laws.specs.Reached.{IsReached}
use Rattle.token_laws.proofs.EachFlight.{FlyWith, fly_without, fly_sent, of_state, states_after}
use Rattle.token_laws.proofs.HeldLaws.{all_at}
use Rattle.token_laws.proofs.Walks.{same_bad, fits_there, one_more}
use Rattle.integrity.specs.Exposed.{IsAsBefore, AreAsBefore, bad_labels}
use Rattle.integrity.specs.Outside.{ThreadIsOpen, EntryIsOpen}
use Rattle.integrity.specs.Outside.{Threat, StateIsOpen, MessageIsOpen, IsOutside}
use Rattle.integrity.proofs.OpenSteps.{IsKnown, Kinds, HasOpen, TopIsOpen, BacksOpen, open_turn, same_then}
use Rattle.integrity.proofs.OpenTakes.{WakesOpen, DoesOpen, open_taking, passes_open}

-- ---- who misbehaves

-- a host that misbehaves has its label in the code, and among those of misbehaving hosts
pub record IsBad (threat : Threat) (host : HostId) : Type 0 where
  pub label : Label
  pub of_host : label_of_host threat.code host ≡ Some label
  pub among : Any (λ other. other ≡ label) threat.exposure.bad

abbrev pub AreBad : Threat → WorldShape → Type 0
AreBad threat world = (host : HostId) → misbehaves world host ≡ true → IsBad threat host

bad_here : (b : Bool) (state : HostState) (label : Label) (others : List Label) →
    is_absent (Some (if b then None else Some state)) ≡ true →
    Any (λ other. other ≡ label) ((if b then label ∷ [] else []) ++ others)
bad_here true state label others is = any_here (λ other. other ≡ label) label others refl
bad_here false state label others is = absurd (cc)

pub record IsBadRow (bad number : ℕ) (rows : List declared_hosts.HostShape) (place : ℕ) : Type 0 where
  pub row : declared_hosts.HostShape
  pub there : slice_get rows place ≡ Some row
  pub among : Any (λ other. other ≡ row.label) (bad_labels bad number rows)

bad_row : (code : CodeShape) (store : List (List ℤ)) (bad number : ℕ) (rows : List declared_hosts.HostShape)
    (place : ℕ) → is_absent (slice_get (hosts_before code store bad number rows) place) ≡ true →
    IsBadRow bad number rows place
bad_row code store bad number [] place is = absurd (cc)
bad_row code store bad number (row ∷ rows) zero is = record {
  row = row;
  there = refl;
  among = bad_here (bit_at bad number == 1) _ row.label (bad_labels bad (number + 1) rows) is;
}
bad_row code store bad number (row ∷ rows) (suc place) is =
    let later = bad_row code store bad (number + 1) rows place is in
    record {
      row = later.row;
      there = later.there;
      among = any_right (λ other. other ≡ later.row.label) (if bit_at bad number == 1 then row.label ∷ [] else [])
          (bad_labels bad (number + 1) rows) later.among;
    }

-- those are the hosts of the word's bits
pub bad_reached : (threat : Threat) (rows : List declared_hosts.HostShape) (bad : ℕ) (store : List (List ℤ))
    (events : List Event) (world : WorldShape) → threat.exposure.bad ≡ bad_labels bad 0 rows →
    IsReached threat.code rows bad store events world → AreBad threat world
bad_reached threat rows bad store events world is reach host misbehaving =
    let found =
    bad_row threat.code store bad 0 rows host.0
    (sym (same_bad threat.code rows bad store events world reach host) ∙ misbehaving) in
    record {
      label = found.row.label;
      of_host = ap (λ all. option_map (λ there. there.label) (slice_get all host.0)) (sym reach.hosts)
          ∙ ap (option_map (λ there. there.label))
          (slice_get-map named_host rows host.0 ∙ ap (option_map named_host) found.there);
      among = subst (Any (λ other. other ≡ found.row.label)) (sym is) found.among;
    }

-- ---- what is as before

unchanged : (exposure : Exposure) (state : HostState) → IsAsBefore exposure state state
unchanged exposure state = record { rows = λ field. inl refl; variables = λ frame x. inl refl }

-- one host has changed
pub before_after : (exposure : Exposure) (world after : WorldShape) (me : HostId) (old state : HostState) →
    state_at world me ≡ Some old → after.hosts ≡ slice_set world.hosts me.0 (Some state) →
    IsAsBefore exposure old state → AreAsBefore exposure world after
before_after exposure world after me old state obeys puts stays host new at =
    elim (either world after me old state after.flying obeys (record { hosts = puts; flying = refl }) host new at) [
      | inl mover ↦
          subst (λ (o : Option HostState). IsSomeAnd o (λ was. IsAsBefore exposure was new))
          (sym (ap (state_at world) mover.same ∙ obeys))
          (subst (λ (s : HostState). IsAsBefore exposure old s) (sym mover.is) stays)
      | inr other ↦
          subst (λ (o : Option HostState). IsSomeAnd o (λ was. IsAsBefore exposure was new)) (sym other.obeys)
          (unchanged exposure new)
    ]

before_itself : (exposure : Exposure) (world : WorldShape) → AreAsBefore exposure world world
before_itself exposure world host new at =
    subst (λ (o : Option HostState). IsSomeAnd o (λ was. IsAsBefore exposure was new)) (sym at) (unchanged exposure new)

before_on : (exposure : Exposure) (new : HostState) (middle first : Option HostState) →
    IsSomeAnd middle (λ state. IsAsBefore exposure state new) →
    ((state : HostState) → middle ≡ Some state → IsSomeAnd first (λ old. IsAsBefore exposure old state)) →
    IsSomeAnd first (λ old. IsAsBefore exposure old new)
before_on exposure new None first stays earlier = absurd stays
before_on exposure new (Some state) None stays earlier = absurd (earlier state refl)
before_on exposure new (Some state) (Some old) stays earlier =
    let on = earlier state refl in
    record {
      rows = λ field. same_then _ _ _ _ (on.rows field) (stays.rows field);
      variables = λ frame x. same_then _ _ _ _ (on.variables frame x) (stays.variables frame x);
    }

before_then : (exposure : Exposure) (world next after : WorldShape) → AreAsBefore exposure world next →
    AreAsBefore exposure next after → AreAsBefore exposure world after
before_then exposure world next after first later host new at =
    before_on exposure new (state_at next host) (state_at world host) (later host new at) (first host)

-- ---- where all is open

abbrev all_open : (threat : Threat) → Kinds threat
all_open threat = record {
  waits = λ me waiting. ThreadIsOpen threat me waiting.thread;
  keeps = λ on_stack. EntryIsOpen threat on_stack.entry;
  open_waits = λ me waiting may. may;
  open_keeps = λ on_stack may. may;
}

has_open : (threat : Threat) (state : HostState) → StateIsOpen threat state → HasOpen threat (all_open threat) state
has_open threat state was = record { running = was.running; waiting = was.waiting; entries = was.entries }

is_open : (threat : Threat) (state : HostState) → HasOpen threat (all_open threat) state → StateIsOpen threat state
is_open threat state has = record { running = has.running; waiting = has.waiting; entries = has.entries }

top_open : (threat : Threat) (entries : List StackEntry) → All (λ on_stack. EntryIsOpen threat on_stack.entry) entries →
    TopIsOpen threat entries
top_open threat [] all = tt
top_open threat (top ∷ below) all = all 0 top (omega arith)

pops_open : (threat : Threat) (state : HostState) (running : Option ThreadShape) → StateIsOpen threat state →
    IfSome running (BacksOpen threat state)
pops_open threat state None was = tt
pops_open threat state (Some thread) was =
    λ instruction at is token held top. top_open threat state.entries was.entries

wakes_open : (threat : Threat) (state : HostState) (place : Option ℕ) → StateIsOpen threat state →
    WakesOpen threat state place
wakes_open threat state place was at waiting is there =
    all_at (λ (w : WaitingShape). ThreadIsOpen threat state.me w.thread) state.waiting at waiting was.waiting there

does_open : (threat : Threat) (state : HostState) (from : HostId) (m : Message) → StateIsOpen threat state →
    MessageIsOpen threat m → DoesOpen threat state from m
does_open threat state from (message.Get request field index) was said = tt
does_open threat state from (message.Set request field index value) was said = said
does_open threat state from (message.Forward request frame x value) was said = said
does_open threat state from (message.Sync request frame there token) was said = said
does_open threat state from (message.Rgoto frame there token) was said = said
does_open threat state from (message.RgotoWith frame there token riders) was said = said
does_open threat state from (message.Lgoto token) was said = top_open threat state.entries was.entries
does_open threat state from (message.Value request value) was said = wakes_open threat state _ was
does_open threat state from (message.Ack request) was said = wakes_open threat state _ was
does_open threat state from (message.Token request token) was said = wakes_open threat state _ was

-- ---- the events

pub state_fits : (threat : Threat) (world : WorldShape) (host : HostId) (state : HostState) →
    ShapeFits threat.code world →
    state_at world host ≡ Some state → IsStateOf threat.code host state
state_fits threat world host state fits obeys =
    subst (λ (o : Option HostState). IfSome o (IsStateOf threat.code host)) obeys (fits.states host)

abbrev pub StaysOpen : Threat → WorldShape → WorldShape → Type 0
StaysOpen threat world after = IsOutside threat after × AreAsBefore threat.exposure world after

open_take : (threat : Threat) → IsKnown threat → (world after : WorldShape) (from to : HostId) (place : ℕ) →
    ShapeFits threat.code world → IsTakeStep threat.code world from to place after → IsOutside threat world →
    StaysOpen threat world after
open_take threat known world after from to place fits step outside =
    let said =
    all_at (λ (f : Flight). MessageIsOpen threat f.message) (world.flying from to) place step.flight
    (outside.flying from to) step.there in
    let was = of_state (StateIsOpen threat) world to step.state outside.states step.obeys in
    let leaves =
    open_taking threat (all_open threat) known step.state from step.flight.message step.outcome
    (has_open threat step.state was) (state_fits threat world to step.state fits step.obeys).fits
    (λ passes. does_open threat step.state from step.flight.message was said) step.takes in
    let left = without_flight world from to place in
    let puts = take_puts threat.code world after from to place step in (
      record {
        states = states_after (StateIsOpen threat) world after to step.state step.outcome.state step.obeys puts
            outside.states (is_open threat step.outcome.state leaves.state);
        flying = subst (λ (w : WorldShape). FlyWith (MessageIsOpen threat) w.flying) step.leaves
            (fly_sent (MessageIsOpen threat) (with_state left to step.outcome.state) to (Some step.flight.label)
            step.outcome.sent (fly_without (MessageIsOpen threat) world from to place outside.flying) leaves.sent);
      },
      before_after threat.exposure world after to step.state step.outcome.state step.obeys puts leaves.stays,
    )

open_turned : (threat : Threat) → IsKnown threat → (world after : WorldShape) (me : HostId) →
    ShapeFits threat.code world → IsTurnStep threat.code world me after → IsOutside threat world →
    StaysOpen threat world after
open_turned threat known world after me fits step outside =
    let was = of_state (StateIsOpen threat) world me step.state outside.states step.obeys in
    let leaves =
    open_turn threat (all_open threat) known step.state step.outcome (has_open threat step.state was)
    (state_fits threat world me step.state fits step.obeys).fits
    (pops_open threat step.state step.state.running was) step.turns in
    let puts = turn_puts threat.code world after me step in (
      record {
        states = states_after (StateIsOpen threat) world after me step.state step.outcome.state step.obeys puts
            outside.states (is_open threat step.outcome.state leaves.state);
        flying = subst (λ (w : WorldShape). FlyWith (MessageIsOpen threat) w.flying) step.leaves
            (fly_sent (MessageIsOpen threat) (with_state world me step.outcome.state) me
            (label_of_turn threat.code step.state) step.outcome.sent outside.flying leaves.sent);
      },
      before_after threat.exposure world after me step.state step.outcome.state step.obeys puts leaves.stays,
    )

open_act : (threat : Threat) → IsKnown threat → (world after : WorldShape) (from to : HostId) (made : BadMessage) →
    ShapeFits threat.code world → AreBad threat world → IsActStep threat.code world from to made after →
    IsOutside threat world → StaysOpen threat world after
open_act threat known world after from to made fits bad step outside =
    let sender = bad from step.bad in
    let was = of_state (StateIsOpen threat) world to step.state outside.states step.obeys in
    let leaves =
    open_taking threat (all_open threat) known step.state from step.message step.outcome
    (has_open threat step.state was) (state_fits threat world to step.state fits step.obeys).fits
    (λ passes. does_open threat step.state from step.message was
    (passes_open threat known step.state from sender.label step.message sender.of_host sender.among passes))
    step.takes in
    let puts = act_puts threat.code world after from to made step in (
      record {
        states = states_after (StateIsOpen threat) world after to step.state step.outcome.state step.obeys puts
            outside.states (is_open threat step.outcome.state leaves.state);
        flying = subst (FlyWith (MessageIsOpen threat))
            (sym (moved_acted world to step.outcome after step.leaves).flying) outside.flying;
      },
      before_after threat.exposure world after to step.state step.outcome.state step.obeys puts leaves.stays,
    )

pub open_step : (threat : Threat) → IsKnown threat → (world after : WorldShape) (event : Event) →
    ShapeFits threat.code world → AreBad threat world → IsStep threat.code world event after →
    IsOutside threat world → StaysOpen threat world after
open_step threat known world after (Take from to place) fits bad step outside =
    open_take threat known world after from to place fits step outside
open_step threat known world after (Turn host) fits bad step outside =
    open_turned threat known world after host fits step outside
open_step threat known world after (Act from to made) fits bad step outside =
    open_act threat known world after from to made fits bad step outside

-- ---- along events

pub open_run : (threat : Threat) → IsKnown threat → (rows : List declared_hosts.HostShape) (bad : ℕ)
    (store : List (List ℤ)) (events more : List Event) (world after : WorldShape) →
    threat.exposure.bad ≡ bad_labels bad 0 rows → IsReached threat.code rows bad store events world →
    All (HasOwnToken (world_at_start threat.code rows bad store)) more → IsRun threat.code world more after →
    IsOutside threat world → StaysOpen threat world after
open_run threat known rows bad store events [] world after is reach own ran outside =
    subst (StaysOpen threat world) ran (outside, before_itself threat.exposure world)
open_run threat known rows bad store events (event ∷ more) world after is reach own ran outside =
    let first =
    open_step threat known world ran.0 event (fits_there threat.code rows bad store events world reach)
    (bad_reached threat rows bad store events world is reach) ran.1 outside in
    let later =
    open_run threat known rows bad store (events ++ event ∷ []) more ran.0 after is
    (one_more threat.code rows bad store events world ran.0 event reach (own 0 event (omega arith)) ran.1)
    (λ k d lt. own (suc k) d (omega arith)) ran.2 first.0 in
    (later.0, before_then threat.exposure world ran.0 after first.1 later.1)
