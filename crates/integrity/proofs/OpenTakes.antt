-- What a host leaves and sends that takes a message which could be the doing of misbehaving hosts: nothing that these
-- may not affect, and nothing that could not be their doing too. What passes the check of a misbehaving host is such a
-- message.
use Rattle.std.specs.Prelude.{slice_get, Any, IfSome, IsTrue}
use Rattle.std.specs.List.{AllByRecursion}
use Rattle.std.specs.Option.{option_map}
use Rattle.std.proofs.Common.{◌≡◌, ◌∙◌, ℕ, Bool, true, false, List, [], ◌∷◌, Option, Some, None, refl, sym, ap}
use Rattle.std.proofs.Common.{subst, arith}
use Rattle.std.proofs.lemmas.List.Elements.{All-cons}
use Rattle.js_base.specs.declared.ids.HostId.{HostId}
use Rattle.js_base.specs.declared.ids.EntryId.{EntryId}
use Rattle.js_base.specs.declared.ids.VarId.{VarId}
use Rattle.label_lattice.specs.declared.label.Label.{Label}
use Rattle.label_lattice.specs.Label.{IsTrustedBy}
use Rattle.jif_tree.specs.Altered.{VariableIsAffected}
use Rattle.host_code.specs.declared.code.Entry.{Entry}
use Rattle.host_code.specs.declared.message.Message.{Message}
use Rattle.host_code.specs.declared.message.Message.TheVariants as message
use Rattle.host_code.specs.Riders.{Rider, names_of}
use Rattle.host_code.specs.Thread.{ThreadShape, WaitingShape}
use Rattle.host_code.specs.Thread.Awaited.{value_of_field, acknowledgement, token_of_entry}
use Rattle.host_code.specs.Code.{CodeFieldShape, CodeVariableShape, field_at, variable_at, entry_at}
use Rattle.entry_check.specs.declared.ask.Ask.TheVariants as ask
use Rattle.entry_check.specs.Checks.{May, MayAffect, MayEnter, MayRide, IsTrustedFor, MaySee, label_at, label_of_host}
use Rattle.host_core.specs.Fits.{StateFits, IsEntryOf}
use Rattle.host_core.specs.Host.{HostState, Outcome, with_one_ignored, with_token, with_temporary, without_message}
use Rattle.host_core.specs.Host.{after_push}
use Rattle.host_core.specs.Taking.{place_of_awaiting, IsTaking, PassesCheck, after_taking, after_answer}
use Rattle.split_rules.specs.Opening.{MayChange, MayChangeField, HasNeed}
use Rattle.token_laws.proofs.HostNumbers.{all_but}
use Rattle.integrity.specs.Outside.{Threat, ThreadIsOpen, EntryIsOpen, MessageIsOpen}
use Rattle.integrity.proofs.OpenSteps.{IsKnown, any_each, some_each, field_affected, variable_affected, Kinds, HasOpen}
use Rattle.integrity.proofs.OpenSteps.{LeavesOpen, TopIsOpen, same_frames, as_before, stands, writes, sets, opened}
use Rattle.integrity.proofs.OpenSteps.{enters, enters_with, pops}

-- the thread is open that waits for an answer
abbrev pub WakesOpen : Threat → HostState → Option ℕ → Type 0
WakesOpen threat host place = (at : ℕ) (waiting : WaitingShape) → place ≡ Some at →
    slice_get host.waiting at ≡ Some waiting → ThreadIsOpen threat host.me waiting.thread

-- what a message asks for is open, and so is the entry or the thread that it starts
abbrev pub DoesOpen : Threat → HostState → HostId → Message → Type 0
DoesOpen threat host from (message.Lgoto token) = TopIsOpen threat host.entries
DoesOpen threat host from (message.Value request value) =
    WakesOpen threat host (place_of_awaiting host value_of_field request from)
DoesOpen threat host from (message.Ack request) =
    WakesOpen threat host (place_of_awaiting host acknowledgement request from)
DoesOpen threat host from (message.Token request token) =
    WakesOpen threat host (place_of_awaiting host token_of_entry request from)
DoesOpen threat host from m = MessageIsOpen threat m

woken : (threat : Threat) (me : HostId) (there : Option WaitingShape) (answered : ThreadShape → ThreadShape) →
    ((thread : ThreadShape) → ThreadIsOpen threat me thread → ThreadIsOpen threat me (answered thread)) →
    ((waiting : WaitingShape) → there ≡ Some waiting → ThreadIsOpen threat me waiting.thread) →
    IfSome (option_map (λ waiting. answered waiting.thread) there) (ThreadIsOpen threat me)
woken threat me None answered keeps may = tt
woken threat me (Some waiting) answered keeps may = keeps waiting.thread (may waiting refl)

wakes : (threat : Threat) (kinds : Kinds threat) (host : HostState) (place : Option ℕ)
    (answered : ThreadShape → ThreadShape) → HasOpen threat kinds host → WakesOpen threat host place →
    ((thread : ThreadShape) → ThreadIsOpen threat host.me thread → ThreadIsOpen threat host.me (answered thread)) →
    LeavesOpen threat kinds host (without_message (after_answer host place answered))
wakes threat kinds host None answered was may keeps = stands threat kinds host host refl refl refl was
wakes threat kinds host (Some place) answered was may keeps =
    stands threat kinds host (after_answer host (Some place) answered) refl refl refl (record {
      running = woken threat host.me (slice_get host.waiting place) answered keeps (λ waiting. may place waiting refl);
      waiting = all_but (kinds.waits host.me) host.waiting place was.waiting;
      entries = was.entries;
    })

-- an entry at which a host may enter is one of the host that takes the message
enters_here : (threat : Threat) (me from : HostId) (there : EntryId) →
    MayEnter threat.code me there (label_of_host threat.code from) → IsEntryOf threat.code me there
enters_here threat me from there may =
    some_each (λ (entry : Entry). (entry.host ≡ me) × IsTrustedFor (label_of_host threat.code from) entry.need
    × MaySee (label_at threat.code entry.label) (label_of_host threat.code from)) (λ entry. entry.host ≡ me)
    (entry_at threat.code there) (λ entry one. one.0) may.1

takes : (threat : Threat) (kinds : Kinds threat) → IsKnown threat →
    (host : HostState) (from : HostId) (m : Message) (passes : Bool) →
    HasOpen threat kinds host → StateFits threat.code host → (IsTrue passes → PassesCheck threat.code host from m) →
    (PassesCheck threat.code host from m → DoesOpen threat host from m) →
    LeavesOpen threat kinds host (after_taking threat.code host from m passes)
takes threat kinds known host from m false was fits check said =
    stands threat kinds host (with_one_ignored host) refl refl refl
    (record { running = was.running; waiting = was.waiting; entries = was.entries })
takes threat kinds known host from (message.Get request field index) true was fits check said =
    record {
      state = was;
      stays = as_before threat.exposure host host refl refl;
      frames = same_frames host host refl;
      sent = tt;
    }
takes threat kinds known host from (message.Set request field index value) true was fits check said = record {
  state = record { running = was.running; waiting = was.waiting; entries = was.entries };
  stays = writes threat.exposure host field index value (said (check refl));
  frames = λ site. omega arith;
  sent = tt;
}
takes threat kinds known host from (message.Forward request frame x value) true was fits check said = record {
  state = record { running = was.running; waiting = was.waiting; entries = was.entries };
  stays = sets threat.exposure host frame x value (said (check refl));
  frames = λ site. omega arith;
  sent = tt;
}
takes threat kinds known host from (message.Sync request frame there token) true was fits check said = record {
  state = record {
    running = was.running;
    waiting = was.waiting;
    entries = All-cons kinds.keeps _ _ (kinds.open_keeps _ (said (check refl))) was.entries;
  };
  stays = as_before threat.exposure host (after_push host there frame token) refl refl;
  frames = same_frames host (after_push host there frame token) refl;
  sent = tt;
}
takes threat kinds known host from (message.Rgoto frame there token) true was fits check said =
    enters threat kinds host (entry_at threat.code there) frame token was
    (opened threat known host.me there (said (check refl)) (enters_here threat host.me from there (check refl)))
takes threat kinds known host from (message.RgotoWith frame there token riders) true was fits check said =
    enters_with threat kinds host (entry_at threat.code there) frame token riders was
    (opened threat known host.me there (said (check refl)).0 (enters_here threat host.me from there (check refl).0))
    (said (check refl)).1
takes threat kinds known host from (message.Lgoto token) true was fits check said =
    pops threat kinds known host host.entries was was.entries (said (check refl)) fits.entries
takes threat kinds known host from (message.Value request number) true was fits check said =
    wakes threat kinds host _ (with_temporary number) was (said (check refl)) (λ thread may. may)
takes threat kinds known host from (message.Ack request) true was fits check said =
    wakes threat kinds host _ (λ thread. thread) was (said (check refl)) (λ thread may. may)
takes threat kinds known host from (message.Token request token) true was fits check said =
    wakes threat kinds host _ (with_token (Some token)) was (said (check refl)) (λ thread may. may)

-- a message is taken that is open where it passes its check
pub open_taking : (threat : Threat) (kinds : Kinds threat) → IsKnown threat →
    (host : HostState) (from : HostId) (m : Message)
    (outcome : Outcome) → HasOpen threat kinds host → StateFits threat.code host →
    (PassesCheck threat.code host from m → DoesOpen threat host from m) → IsTaking threat.code host from m outcome →
    LeavesOpen threat kinds host outcome
open_taking threat kinds known host from m outcome was fits said step =
    subst (LeavesOpen threat kinds host) step.2 (takes threat kinds known host from m step.0 was fits step.1.0 said)

-- ---- what misbehaving hosts send

enters_open : (threat : Threat) (me from : HostId) (label : Label) (there : EntryId) →
    label_of_host threat.code from ≡ Some label → Any (λ other. other ≡ label) threat.exposure.bad →
    MayEnter threat.code me there (label_of_host threat.code from) → EntryIsOpen threat there
enters_open threat me from label there is among may = (
  may.0,
  any_each (λ other. other ≡ label) (λ other. HasNeed threat.code other there) threat.exposure.bad (λ other same.
      some_each (λ (entry : Entry). (entry.host ≡ me) × IsTrustedFor (label_of_host threat.code from) entry.need
      × MaySee (label_at threat.code entry.label) (label_of_host threat.code from))
      (λ entry. IsTrustedBy other entry.need) (entry_at threat.code there)
      (λ entry both. subst (λ o. IsTrustedFor o entry.need) (is ∙ ap Some (sym same)) both.1) may.1) among,
)

forwards_open : (threat : Threat) → IsKnown threat → (me from : HostId) (label : Label) (x : VarId) →
    label_of_host threat.code from ≡ Some label → Any (λ other. other ≡ label) threat.exposure.bad →
    May threat.code me (ask.Forward x) from → VariableIsAffected threat.exposure x
forwards_open threat known me from label x is among may =
    variable_affected threat known x
    (any_each (λ other. other ≡ label) (λ other. MayChange threat.code other x) threat.exposure.bad
    (λ other same.
    some_each (λ (there : CodeVariableShape). MayAffect (label_of_host threat.code from)
    (label_at threat.code there.label))
    (λ there. MayAffect (Some other) (label_at threat.code there.label)) (variable_at threat.code x)
    (λ there one. subst (λ o. MayAffect o (label_at threat.code there.label)) (is ∙ ap Some (sym same)) one) may)
    among)

-- each variable that rides is one that the host may forward
rides_open : (threat : Threat) → IsKnown threat → (me from : HostId) (label : Label) (riders : List Rider) →
    label_of_host threat.code from ≡ Some label → Any (λ other. other ≡ label) threat.exposure.bad →
    MayRide threat.code me from (names_of riders) →
    AllByRecursion (λ rider. VariableIsAffected threat.exposure rider.0) riders
rides_open threat known me from label [] is among may = tt
rides_open threat known me from label (rider ∷ riders) is among may = (
  forwards_open threat known me from label rider.0 is among may.0,
  rides_open threat known me from label riders is among may.1,
)

-- what passes the check of a misbehaving host is open to it
pub passes_open : (threat : Threat) → IsKnown threat → (host : HostState) (from : HostId) (label : Label)
    (m : Message) → label_of_host threat.code from ≡ Some label →
    Any (λ other. other ≡ label) threat.exposure.bad → PassesCheck threat.code host from m → MessageIsOpen threat m
passes_open threat known host from label (message.Get request field index) is among may = tt
passes_open threat known host from label (message.Set request field index value) is among may =
    field_affected threat known field
    (any_each (λ other. other ≡ label) (λ other. MayChangeField threat.code other field) threat.exposure.bad
    (λ other same.
    some_each (λ (there : CodeFieldShape). (there.host ≡ host.me)
    × MayAffect (label_of_host threat.code from) (label_at threat.code there.label))
    (λ there. MayAffect (Some other) (label_at threat.code there.label)) (field_at threat.code field)
    (λ there both. subst (λ o. MayAffect o (label_at threat.code there.label)) (is ∙ ap Some (sym same)) both.1) may)
    among)
passes_open threat known host from label (message.Forward request frame x value) is among may =
    forwards_open threat known host.me from label x is among may
passes_open threat known host from label (message.Sync request frame there token) is among may =
    enters_open threat host.me from label there is among may
passes_open threat known host from label (message.Rgoto frame there token) is among may =
    enters_open threat host.me from label there is among may
passes_open threat known host from label (message.RgotoWith frame there token riders) is among may = (
  enters_open threat host.me from label there is among may.0,
  rides_open threat known host.me from label riders is among may.1,
)
passes_open threat known host from label (message.Lgoto token) is among may = tt
passes_open threat known host from label (message.Value request number) is among may = tt
passes_open threat known host from label (message.Ack request) is among may = tt
passes_open threat known host from label (message.Token request token) is among may = tt
