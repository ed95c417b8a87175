-- A message of the holder's is taken: the world stands for the same configuration again, or for one that a step leads
-- to.
use Rattle.std.proofs.Common.{◌≡◌, ◌≢◌, ◌∙◌, ◌⊎◌, inr, ℕ, zero, suc, ◌<◌, Bool, true, false, List, [], ◌∷◌}
use Rattle.std.proofs.Common.{length, Some, None, refl, sym, ap, subst, arith, get_or}
use Rattle.std.specs.Prelude.{◌==◌, ◌&&◌, if◌then◌else◌, slice_get, slice_set, remove, nat_lt, position, All}
use Rattle.std.specs.List.{position_or_len}
use Rattle.std.proofs.lemmas.Bool.{eq-eqb}
use Rattle.std.proofs.lemmas.Bool.Decides.{nat_tests}
use Rattle.std.proofs.lemmas.List.Elements.{All-nil, All-cons}
use Rattle.std.proofs.lemmas.Option.{slice_get-get_or}
use Rattle.js_base.specs.declared.ids.HostId.{HostId}
use Rattle.js_base.specs.declared.ids.RequestId.{RequestId}
use Rattle.jif_tree.specs.SourceRun.{Configuration}
use Rattle.ics_stack.specs.declared.stack.StackEntry.{StackEntry}
use Rattle.ics_stack.specs.Stack.{top_token}
use Rattle.host_code.specs.declared.message.Message.{Message}
use Rattle.host_code.specs.declared.message.Message.TheVariants as message
use Rattle.host_code.specs.Thread.{WaitingShape, Awaited}
use Rattle.host_code.specs.Thread.Awaited.{value_of_field, acknowledgement, token_of_entry}
use Rattle.host_core.specs.Awaiting.{awaits, is_same_answer}
use Rattle.host_core.specs.Host.{HostState}
use Rattle.host_core.specs.Taking.{place_of_awaiting}
use Rattle.net_world.specs.Fits.{ShapeFits}
use Rattle.net_world.specs.Flying.{Flight, Flying}
use Rattle.net_world.specs.Told.{token_in}
use Rattle.net_world.specs.World.{WorldShape, IsTakeStep, state_at, has_halted, without_flight}
use Rattle.net_world.proofs.Present.{same_id}
use Rattle.token_laws.specs.Requests.{number_answered}
use Rattle.token_laws.proofs.AskedLaws.{waits_once}
use Rattle.token_laws.proofs.EachFlight.{of_state}
use Rattle.token_laws.proofs.Tests.{number_same}
use Rattle.token_laws.proofs.WorldTokens.{Accounts}
use Rattle.typed_steps.specs.Requests.{IsAnswerTo}
use Rattle.typed_steps.specs.Values.{HoldsNumbers}
use Rattle.typed_steps.specs.Views.{Split, View, entries_of}
use Rattle.integrity.specs.Holding.{IsAmong, Holder, halted, first_of, MessageFlies}
use Rattle.integrity.specs.Holding.{OwnsMessage, StateIsOutside, IsStanding}
use Rattle.integrity.specs.Outside.{Threat, MessageIsOpen}
use Rattle.integrity.specs.Standing.{threat_in, StandsBy}
use Rattle.integrity.proofs.Among.{each_among, same_item}
use Rattle.integrity.proofs.FliesOn.{FlyAs}
use Rattle.integrity.proofs.OpenWorlds.{state_fits}
use Rattle.integrity.proofs.OutsideEvents.{other_of}
use Rattle.integrity.proofs.StandsOn.{halted_before}
use Rattle.integrity.proofs.TightKept.{IsLawful}
use Rattle.integrity.proofs.TightMoves.{all_as}
use Rattle.integrity.proofs.WaitMoves.{found_at}

-- ---- what is left once the holder's message was taken

pub remove_all : {X : Type 0} (P Q : X → Type 0) (xs : List X) (out : ℕ) →
    ((k : ℕ) (x : X) → slice_get xs k ≡ Some x → k ≢ out → P x → Q x) → All P xs → All Q (remove xs out)
remove_all P Q [] zero each all = All-nil Q
remove_all P Q [] (suc out) each all = All-nil Q
remove_all P Q (x ∷ xs) zero each all =
    λ k d lt.
    each (suc k) (get_or xs k d) (slice_get-get_or xs k d lt) (λ same. omega (arith, same)) (all (suc k) d
    (omega arith))
remove_all P Q (x ∷ xs) (suc out) each all =
    All-cons Q x (remove xs out) (each 0 x refl (λ same. omega (arith, same)) (all 0 x (omega arith)))
    (remove_all P Q xs out (λ k y is apart. each (suc k) y is (λ same. apart (omega (arith, same))))
    (λ k d lt. all (suc k) d (omega arith)))

-- where a host is another, its test fails
pub cell_apart : (P : List Flight → HostId → HostId → Type 0) (flying : Flying) (from to : HostId)
    (flights : List Flight)
    (one other : HostId) (b c : Bool) → (one.0 == from.0) ≡ b → (other.0 == to.0) ≡ c →
    (one ≡ from → other ≡ to → P flights one other) → ((one ≡ from → other ≡ to → ⊥) → P (flying one other) one other) →
    P (if b && c then flights else flying one other) one other
cell_apart P flying from to flights one other true true first second new old =
    new (same_id one from (number_same one.0 from.0 first)) (same_id other to (number_same other.0 to.0 second))
cell_apart P flying from to flights one other true false first second new old =
    old (λ same also.
    let is : (other.0 == to.0) ≡ true = eq-eqb other.0 to.0 (ap (λ (h : HostId). h.0) also) in
    let never : true ≡ false = sym is ∙ second in
    absurd (cc))
cell_apart P flying from to flights one other false c first second new old =
    old (λ same also.
    let is : (one.0 == from.0) ≡ true = eq-eqb one.0 from.0 (ap (λ (h : HostId). h.0) same) in
    let never : true ≡ false = sym is ∙ first in
    absurd (cc))

-- where the message that was taken was the only one of the holder's
open_without : (threat : Threat) (holder : Holder) (world : WorldShape) (from to : HostId) (place : ℕ) →
    ((one other : HostId) (k : ℕ) (flight : Flight) → slice_get (world.flying one other) k ≡ Some flight →
    OwnsMessage holder one other flight.message → (one ≡ from) × (other ≡ to) × (k ≡ place)) →
    FlyAs (λ one other m. OwnsMessage holder one other m ⊎ MessageIsOpen threat m) world.flying →
    FlyAs (λ one other m. MessageIsOpen threat m) (without_flight world from to place).flying
open_without threat holder world from to place only all one other =
    let Open : Flight → Type 0 = λ flight. MessageIsOpen threat flight.message in
    cell_apart (λ flights i j. All Open flights) world.flying from to (remove (world.flying from to) place) one other
    (one.0 == from.0) (other.0 == to.0) refl refl
    (λ first second.
    remove_all (λ flight. OwnsMessage holder from to flight.message ⊎ Open flight) Open (world.flying from to) place
    (λ k flight is apart. λ either. other_of either (λ own. apart (only from to k flight is own).2)) (all from to))
    (λ apart k d lt.
    other_of (all one other k d lt) (λ own.
    let it =
    only one other k (get_or (world.flying one other) k d) (slice_get-get_or (world.flying one other) k d lt) own in
    apart it.0 it.1))

-- ---- who waits is found

same_answer : (awaited : Awaited) → is_same_answer awaited awaited ≡ true
same_answer value_of_field = refl
same_answer acknowledgement = refl
same_answer token_of_entry = refl

awaits_own : (waiting : WaitingShape) → awaits waiting.awaited waiting.request waiting.asked waiting ≡ true
awaits_own waiting =
    rw (
      same_answer waiting.awaited,
      eq-eqb waiting.request.at waiting.request.at refl,
      eq-eqb waiting.request.count waiting.request.count refl,
      eq-eqb waiting.asked.0 waiting.asked.0 refl,
    ) refl

within_later : {X : Type 0} (p : X → Bool) (y : X) (xs : List X) (b : Bool) → p y ≡ b →
    position_or_len p xs < length xs → position_or_len p (y ∷ xs) < length (y ∷ xs)
within_later p y xs true here rest = rw here (omega arith)
within_later p y xs false here rest = rw here (omega arith)

within : {X : Type 0} (p : X → Bool) (xs : List X) (place : ℕ) (x : X) → slice_get xs place ≡ Some x →
    p x ≡ true → position_or_len p xs < length xs
within p [] place x is holds = absurd (cc)
within p (y ∷ xs) zero x is holds =
    let same : y ≡ x = cc in
    let here : p y ≡ true = ap p same ∙ holds in
    rw here (omega arith)
within p (y ∷ xs) (suc place) x is holds = within_later p y xs (p y) refl (within p xs place x is holds)

-- the thread that waits for an answer from a host is at the place that is found
pub waits_there : (threat : Threat) (world : WorldShape) → IsLawful threat world → (host : HostId) (state : HostState)
    (waiting : WaitingShape) (place : ℕ) → state_at world host ≡ Some state →
    slice_get state.waiting place ≡ Some waiting →
    place_of_awaiting state waiting.awaited waiting.request waiting.asked ≡ Some place
waits_there threat world is host state waiting place obeys there =
    let p = awaits waiting.awaited waiting.request waiting.asked in
    let first = position_or_len p state.waiting in
    let lt = within p state.waiting place waiting there (awaits_own waiting) in
    let test : nat_lt (position_or_len p state.waiting) (length state.waiting) ≡ true = grind (arith, nat_tests) in
    let found : position p state.waiting ≡ Some (position_or_len p state.waiting) =
    ap (λ (b : Bool). if b then Some (position_or_len p state.waiting) else None) test in
    let at : slice_get state.waiting first ≡ Some (get_or state.waiting first waiting) =
    slice_get-get_or state.waiting first waiting lt in
    let one =
    found_at state.waiting waiting.awaited waiting.request waiting.asked first
    (get_or state.waiting first waiting) found
    at in
    let same =
    waits_once world.flying host state first place (get_or state.waiting first waiting) waiting
    (is.asked.hosts host state obeys) at there one.request_is in
    found ∙ ap (λ (n : ℕ). Some n) same

-- ---- answers

pub answer_number : (split : Split) (c : Configuration) (view : View) (host : HostId) (waiting : WaitingShape)
    (m : Message) → IsAnswerTo split c view host waiting m → number_answered m ≡ Some waiting.request
answer_number split c view host waiting (message.Value request value) is = ap (λ (r : RequestId). Some r) (sym is.1)
answer_number split c view host waiting (message.Ack request) is = ap (λ (r : RequestId). Some r) (sym is.1)
answer_number split c view host waiting (message.Token request token) is = ap (λ (r : RequestId). Some r) (sym is.1)
answer_number split c view host waiting _ is = absurd is

pub answer_top : (split : Split) (c : Configuration) (view : View) (host : HostId) (waiting : WaitingShape)
    (m : Message) → IsAnswerTo split c view host waiting m →
    first_of (token_in m) waiting.thread.held ≡ top_token (entries_of view.chain)
answer_top split c view host waiting (message.Value request value) is = is.2.held
answer_top split c view host waiting (message.Ack request) is = is.2.held
answer_top split c view host waiting (message.Token request token) is = is.2.held
answer_top split c view host waiting _ is = absurd is

-- ---- what is known before the take, and after it

pub record Taking (split : Split) (c : Configuration) (view : View) (holder : Holder) (world after : WorldShape)
    (from to : HostId) (place : ℕ) : Type 0 where
  pub stands : StandsBy split c view holder world
  pub lawful : IsLawful (threat_in split) world
  pub fits : ShapeFits split.code after
  pub account : Accounts world after
  pub step : IsTakeStep split.code world from to place after
  pub numbers : HoldsNumbers split.exposure step.state
  pub only : (one other : HostId) (k : ℕ) (flight : Flight) → slice_get (world.flying one other) k ≡ Some flight →
      OwnsMessage holder one other flight.message → (one ≡ from) × (other ≡ to) × (k ≡ place)

module _ (split : Split) (c : Configuration) (view : View) (holder : Holder) (world after : WorldShape)
    (from to : HostId) (place : ℕ) (t : Taking split c view holder world after from to place) where
  pub was : StateIsOutside (threat_in split) (entries_of view.chain) holder t.step.state
  was = of_state (StateIsOutside (threat_in split) (entries_of view.chain) holder) world to t.step.state
      t.stands.tight.outside.states t.step.obeys

  pub me_is : t.step.state.me ≡ to
  me_is = (state_fits (threat_in split) world to t.step.state t.lawful.fits t.step.obeys).me

  pub standing_each : (e : StackEntry) → IsAmong (entries_of view.chain) e → IsStanding world e
  standing_each e = each_among (IsStanding world) (entries_of view.chain) e t.stands.tight.standing

  pub left_open : FlyAs (λ one other m. MessageIsOpen (threat_in split) m) (without_flight world from to place).flying
  left_open = open_without (threat_in split) holder world from to place t.only t.stands.tight.outside.flying

  pub left_flying : (next : Holder) → FlyAs (λ one other m. OwnsMessage next one other m
      ⊎ MessageIsOpen (threat_in split) m) (without_flight world from to place).flying
  left_flying next one other =
      all_as (λ flight. MessageIsOpen (threat_in split) flight.message)
      (λ flight. OwnsMessage next one other flight.message ⊎ MessageIsOpen (threat_in split) flight.message)
      ((without_flight world from to place).flying one other) (λ flight may. inr may) (left_open one other)

  -- the message that was taken is the holder's
  pub taken_is : (m : Message) → MessageFlies world from to m → OwnsMessage holder from to m → t.step.flight.message ≡ m
  taken_is m flies own =
      let at = t.only from to flies.among.0 flies.flight flies.among.1 (subst (OwnsMessage holder from to)
      (sym flies.is) own)
      in
      ap (λ (f : Flight). f.message)
      (same_item (world.flying from to) place t.step.flight flies.flight t.step.there
      (subst (λ n. slice_get (world.flying from to) n ≡ Some flies.flight) at.2 flies.among.1)) ∙ flies.is

  -- no host has halted
  pub none_halted : (next : Holder) (new : HostState) → (holder ≡ halted → ⊥) →
      after.hosts ≡ slice_set world.hosts to.0 (Some new) → new.halted ≡ t.step.state.halted →
      has_halted split.code.root after → next ≡ halted
  none_halted next new goes puts same has =
      absurd (goes (t.stands.halts
      (halted_before world after split.code.root to t.step.state new t.step.obeys puts same has)))
