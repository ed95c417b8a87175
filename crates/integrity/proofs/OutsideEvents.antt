-- What an event leaves that is none of the holder's: the holder and the chain, and all else outside.
use Rattle.std.proofs.Common.{◌≡◌, ◌≢◌, ◌∙◌, ◌⊎◌, inl, inr, ℕ, List, [], ◌∷◌, Option, Some, None}
use Rattle.std.proofs.Common.{refl, sym, ap, subst, arith}
use Rattle.std.specs.Prelude.{slice_get, slice_set, All, IfSome, IsSome, IsSomeAnd}
use Rattle.std.specs.List.{AllByRecursion}
use Rattle.js_base.specs.declared.ids.HostId.{HostId}
use Rattle.js_base.specs.declared.ids.RequestId.{RequestId}
use Rattle.capability.specs.declared.token.Token.{Token}
use Rattle.ics_stack.specs.declared.stack.StackEntry.{StackEntry}
use Rattle.ics_stack.specs.Stack.{top_token}
use Rattle.host_code.specs.declared.message.Message.{Message}
use Rattle.host_code.specs.declared.message.Message.TheVariants as message
use Rattle.host_code.specs.Thread.{ThreadShape, WaitingShape, Awaited}
use Rattle.host_code.specs.Thread.Awaited.{value_of_field, acknowledgement, token_of_entry}
use Rattle.host_core.specs.Host.{HostState, Outcome}
use Rattle.host_core.specs.Taking.{PassesCheck, IsTaking, place_of_awaiting}
use Rattle.host_core.specs.Turn.{label_of_turn}
use Rattle.event_text.specs.declared.event.Event.TheVariants.{Take, Act}
use Rattle.event_text.specs.declared.event.BadMessage.{BadMessage}
use Rattle.net_world.specs.Fits.{OwnTokenIn}
use Rattle.net_world.specs.Flying.{Flight}
use Rattle.net_world.specs.Told.{token_in, message_made}
use Rattle.net_world.specs.World.{WorldShape, IsTakeStep, IsTurnStep, IsActStep, state_at, tokens_sent}
use Rattle.net_world.specs.World.{with_state, without_flight}
use Rattle.net_world.proofs.Fitting.{bad_differs}
use Rattle.net_world.proofs.Moved.{moved_acted}
use Rattle.net_world.proofs.StepLaws.{take_puts, turn_puts, act_puts}
use Rattle.token_laws.specs.Holders.{IsTokenSent}
use Rattle.token_laws.specs.Requests.{number_answered}
use Rattle.token_laws.proofs.EachFlight.{of_state}
use Rattle.token_laws.proofs.HeldLaws.{all_at}
use Rattle.token_laws.proofs.HostRequests.{Turns, turn_requests}
use Rattle.integrity.specs.Exposed.{IsAsBefore}
use Rattle.integrity.specs.Holding.{IsAmong, Holder, OwnsRunning, OwnsWaiting, OwnsMessage, IsHoldersEvent, IsThere}
use Rattle.integrity.specs.Holding.{StateIsOutside, IsOutsideBut, IsStanding, IsTight}
use Rattle.integrity.specs.Outside.{Threat, ThreadIsOpen, EntryIsOpen, MessageIsOpen}
use Rattle.integrity.proofs.Among.{among_push, among_without, one_of_some, some_of, each_among, all_among}
use Rattle.integrity.proofs.FliesOn.{FlyAs, flies_without, sends_on, all_without, all_sent}
use Rattle.integrity.proofs.HeldTokens.{IsKeptBy, StandsThere, chain_kept, not_running, not_flying, given_back}
use Rattle.integrity.proofs.HolderStays.{LeavesAlone}
use Rattle.integrity.proofs.OpenSteps.{IsKnown, Kinds, HasOpen, LeavesOpen, FramesStay, TopIsOpen, BacksOpen, open_turn}
use Rattle.integrity.proofs.OpenTakes.{WakesOpen, DoesOpen, open_taking, passes_open}
use Rattle.integrity.proofs.OpenWorlds.{state_fits}
use Rattle.integrity.proofs.StackMoves as stacks
use Rattle.integrity.proofs.StackMoves.{Restacks, RunsWith, RunsBack, GivesBack, restacks_by, back_restacks}
use Rattle.integrity.proofs.StackMoves.{taking_restacks}
use Rattle.integrity.proofs.TightKept.{IsLawful, tokens_known, Comes, flies, told, not_woken, rests_apart}
use Rattle.integrity.proofs.WaitMoves.{WaitsAt, found_at, Rewaits, stays, wakes, taking_rewaits}

-- ---- the tokens of the chain

-- misbehaving hosts were not sent the token, and an entry of the chain or the holder has it
pub record IsSafe (world : WorldShape) (holder : Holder) (token : Token) : Type 0 where
  pub state : HostState
  pub is : state_at world token.host ≡ Some state
  pub obeys : IsSome (state_at world token.host)
  pub unsent : ¬ IsTokenSent world token
  pub kept : IsKeptBy world holder token

-- so it is with each entry of some
abbrev pub AreSafe : List StackEntry → Holder → WorldShape → Type 0
AreSafe chain holder world = (e : StackEntry) → IsAmong chain e → IsSafe world holder e.token

pub safe : (threat : Threat) (chain : List StackEntry) (holder : Holder) (world : WorldShape) →
    IsTight threat chain holder world → AreSafe chain holder world
safe threat chain holder world tight e among =
    let one = each_among (IsStanding world) chain e tight.standing among in
    let at = one_of_some (state_at world e.token.host) (λ state. IsAmong state.entries e) one.there in
    let stands : AllByRecursion (StandsThere world) chain =
    all_among (StandsThere world) chain (λ x here. (each_among (IsStanding world) chain x tight.standing here).there) in
    record {
      state = at.one;
      is = at.is;
      obeys = subst (λ o. IsSome o) (sym at.is) refl;
      unsent = one.unsent;
      kept = chain_kept world holder chain e tight.linked stands tight.there tight.has_top among;
    }

-- a token that no entry of the chain has
abbrev pub IsNone : List StackEntry → Token → Type 0
IsNone chain token = (e : StackEntry) → IsAmong chain e → e.token ≢ token

pub run_none : (threat : Threat) (chain : List StackEntry) (holder : Holder) (world : WorldShape) →
    IsLawful threat world → AreSafe chain holder world → (me : HostId) (state : HostState) →
    state_at world me ≡ Some state → (OwnsRunning holder me → ⊥) → (token : Token) → RunsWith state.running token →
    IsNone chain token
run_none threat chain holder world is safe_each me state obeys apart token held e among same =
    let it = safe_each e among in
    not_running threat.code world holder e.token me (tokens_known threat world is) it.obeys it.unsent it.kept
    (some_of (state_at world me) (λ s. IsSomeAnd s.running (λ t. t.held ≡ Some e.token)) state obeys
    (subst (RunsWith state.running) (sym same) held)) apart

pub fly_none : (threat : Threat) (chain : List StackEntry) (holder : Holder) (world : WorldShape) →
    IsLawful threat world → AreSafe chain holder world → (from to : HostId) (place : ℕ) (flight : Flight) →
    slice_get (world.flying from to) place ≡ Some flight → ¬ IsHoldersEvent holder world (Take from to place) →
    (token : Token) → GivesBack flight.message token → IsNone chain token
fly_none threat chain holder world is safe_each from to place flight there apart token gives e among same =
    let it = safe_each e among in
    not_flying threat.code world holder e.token from to place (tokens_known threat world is) it.obeys it.unsent it.kept
    (some_of (slice_get (world.flying from to) place) (λ f. token_in f.message ≡ Some e.token) flight there
    (ap token_in gives ∙ ap (λ (t : Token). Some t) (sym same)))
    (λ other here own.
    apart (some_of (slice_get (world.flying from to) place) (λ f. OwnsMessage holder from to f.message) other here own))

pub act_none : (chain : List StackEntry) (holder : Holder) (world : WorldShape) → AreSafe chain holder world →
    (made : BadMessage) (m : Message) → OwnTokenIn world made → message_made (tokens_sent world) made ≡ Some m →
    (token : Token) → GivesBack m token → IsNone chain token
act_none chain holder world safe_each made m own makes token gives e among same =
    let it = safe_each e among in
    elim (given_back world made token own (makes ∙ ap (λ (x : Message). Some x) gives)) [
      | inl bad ↦
          bad_differs world token.host e.token.host it.state bad it.is (ap (λ (t : Token). t.host) (sym same))
      | inr sent ↦ it.unsent (subst (IsTokenSent world) (sym same) sent)
    ]

-- ---- what may be there

abbrev but : (threat : Threat) → List StackEntry → Holder → Kinds threat
but threat chain holder = record {
  waits = λ me waiting. OwnsWaiting holder me waiting ⊎ ThreadIsOpen threat me waiting.thread;
  keeps = λ on_stack. IsAmong chain on_stack ⊎ EntryIsOpen threat on_stack.entry;
  open_waits = λ me waiting may. inr may;
  open_keeps = λ on_stack may. inr may;
}

pub other_of : {A B : Type 0} → A ⊎ B → (A → ⊥) → B
other_of (inl a) apart = absurd (apart a)
other_of (inr b) apart = b

has_open : (threat : Threat) (chain : List StackEntry) (holder : Holder) (state : HostState) →
    StateIsOutside threat chain holder state → (OwnsRunning holder state.me → ⊥) →
    HasOpen threat (but threat chain holder) state
has_open threat chain holder state was apart =
    record { running = other_of was.running apart; waiting = was.waiting; entries = was.entries }

is_outside : (threat : Threat) (chain : List StackEntry) (holder : Holder) (state : HostState) →
    HasOpen threat (but threat chain holder) state → StateIsOutside threat chain holder state
is_outside threat chain holder state has =
    record { running = inr has.running; waiting = has.waiting; entries = has.entries }

-- the top entry is open where its token is none of the chain's
top_open : (threat : Threat) (chain entries : List StackEntry) →
    All (λ on_stack. IsAmong chain on_stack ⊎ EntryIsOpen threat on_stack.entry) entries →
    ((token : Token) → top_token entries ≡ Some token → IsNone chain token) → TopIsOpen threat entries
top_open threat chain [] all apart = tt
top_open threat chain (top ∷ below) all apart =
    other_of (all 0 top (omega arith)) (λ among. apart top.token refl top among refl)

pops_open : (threat : Threat) (chain : List StackEntry) (state : HostState) (running : Option ThreadShape) →
    All (λ on_stack. IsAmong chain on_stack ⊎ EntryIsOpen threat on_stack.entry) state.entries →
    ((token : Token) → RunsBack threat.code state.me running token → top_token state.entries ≡ Some token →
    IsNone chain token) → IfSome running (BacksOpen threat state)
pops_open threat chain state None all apart = tt
pops_open threat chain state (Some thread) all apart =
    λ instruction at back token held top.
    top_open threat chain state.entries all (λ other is.
    let both : Some token ≡ Some other = sym top ∙ is in
    let same : token ≡ other = cc in
    apart other (held ∙ ap (λ (t : Token). Some t) same, instruction, at, back) is)

does_open : (threat : Threat) (state : HostState) (from : HostId) (m : Message) → MessageIsOpen threat m →
    ((token : Token) → m ≡ message.Lgoto token → top_token state.entries ≡ Some token →
    TopIsOpen threat state.entries) →
    ((awaited : Awaited) (request : RequestId) → number_answered m ≡ Some request →
    WakesOpen threat state (place_of_awaiting state awaited request from)) → PassesCheck threat.code state from m →
    DoesOpen threat state from m
does_open threat state from (message.Get request field index) said tops woken passes = tt
does_open threat state from (message.Set request field index value) said tops woken passes = said
does_open threat state from (message.Forward request frame x value) said tops woken passes = said
does_open threat state from (message.Sync request frame there token) said tops woken passes = said
does_open threat state from (message.Rgoto frame there token) said tops woken passes = said
does_open threat state from (message.RgotoWith frame there token riders) said tops woken passes = said
does_open threat state from (message.Lgoto token) said tops woken passes = tops token refl passes
does_open threat state from (message.Value request value) said tops woken passes = woken value_of_field request refl
does_open threat state from (message.Ack request) said tops woken passes = woken acknowledgement request refl
does_open threat state from (message.Token request token) said tops woken passes = woken token_of_entry request refl

-- ---- what an event leaves

pub record Leaves (threat : Threat) (chain : List StackEntry) (holder : Holder) (world after : WorldShape) : Type 0
  where
    pub alone : LeavesAlone chain holder world after
    pub stays : IsAsBefore threat.exposure alone.old alone.new
    pub frames : FramesStay alone.old alone.new
    pub state : StateIsOutside threat chain holder alone.new
    pub flying : FlyAs (λ from to m. OwnsMessage holder from to m ⊎ MessageIsOpen threat m) after.flying
    pub halts : alone.new.halted ≡ alone.old.halted

-- the entry that ends the program is the chain's
not_halted : (threat : Threat) (chain : List StackEntry) (old new : HostState) →
    All (λ on_stack. IsAmong chain on_stack ⊎ EntryIsOpen threat on_stack.entry) old.entries →
    Restacks (IsNone chain) old new → new.halted ≡ old.halted
not_halted threat chain old new all (stacks.stays is same) = same
not_halted threat chain old new all (stacks.pushes on_stack is same next) = same
not_halted threat chain old new all (stacks.pops top is never same) =
    let Keeps : StackEntry → Type 0 = λ on_stack. IsAmong chain on_stack ⊎ EntryIsOpen threat on_stack.entry in
    same (other_of (subst (All Keeps) is all 0 top (omega arith)) (λ among. never top among refl)).0

said_open : (threat : Threat) (holder : Holder) (me : HostId) (sent : Option (HostId × Message)) →
    IfSome sent (λ letter. MessageIsOpen threat letter.1) →
    IfSome sent (λ letter. OwnsMessage holder me letter.0 letter.1 ⊎ MessageIsOpen threat letter.1)
said_open threat holder me None said = tt
said_open threat holder me (Some letter) said = inr said

waiting_more : (old : HostState) (outcome : Outcome) (one : WaitingShape) → Turns old outcome →
    IsAmong old.waiting one → IsAmong outcome.state.waiting one
waiting_more old outcome one (inl quiet) among = subst (λ list. IsAmong list one) (sym quiet.waiting) among
waiting_more old outcome one (inr asks) among =
    subst (λ list. IsAmong list one) (sym asks.waiting) (among_push old.waiting asks.thread one among)

pub turn_leaves : (threat : Threat) → IsKnown threat → (chain : List StackEntry) (holder : Holder)
    (world after : WorldShape) (me : HostId) → IsLawful threat world → (step : IsTurnStep threat.code world me after) →
    IsOutsideBut threat chain holder world → (OwnsRunning holder me → ⊥) →
    ((token : Token) → RunsBack threat.code step.state.me step.state.running token →
    top_token step.state.entries ≡ Some token → IsNone chain token) → Leaves threat chain holder world after
turn_leaves threat known chain holder world after me is step outside apart none =
    let fits = state_fits threat world me step.state is.fits step.obeys in
    let was = of_state (StateIsOutside threat chain holder) world me step.state outside.states step.obeys in
    let has =
    has_open threat chain holder step.state was (λ own. apart (subst (OwnsRunning holder) fits.me own)) in
    let leaves =
    open_turn threat (but threat chain holder) known step.state step.outcome has fits.fits
    (pops_open threat chain step.state step.state.running was.entries none) step.turns in
    let stack =
    restacks_by (RunsBack threat.code step.state.me step.state.running) (IsNone chain) step.state step.outcome.state
    none (back_restacks threat.code step.state step.outcome step.turns) in
    record {
      alone = record {
        me = me;
        old = step.state;
        new = step.outcome.state;
        obeys = step.obeys;
        puts = turn_puts threat.code world after me step;
        apart = apart;
        stack = stack;
        waiting = λ one among own.
            waiting_more step.state step.outcome one
            (turn_requests threat.code step.state step.outcome fits.fits step.turns) among;
        flying = λ from to flight among own.
            subst (λ (w : WorldShape). IsAmong (w.flying from to) flight) step.leaves
            (sends_on (with_state world me step.outcome.state) me (label_of_turn threat.code step.state)
            step.outcome.sent from to flight among);
      };
      stays = leaves.stays;
      frames = leaves.frames;
      state = is_outside threat chain holder step.outcome.state leaves.state;
      flying =
          let P : HostId → HostId → Message → Type 0 =
          λ from to m. OwnsMessage holder from to m ⊎ MessageIsOpen threat m in
          subst (λ (w : WorldShape). FlyAs P w.flying) step.leaves
          (all_sent P (with_state world me step.outcome.state) me (label_of_turn threat.code step.state)
          step.outcome.sent outside.flying (said_open threat holder me step.outcome.sent leaves.sent));
      halts = not_halted threat chain step.state step.outcome.state was.entries stack;
    }

-- ---- a message

-- A message that is none of the holder's comes to a host at rest, and takes no entry of the chain off its stack.
record IsComing (threat : Threat) (chain : List StackEntry) (holder : Holder) (world : WorldShape) (from me : HostId)
    (state : HostState) (m : Message) : Type 0 where
  obeys : state_at world me ≡ Some state
  rests : state.running ≡ None
  comes : Comes world from me m
  apart : OwnsMessage holder from me m → ⊥
  none : (token : Token) → GivesBack m token → top_token state.entries ≡ Some token → IsNone chain token
  said : PassesCheck threat.code state from m → MessageIsOpen threat m

module _ (threat : Threat) (known : IsKnown threat) (chain : List StackEntry) (holder : Holder) (world : WorldShape)
    (is : IsLawful threat world) (there : IsThere world holder) (outside : IsOutsideBut threat chain holder world)
    (from me : HostId) (state : HostState) (m : Message) (it : IsComing threat chain holder world from me state m) where
  sleeps : (request : RequestId) (place : ℕ) (one : WaitingShape) → number_answered m ≡ Some request →
      WaitsAt state.waiting request from place one → OwnsWaiting holder me one → ⊥
  sleeps request place one answer at own =
      not_woken threat world is holder there me from state m request place one it.obeys at answer own it.comes
      it.apart

  was : StateIsOutside threat chain holder state
  was = of_state (StateIsOutside threat chain holder) world me state outside.states it.obeys

  me_is : state.me ≡ me
  me_is = (state_fits threat world me state is.fits it.obeys).me

  wakes_open : (awaited : Awaited) (request : RequestId) → number_answered m ≡ Some request →
      WakesOpen threat state (place_of_awaiting state awaited request from)
  wakes_open awaited request answer place waiting found there =
      other_of (all_at (λ (w : WaitingShape). OwnsWaiting holder state.me w ⊎ ThreadIsOpen threat state.me w.thread)
      state.waiting place waiting was.waiting there) (λ own.
      sleeps request place waiting answer (found_at state.waiting awaited request from place waiting found there)
      (subst (λ h. OwnsWaiting holder h waiting) me_is own))

  not_here : OwnsRunning holder me → ⊥
  not_here = rests_apart world holder me state there it.obeys it.rests

  taking_leaves : (outcome : Outcome) → IsTaking threat.code state from m outcome →
      LeavesOpen threat (but threat chain holder) state outcome
  taking_leaves outcome takes =
      open_taking threat (but threat chain holder) known state from m outcome
      (has_open threat chain holder state was (λ own. not_here (subst (OwnsRunning holder) me_is own)))
      (state_fits threat world me state is.fits it.obeys).fits
      (λ passes.
      does_open threat state from m (it.said passes)
      (λ token gives top. top_open threat chain state.entries was.entries (λ other also.
      let both : Some token ≡ Some other = sym top ∙ also in
      let same : token ≡ other = cc in
      subst (IsNone chain) same (it.none token gives top))) wakes_open passes) takes

  still_waits : (new : List WaitingShape) (one : WaitingShape) → Rewaits from m state.waiting new →
      IsAmong state.waiting one → OwnsWaiting holder me one → IsAmong new one
  still_waits new one (stays same) among own = subst (λ list. IsAmong list one) (sym same) among
  still_waits new one (wakes request place each answer same) among own =
      subst (λ list. IsAmong list one) (sym same)
      (among_without state.waiting among.0 place one among.1 (λ here.
      sleeps request place one answer
      (each one (subst (λ n. slice_get state.waiting n ≡ Some one) here among.1)) own))

  event_leaves : (after : WorldShape) (outcome : Outcome) → IsTaking threat.code state from m outcome →
      after.hosts ≡ slice_set world.hosts me.0 (Some outcome.state) →
      ((one other : HostId) (flight : Flight) → IsAmong (world.flying one other) flight →
      OwnsMessage holder one other flight.message → IsAmong (after.flying one other) flight) →
      FlyAs (λ one other said. OwnsMessage holder one other said ⊎ MessageIsOpen threat said) after.flying →
      Leaves threat chain holder world after
  event_leaves after outcome takes puts on all =
      let leaves = taking_leaves outcome takes in
      let stack =
      restacks_by (GivesBack m) (IsNone chain) state outcome.state it.none
      (taking_restacks threat.code state from m outcome takes) in
      record {
        alone = record {
          me = me;
          old = state;
          new = outcome.state;
          obeys = it.obeys;
          puts = puts;
          apart = not_here;
          stack = stack;
          waiting = λ one among own.
              still_waits outcome.state.waiting one (taking_rewaits threat.code state from m outcome takes) among own;
          flying = on;
        };
        stays = leaves.stays;
        frames = leaves.frames;
        state = is_outside threat chain holder outcome.state leaves.state;
        flying = all;
        halts = not_halted threat chain state outcome.state was.entries stack;
      }

pub take_leaves : (threat : Threat) → IsKnown threat → (chain : List StackEntry) (holder : Holder)
    (world after : WorldShape) (from to : HostId) (place : ℕ) → IsLawful threat world →
    (step : IsTakeStep threat.code world from to place after) → IsThere world holder →
    IsOutsideBut threat chain holder world → ¬ IsHoldersEvent holder world (Take from to place) →
    ((token : Token) → GivesBack step.flight.message token → top_token step.state.entries ≡ Some token →
    IsNone chain token) → Leaves threat chain holder world after
take_leaves threat known chain holder world after from to place is step there outside apart none =
    let P : HostId → HostId → Message → Type 0 = λ one other m. OwnsMessage holder one other m ⊎
    MessageIsOpen threat m in
    let m = step.flight.message in
    let not_own : OwnsMessage holder from to m → ⊥ =
    λ own.
    apart (some_of (slice_get (world.flying from to) place) (λ f. OwnsMessage holder from to f.message) step.flight
    step.there own) in
    let it : IsComing threat chain holder world from to step.state m =
    record {
      obeys = step.obeys;
      rests = step.rests;
      comes = flies (record { flight = step.flight; among = (place, step.there); is = refl });
      apart = not_own;
      none = none;
      said = λ passes.
          other_of (all_at (λ (f : Flight). P from to f.message) (world.flying from to) place step.flight
          (outside.flying from to) step.there) not_own;
    } in
    let leaves =
    taking_leaves threat known chain holder world is there outside from to step.state m it step.outcome step.takes in
    let left = without_flight world from to place in
    event_leaves threat known chain holder world is there outside from to step.state m it after step.outcome step.takes
    (take_puts threat.code world after from to place step)
    (λ one other flight among own.
    subst (λ (w : WorldShape). IsAmong (w.flying one other) flight) step.leaves
    (sends_on (with_state left to step.outcome.state) to (Some step.flight.label) step.outcome.sent one other flight
    (flies_without world from to place one other flight among (λ first second here.
    apart (some_of (slice_get (world.flying from to) place) (λ f. OwnsMessage holder from to f.message) flight
    (ap (λ n. slice_get (world.flying from to) n) (sym here)
    ∙ ap (λ h. slice_get (world.flying h to) among.0) (sym first)
    ∙ ap (λ h. slice_get (world.flying one h) among.0) (sym second) ∙ among.1)
    (subst (λ h. OwnsMessage holder h to flight.message) first
    (subst (λ h. OwnsMessage holder one h flight.message) second own)))))))
    (subst (λ (w : WorldShape). FlyAs P w.flying) step.leaves
    (all_sent P (with_state left to step.outcome.state) to (Some step.flight.label) step.outcome.sent
    (all_without P world from to place outside.flying)
    (said_open threat holder to step.outcome.sent leaves.sent)))

pub act_leaves : (threat : Threat) → IsKnown threat → (chain : List StackEntry) (holder : Holder)
    (world after : WorldShape) (from to : HostId) (made : BadMessage) → IsLawful threat world →
    (step : IsActStep threat.code world from to made after) → IsThere world holder →
    IsOutsideBut threat chain holder world → ¬ IsHoldersEvent holder world (Act from to made) →
    ((token : Token) → GivesBack step.message token → top_token step.state.entries ≡ Some token →
    IsNone chain token) → Leaves threat chain holder world after
act_leaves threat known chain holder world after from to made is step there outside apart none =
    let m = step.message in
    let sender = is.bad from step.bad in
    let it : IsComing threat chain holder world from to step.state m =
    record {
      obeys = step.obeys;
      rests = step.rests;
      comes = told step.bad;
      apart = λ its.
          apart (some_of (message_made (tokens_sent world) made) (OwnsMessage holder from to) m step.makes its);
      none = none;
      said = passes_open threat known step.state from sender.label m sender.of_host sender.among;
    } in
    let flying = (moved_acted world to step.outcome after step.leaves).flying in
    event_leaves threat known chain holder world is there outside from to step.state m it after step.outcome step.takes
    (act_puts threat.code world after from to made step)
    (λ one other flight among its. subst (λ f. IsAmong (f one other) flight) (sym flying) among)
    (subst (FlyAs (λ one other said. OwnsMessage holder one other said ⊎ MessageIsOpen threat said)) (sym flying)
    outside.flying)
