-- The token of a loose chain's first entry is given back, by a thread of that host, in a message or by an act of a
-- misbehaving host: the thread of the entry starts, and the chain is tight again, or the program ends.
use Rattle.std.proofs.Common.{◌≡◌, ◌∙◌, ◌⊎◌, Bool, true, false, List, [], ◌∷◌, Option, Some, None, refl, sym, ap}
use Rattle.std.proofs.Common.{ℕ, subst, arith}
use Rattle.std.specs.Prelude.{◌↔◌, ◌==◌, if◌then◌else◌, All, IsTrue}
use Rattle.std.proofs.lemmas.Bool.{eq-eqb}
use Rattle.js_base.specs.declared.ids.HostId.{HostId}
use Rattle.jif_tree.specs.SourceRun.{Configuration}
use Rattle.capability.specs.declared.token.Token.{Token}
use Rattle.ics_stack.specs.declared.stack.StackEntry.{StackEntry}
use Rattle.ics_stack.specs.Stack.{top_token}
use Rattle.event_text.specs.declared.event.BadMessage.{BadMessage}
use Rattle.host_code.specs.declared.instruction.Instr.{Instr}
use Rattle.host_code.specs.declared.instruction.Op.{Op}
use Rattle.host_code.specs.declared.instruction.Op.TheVariants as op
use Rattle.host_code.specs.declared.message.Message.{Message}
use Rattle.host_code.specs.Code.{CodeShape}
use Rattle.host_code.specs.Thread.{ThreadShape}
use Rattle.host_core.specs.Fits.{StackEntryFits}
use Rattle.host_core.specs.Host.{HostState, Outcome, without_message, with_running, with_one_ignored, after_pop}
use Rattle.host_core.specs.Taking.{IsTaking}
use Rattle.host_core.specs.Turn.{IsTurnOf, IsRunning, IsOperation, PassesWith, after_back, label_of_turn}
use Rattle.net_world.specs.Fits.{ShapeFits}
use Rattle.net_world.specs.Flying.{Flying}
use Rattle.net_world.specs.World.{WorldShape, IsTakeStep, IsTurnStep, IsActStep, state_at, with_state, without_flight}
use Rattle.net_world.specs.World.{after_telling}
use Rattle.net_world.proofs.Moved.{Moved, moved_silent, silent_sent, moved_acted}
use Rattle.token_laws.proofs.EachFlight.{of_state}
use Rattle.token_laws.proofs.WorldTokens.{Accounts}
use Rattle.typed_steps.specs.Views.{Split, View, entries_of}
use Rattle.integrity.specs.Holding.{lost, StateIsOutside, OwnsMessage, OwnsWaiting}
use Rattle.integrity.specs.Loose.{StandsLoosely}
use Rattle.integrity.specs.Outside.{ThreadIsOpen, MessageIsOpen}
use Rattle.integrity.specs.Standing.{threat_in}
use Rattle.integrity.proofs.FliesOn.{FlyAs, all_without}
use Rattle.integrity.proofs.LooseChains.{below_first}
use Rattle.integrity.proofs.LooseEvents.{there_each}
use Rattle.integrity.proofs.OpenWorlds.{state_fits}
use Rattle.integrity.proofs.OutsideEvents.{IsNone, other_of}
use Rattle.integrity.proofs.PopMoves.{IsBare, Popping, Restarts, pops_own}
use Rattle.integrity.proofs.StackMoves.{RunsBack, GivesBack}
use Rattle.integrity.proofs.TightKept.{IsLawful}
use Rattle.integrity.proofs.TightMoves.{all_as}

-- ---- what takes an entry off a stack

back_if : (popped ignored other outcome : Outcome) (own passes : Bool) → own ≡ true → passes ≡ true →
    (if own then (if passes then popped else ignored) else other) ≡ outcome → popped ≡ outcome
back_if popped ignored other outcome true true own passing is = is
back_if popped ignored other outcome true false own passing is = absurd (cc)
back_if popped ignored other outcome false passes own passing is = absurd (cc)

back_of : (code : CodeShape) (bare : HostState) (thread : ThreadShape) (token : Token) (outcome : Outcome)
    (passes : Bool) → (IsTrue passes ↔ PassesWith code bare op.Back (Some token)) →
    after_back code bare thread (Some token) passes ≡ outcome → top_token bare.entries ≡ Some token →
    token.host ≡ bare.me → without_message (after_pop code (with_running bare None) bare.entries) ≡ outcome
back_of code bare thread token outcome true passing is top own =
    back_if (without_message (after_pop code (with_running bare None) bare.entries))
    (without_message (with_one_ignored (with_running bare None))) _ outcome (token.host.0 == bare.me.0) true
    (eq-eqb token.host.0 bare.me.0 (ap (λ (h : HostId). h.0) own)) refl is
back_of code bare thread token outcome false passing is top own =
    let never : false ≡ true = passing.1 (λ same. top) in
    absurd (cc)

-- a thread gives back the token of the top entry
back_pops : (code : CodeShape) (host : HostState) (running : Option ThreadShape) (token : Token) (outcome : Outcome) →
    IsTurnOf code host running outcome → RunsBack code host.me running token →
    top_token host.entries ≡ Some token → token.host ≡ host.me →
    without_message (after_pop code (with_running host None) host.entries) ≡ outcome
back_pops code host None token outcome step back top own = absurd back
back_pops code host (Some thread) token outcome step back top own =
    let bare = with_running host None in
    let here : IsOperation code bare thread back.1.op outcome =
    subst (λ (o : Option Instr). IsRunning code bare thread o outcome) back.2 step in
    let its : IsOperation code bare thread op.Back outcome =
    subst (λ (it : Op). IsOperation code bare thread it outcome) back.3 here in
    let Gives : Option Token → Type 0 = λ held.
    (passes : Bool) × (IsTrue passes ↔ PassesWith code bare op.Back held)
    × (after_back code bare thread held passes ≡ outcome) in
    let gives : Gives (Some token) = subst Gives back.0 its in
    back_of code bare thread token outcome gives.0 gives.1 gives.2 top own

taken_if : (popped ignored outcome : Outcome) (passes : Bool) → passes ≡ true →
    (if passes then popped else ignored) ≡ outcome → popped ≡ outcome
taken_if popped ignored outcome true passing is = is
taken_if popped ignored outcome false passing is = absurd (cc)

-- a message gives it back
taking_pops : (code : CodeShape) (host : HostState) (from : HostId) (m : Message) (token : Token) (outcome : Outcome) →
    IsTaking code host from m outcome → GivesBack m token → top_token host.entries ≡ Some token →
    without_message (after_pop code host host.entries) ≡ outcome
taking_pops code host from m token outcome step gives top =
    let taking = subst (λ x. IsTaking code host from x outcome) gives step in
    taken_if (without_message (after_pop code host host.entries)) (without_message (with_one_ignored host)) outcome
    taking.0 (taking.1.1 top) taking.2

-- the token of the top entry names its host
top_here : (code : CodeShape) (me : HostId) (entries : List StackEntry) (token : Token) →
    All (StackEntryFits code me) entries → top_token entries ≡ Some token → token.host ≡ me
top_here code me [] token fits top = absurd (cc)
top_here code me (first ∷ below) token fits top =
    let same : first.token ≡ token = cc in
    ap (λ (t : Token). t.host) (sym same) ∙ (fits 0 first (omega arith)).token

-- ---- the events

module _ (split : Split) (c : Configuration) (view : View) (world after : WorldShape)
    (lawful : IsLawful (threat_in split) world) (fits : ShapeFits split.code after) (account : Accounts world after)
    (stands : StandsLoosely split c view world) (token : Token) (first : top_token (entries_of view.chain) ≡ Some token)
    (none : IsNone (below_first (entries_of view.chain)) token) where
  flying_open : FlyAs (λ from to m. MessageIsOpen (threat_in split) m) world.flying
  flying_open from to =
      all_as (λ flight. OwnsMessage lost from to flight.message ⊎ MessageIsOpen (threat_in split) flight.message)
      (λ flight. MessageIsOpen (threat_in split) flight.message) (world.flying from to)
      (λ flight either. other_of either (λ never. never)) (stands.loose.outside.flying from to)

  pops : (host : HostId) (old bare : HostState) → state_at world host ≡ Some old → IsBare old bare →
      (outcome : Outcome) (flying : Flying) →
      ((new : HostState) → without_message new ≡ outcome → Moved world host new flying after) →
      FlyAs (λ from to m. MessageIsOpen (threat_in split) m) flying → after.sent ≡ world.sent →
      top_token old.entries ≡ Some token → without_message (after_pop split.code bare old.entries) ≡ outcome →
      Restarts split c after
  pops host old bare obeys is_bare outcome flying moved others_open quiet top is =
      let state = state_fits (threat_in split) world host old lawful.fits obeys in
      let was =
      of_state (StateIsOutside (threat_in split) (entries_of view.chain) lost) world host old
      stands.loose.outside.states obeys in
      let popping : Popping split c view lost world after host =
      record {
        outside = stands.loose.outside;
        linked = stands.loose.linked;
        there = there_each (threat_in split) (entries_of view.chain) world stands.loose;
        unsent = stands.loose.unsent;
        holds = stands.holds;
        runs_on = stands.goes_on;
        is_chain = stands.chain;
        lawful = lawful;
        fits = fits;
        account = account;
        quiet = quiet;
        old = old;
        obeys = obeys;
        bare = bare;
        is_bare = is_bare;
        outcome = outcome;
        flying = flying;
        moved = moved;
        others_open = others_open;
        waits = all_as (λ w. OwnsWaiting lost old.me w ⊎ ThreadIsOpen (threat_in split) old.me w.thread)
            (λ w. ThreadIsOpen (threat_in split) host w.thread) old.waiting
            (λ w either. subst (λ h. ThreadIsOpen (threat_in split) h w.thread) state.me
            (other_of either (λ never. never))) was.waiting;
        own_runs = λ other apart own. own;
        own_waits = λ other one own. own;
      } in
      pops_own split c view lost world after host popping token
      (top_here split.code old.me old.entries token state.fits.entries top ∙ state.me) first top none stands.gives_up is

  pub turn_restarts : (host : HostId) → (step : IsTurnStep split.code world host after) →
      RunsBack split.code step.state.me step.state.running token → top_token step.state.entries ≡ Some token →
      Restarts split c after
  turn_restarts host step back top =
      let state = state_fits (threat_in split) world host step.state lawful.fits step.obeys in
      let bare = with_running step.state None in
      let is =
      back_pops split.code step.state step.state.running token step.outcome step.turns back top
      (top_here split.code step.state.me step.state.entries token state.fits.entries top) in
      let label = label_of_turn split.code step.state in
      pops host step.state bare step.obeys
      (record {
        me = refl;
        waiting = refl;
        entries = refl;
        rows = refl;
        variables = refl;
        frames = refl;
        halts = refl;
        rests = refl;
      })
      step.outcome world.flying (λ new new_is. moved_silent world host step.outcome new label after new_is step.leaves)
      flying_open (silent_sent world host step.outcome _ label after is step.leaves) top is

  at_rest : (state : HostState) → state.running ≡ None → IsBare state state
  at_rest state rests = record {
    me = refl;
    waiting = refl;
    entries = refl;
    rows = refl;
    variables = refl;
    frames = refl;
    halts = refl;
    rests = rests;
  }

  pub take_restarts : (from to : HostId) (place : ℕ) → (step : IsTakeStep split.code world from to place after) →
      GivesBack step.flight.message token → top_token step.state.entries ≡ Some token → Restarts split c after
  take_restarts from to place step gives top =
      let is =
      taking_pops split.code step.state from step.flight.message token step.outcome step.takes gives top in
      let left = without_flight world from to place in
      let label = Some step.flight.label in
      pops to step.state step.state step.obeys (at_rest step.state step.rests) step.outcome left.flying
      (λ new new_is.
      let silent = moved_silent left to step.outcome new label after new_is step.leaves in
      record { hosts = silent.hosts; flying = silent.flying })
      (all_without (λ one other m. MessageIsOpen (threat_in split) m) world from to place flying_open)
      (silent_sent left to step.outcome _ label after is step.leaves) top is

  pub act_restarts : (from to : HostId) (made : BadMessage) → (step : IsActStep split.code world from to made after) →
      GivesBack step.message token → top_token step.state.entries ≡ Some token → Restarts split c after
  act_restarts from to made step gives top =
      let is = taking_pops split.code step.state from step.message token step.outcome step.takes gives top in
      let none_told = ap (λ (o : Outcome). o.sent) (sym is) in
      let quiet : after.sent ≡ world.sent =
      ap (λ (w : WorldShape). w.sent) (sym step.leaves)
      ∙ ap (λ s. (after_telling (with_state world to step.outcome.state) to s).sent) none_told in
      pops to step.state step.state step.obeys (at_rest step.state step.rests) step.outcome world.flying
      (λ new new_is.
      subst (λ (state : HostState). Moved world to state world.flying after)
      (ap (λ (o : Outcome). o.state) (sym new_is)) (moved_acted world to step.outcome after step.leaves)) flying_open
      quiet top is
