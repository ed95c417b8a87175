-- The host of the first entry of a chain takes that off its stack, for whoever gives its token back, or the token is
-- lost.
use Rattle.std.proofs.Common.{◌≡◌, ◌≢◌, ◌∙◌, ◌⊎◌, inl, inr, ℕ, suc, ◌<◌, true, List, [], ◌∷◌, length, Some, None, refl}
use Rattle.std.proofs.Common.{sym, ap, subst, arith, get_or}
use Rattle.std.specs.Prelude.{Contains, slice_get, slice_set, All, IfSome, IsSome, IsSomeAnd}
use Rattle.std.specs.List.{AllByRecursion}
use Rattle.std.proofs.lemmas.Option.{slice_get-get_or}
use Rattle.js_base.specs.declared.ids.HostId.{HostId}
use Rattle.jif_tree.specs.SourceRun.{Configuration}
use Rattle.capability.specs.declared.token.Token.{Token}
use Rattle.ics_stack.specs.declared.stack.StackEntry.{StackEntry}
use Rattle.ics_stack.specs.Stack.{top_token}
use Rattle.host_code.specs.Thread.{WaitingShape}
use Rattle.host_core.specs.Host.{HostState, Outcome, without_message, with_running, with_one_ignored, after_pop}
use Rattle.net_world.specs.Fits.{ShapeFits}
use Rattle.net_world.specs.Flying.{Flying}
use Rattle.net_world.specs.Told.{tokens_in}
use Rattle.net_world.specs.World.{WorldShape, state_at, has_halted}
use Rattle.net_world.proofs.Moved.{Moved, either, mover_state}
use Rattle.token_laws.specs.Holders.{TokenPlace, kept_on, HoldsAt, IsTokenSent}
use Rattle.token_laws.proofs.EachFlight.{of_state}
use Rattle.token_laws.proofs.HeldLaws.{same_place, held_once}
use Rattle.token_laws.proofs.WorldTokens.{Accounts}
use Rattle.typed_steps.specs.Chains.{IsChain, chain_due}
use Rattle.typed_steps.specs.Requests.{GivesUp, starting}
use Rattle.typed_steps.specs.Threads.{IsLeft}
use Rattle.typed_steps.specs.Variables.{HasWhatIsOwed, HostsHold}
use Rattle.typed_steps.specs.Views.{Split, View, Link, entries_of}
use Rattle.typed_steps.proofs.HeldSteps.{holds_same, holds_calm}
use Rattle.typed_steps.proofs.Pops.{Ended, Continued, popped}
use Rattle.integrity.specs.Holding.{IsAmong, Holder, runs, lost, halted, IsThere, HasTop, OwnsRunning, OwnsWaiting}
use Rattle.integrity.specs.Holding.{OwnsMessage, StateIsOutside, IsOutsideBut, AreLinked, IsStanding, IsTight}
use Rattle.integrity.specs.Loose.{AreUnsentBelow}
use Rattle.integrity.specs.Outside.{ThreadIsOpen, EntryIsOpen, MessageIsOpen}
use Rattle.integrity.specs.Standing as standing
use Rattle.integrity.specs.Standing.{threat_in, IsFree, StandsBy, Goes}
use Rattle.integrity.proofs.Among.{each_among, one_of_some, some_of, same_item}
use Rattle.integrity.proofs.ChainMoves.{linked_below}
use Rattle.integrity.proofs.FliesOn.{FlyAs}
use Rattle.integrity.proofs.HeldTokens.{StandsThere}
use Rattle.integrity.proofs.HolderStays.{on_some, below_top}
use Rattle.integrity.proofs.LooseChains.{below_first, unsent_each, none_below}
use Rattle.integrity.proofs.OpenWorlds.{state_fits}
use Rattle.integrity.proofs.OutsideEvents.{IsNone}
use Rattle.integrity.proofs.StandsOn.{halted_before}
use Rattle.integrity.proofs.TightKept.{IsLawful, tokens_known}
use Rattle.integrity.proofs.TightMoves.{tight_from, all_as, as_other}

-- what a host has now it had before, where the one that changed had it
pub was_at : (world after : WorldShape) (me other : HostId) (old new : HostState) → state_at world me ≡ Some old →
    after.hosts ≡ slice_set world.hosts me.0 (Some new) → (P : HostState → Type 0) →
    IsSomeAnd (state_at after other) P → (P new → P old) → IsSomeAnd (state_at world other) P
was_at world after me other old new obeys puts P has keeps =
    let at = one_of_some (state_at after other) P has in
    elim (either world after me old new after.flying obeys (record {
      hosts = puts;
      flying =
          refl;
    }) other at.one at.is) [
      | inl mover ↦
          some_of (state_at world other) P old (ap (state_at world) mover.same ∙ obeys) (keeps
          (subst P mover.is at.has))
      | inr one ↦ some_of (state_at world other) P at.one one.obeys at.has
    ]

-- an item at the place of the first one is that
first_same : (entries : List StackEntry) (place : ℕ) (upper first : StackEntry) →
    slice_get entries 0 ≡ Some upper → slice_get entries place ≡ Some first → 0 ≡ place → upper ≡ first
first_same entries place upper first above at same =
    same_item entries place upper first (subst (λ n. slice_get entries n ≡ Some upper) same above) at

-- the same host, where nothing runs
pub record IsBare (old bare : HostState) : Type 0 where
  pub me : bare.me ≡ old.me
  pub waiting : bare.waiting ≡ old.waiting
  pub entries : bare.entries ≡ old.entries
  pub rows : bare.rows ≡ old.rows
  pub variables : bare.variables ≡ old.variables
  pub frames : bare.frames ≡ old.frames
  pub halts : bare.halted ≡ old.halted
  pub rests : bare.running ≡ None

-- A host is given back a token, by its own thread or in a message, and sends nothing. The chain is tight, or loose, and
-- all else is outside.
pub record Popping (split : Split) (c : Configuration) (view : View) (holder : Holder) (world after : WorldShape)
    (host : HostId) : Type 0 where
  pub outside : IsOutsideBut (threat_in split) (entries_of view.chain) holder world
  pub linked : AreLinked (entries_of view.chain)
  pub there : (e : StackEntry) → IsAmong (entries_of view.chain) e → StandsThere world e
  pub unsent : AreUnsentBelow world (entries_of view.chain)
  pub holds : HostsHold split c view world
  pub runs_on : ¬ has_halted split.code.root world
  pub is_chain : IsChain split view.naming view.chain
  pub lawful : IsLawful (threat_in split) world
  pub fits : ShapeFits split.code after
  pub account : Accounts world after
  pub quiet : after.sent ≡ world.sent
  pub old : HostState
  pub obeys : state_at world host ≡ Some old
  pub bare : HostState
  pub is_bare : IsBare old bare
  pub outcome : Outcome
  pub flying : Flying
  pub moved : (new : HostState) → without_message new ≡ outcome → Moved world host new flying after
  pub others_open : FlyAs (λ from to m. MessageIsOpen (threat_in split) m) flying
  pub waits : All (λ w. ThreadIsOpen (threat_in split) host w.thread) old.waiting
  pub own_runs : (other : HostId) → other ≢ host → OwnsRunning holder other → ⊥
  pub own_waits : (other : HostId) (one : WaitingShape) → OwnsWaiting holder other one → ⊥

-- The world stands for the same configuration, by the thread of the first entry or by none.
pub record Restarts (split : Split) (c : Configuration) (after : WorldShape) : Type 0 where
  pub view : View
  pub holder : Holder
  pub free : IsFree holder
  pub stands : StandsBy split c view holder after

pub restarted : (split : Split) (c : Configuration) (after : WorldShape) → Restarts split c after → Goes split c after
restarted split c after it = standing.stays it.view it.holder it.free it.stands

module _ (split : Split) (c : Configuration) (view : View) (holder : Holder) (world after : WorldShape) (host : HostId)
    (t : Popping split c view holder world after host) where
  was : StateIsOutside (threat_in split) (entries_of view.chain) holder t.old
  was = of_state (StateIsOutside (threat_in split) (entries_of view.chain) holder) world host t.old
      t.outside.states t.obeys

  me_is : t.old.me ≡ host
  me_is = (state_fits (threat_in split) world host t.old t.lawful.fits t.obeys).me

  waits_for : (next : Holder) (me : HostId) (waiting : List WaitingShape) → me ≡ host → waiting ≡ t.old.waiting →
      All (λ w. OwnsWaiting next me w ⊎ ThreadIsOpen (threat_in split) me w.thread) waiting
  waits_for next me waiting same is =
      subst (All (λ w. OwnsWaiting next me w ⊎ ThreadIsOpen (threat_in split) me w.thread)) (sym is)
      (all_as (λ w. ThreadIsOpen (threat_in split) host w.thread)
      (λ w. OwnsWaiting next me w ⊎ ThreadIsOpen (threat_in split) me w.thread) t.old.waiting
      (λ w may. inr (subst (λ h. ThreadIsOpen (threat_in split) h w.thread) (sym same) may)) t.waits)

  none_halted : (next : Holder) (new : HostState) → (is : without_message new ≡ t.outcome) →
      new.halted ≡ t.old.halted → has_halted split.code.root after → next ≡ halted
  none_halted next new is same has =
      absurd (t.runs_on (halted_before world after split.code.root host t.old new t.obeys (t.moved new is).hosts same
      has))

  all_flying : (next : Holder) → FlyAs (λ from to m. OwnsMessage next from to m ⊎ MessageIsOpen (threat_in split) m)
      t.flying
  all_flying next from to =
      all_as (λ flight. MessageIsOpen (threat_in split) flight.message)
      (λ flight. OwnsMessage next from to flight.message ⊎ MessageIsOpen (threat_in split) flight.message)
      (t.flying from to) (λ flight may. inr may) (t.others_open from to)

  -- the first entry of the chain, and what is below it on the stack of the host
  pub record Tops : Type 0 where
    pub first : Link
    pub rest : List Link
    pub chain_is : view.chain ≡ first ∷ rest
    pub below : List StackEntry
    pub entries_are : t.old.entries ≡ first.entry ∷ below
    pub own : first.entry.token.host ≡ host
    pub none : IsNone (entries_of rest) first.entry.token
    pub standing : (e : StackEntry) → IsAmong (entries_of rest) e → IsStanding world e
    pub linked : AreLinked (first.entry ∷ entries_of rest)
    pub was : All (λ e. IsAmong (first.entry ∷ entries_of rest) e ⊎ EntryIsOpen (threat_in split) e.entry)
        t.old.entries

  -- no other entry has its token
  one_place : (top : Tops) (place : ℕ) (e : StackEntry) → slice_get t.old.entries place ≡ Some e →
      e.token ≡ top.first.entry.token → place ≡ 0
  one_place top place e there same =
      same_place split.code world host t.old place 0 e top.first.entry t.lawful.fits t.obeys there
      (ap (λ list. slice_get list 0) top.entries_are) same

  pops : (top : Tops) (new : HostState) (next : Holder) → without_message new ≡ t.outcome → new.me ≡ host →
      new.entries ≡ top.below → new.waiting ≡ t.old.waiting →
      OwnsRunning next host ⊎ IfSome new.running (ThreadIsOpen (threat_in split) host) →
      (state_at after host ≡ Some new → IsThere after next) → HasTop after (entries_of top.rest) next →
      (next ≡ lost → ⊥) → IsTight (threat_in split) (entries_of top.rest) next after
  pops top new next is me entries waiting running there has held =
      let old = t.old in
      let moved =
      t.moved new is in
      tight_from (threat_in split) (top.first.entry ∷ entries_of top.rest) (entries_of top.rest) holder
      next world after t.lawful t.fits t.account
      (subst (λ list. IsOutsideBut (threat_in split) (entries_of list) holder world) top.chain_is t.outside)
      (record {
        me = host;
        old = old;
        new = new;
        obeys = t.obeys;
        puts = moved.hosts;
        linked = linked_below top.first.entry (entries_of top.rest) top.linked;
        stands = λ e among.
            on_some world after host e.token.host old new t.obeys moved.hosts (λ state. IsAmong state.entries e)
            (top.standing e among).there
            (λ here has. subst (λ list. IsAmong list e) (sym entries)
            (below_top top.first.entry e top.below (subst (λ list. IsAmong list e) top.entries_are has)
            (top.none e among)));
        known = λ e among. inl (top.standing e among);
        there = there (mover_state world after host old new t.flying t.obeys moved);
        has_top = has;
        held = λ is_lost. absurd (held is_lost);
        state = record {
          running = subst (λ h. OwnsRunning next h ⊎ IfSome new.running (ThreadIsOpen (threat_in split) h)) (sym me)
              running;
          waiting = waits_for next new.me new.waiting me waiting;
          entries = subst (All (λ e. IsAmong (entries_of top.rest) e ⊎ EntryIsOpen (threat_in split) e.entry))
              (sym entries) (λ k d lt. rest_or_open top k d lt);
        };
        runs_as = λ other apart its. absurd (t.own_runs other apart its);
        waits_as = λ other one apart its. absurd (t.own_waits other one its);
        keeps_as = λ e apart among.
            below_top top.first.entry e (entries_of top.rest) among
            (λ same. apart (ap (λ (k : Token). k.host) same ∙ top.own));
        flying = subst (FlyAs (λ from target said. OwnsMessage next from target said
            ⊎ MessageIsOpen (threat_in split) said)) (sym moved.flying) (all_flying next);
      })
    where
      rest_or_open : (top : Tops) (k : ℕ) (d : StackEntry) → k < length top.below →
          IsAmong (entries_of top.rest) (get_or top.below k d) ⊎ EntryIsOpen (threat_in split)
          (get_or top.below k d).entry
      rest_or_open top k d lt =
          let e = get_or top.below k d in
          let was : IsAmong (top.first.entry ∷ entries_of top.rest) e ⊎ EntryIsOpen (threat_in split) e.entry =
          subst (All (λ x. IsAmong (top.first.entry ∷ entries_of top.rest) x ⊎ EntryIsOpen (threat_in split) x.entry))
          top.entries_are top.was (suc k) d (omega arith) in
          let there : slice_get t.old.entries (suc k) ≡ Some e =
          ap (λ list. slice_get list (suc k)) top.entries_are ∙ slice_get-get_or top.below k d lt in
          as_other (λ among. below_top top.first.entry e (entries_of top.rest) among (λ same.
          let zero_is = one_place top (suc k) e there same in
          omega arith)) was

  make_tops : (token : Token) → token.host ≡ host → top_token (entries_of view.chain) ≡ Some token →
      top_token t.old.entries ≡ Some token → IsNone (below_first (entries_of view.chain)) token →
      (chain : List Link) → view.chain ≡ chain → (entries : List StackEntry) → t.old.entries ≡ entries → Tops
  make_tops token own top also none [] chain_is entries entries_is =
      let never : top_token (entries_of []) ≡ Some token =
      sym (ap (λ list. top_token (entries_of list)) chain_is) ∙ top in
      absurd (cc)
  make_tops token own top also none (first ∷ rest) chain_is [] entries_is =
      let never : top_token [] ≡ Some token = sym (ap top_token entries_is) ∙ also in
      absurd (cc)
  make_tops token own top also none (first ∷ rest) chain_is (upper ∷ below) entries_is =
      let old = t.old in
      let one : Some first.entry.token ≡ Some token =
      sym (ap (λ list. top_token (entries_of list)) chain_is) ∙ top in
      let first_is : first.entry.token ≡ token = cc in
      let two : Some upper.token ≡ Some token = sym (ap top_token entries_is) ∙ also in
      let upper_is : upper.token ≡ token = cc in
      let here : first.entry.token.host ≡ host = ap (λ (k : Token). k.host) first_is ∙ own in
      let among_is : entries_of view.chain ≡ first.entry ∷ entries_of rest = ap entries_of chain_is in
      let there : (e : StackEntry) → IsAmong (first.entry ∷ entries_of rest) e → StandsThere world e =
      λ e among. t.there e (subst (λ list. IsAmong list e) (sym among_is) among) in
      let at =
      one_of_some (state_at world first.entry.token.host) (λ state. IsAmong state.entries first.entry)
      (there first.entry (0, refl)) in
      let both : Some at.one ≡ Some old = sym at.is ∙ ap (state_at world) here ∙ t.obeys in
      let same_state : at.one ≡ old = cc in
      let among : IsAmong old.entries first.entry = subst (λ s. IsAmong s.entries first.entry) same_state at.has in
      let upper_at : slice_get old.entries 0 ≡ Some upper = ap (λ list. slice_get list 0) entries_is in
      let place =
      same_place split.code world host old 0 among.0 upper first.entry t.lawful.fits t.obeys upper_at among.1
      (upper_is ∙ sym first_is) in
      let same : upper ≡ first.entry =
      first_same old.entries among.0 upper first.entry upper_at among.1 place in
      record {
        first = first;
        rest = rest;
        chain_is = chain_is;
        below = below;
        entries_are = entries_is ∙ ap (λ x. x ∷ below) same;
        own = here;
        none = subst (IsNone (entries_of rest)) (sym first_is)
            (subst (λ list. IsNone (below_first list) token) among_is none);
        standing = λ e among. record {
          there = there e (suc among.0, among.1);
          unsent = unsent_each world (first.entry ∷ entries_of rest)
              (subst (AreUnsentBelow world) among_is t.unsent) e among;
        };
        linked = subst AreLinked among_is t.linked;
        was = subst (λ list. All (λ e. IsAmong list e ⊎ EntryIsOpen (threat_in split) e.entry) old.entries) among_is
            was.entries;
      }

  -- the first entry was taken off, and the program ends or a thread goes on behind the entry
  after_top : (top : Tops) → GivesUp split c view →
      without_message (after_pop split.code t.bare t.old.entries) ≡ t.outcome →
      Ended split c top.first top.rest host t.bare top.below
      ⊎ Continued split c view top.first top.rest host t.bare top.below → Restarts split c after
  after_top top gives_up is (inl ended) =
      let old = t.old in
      let bare : HostState = t.bare in
      let new : HostState = record bare { entries = top.below; running = None; halted = true } in
      let new_is : without_message new ≡ t.outcome =
      ap without_message (sym ended.is)
      ∙ ap (λ list. without_message (after_pop split.code bare list)) (sym top.entries_are) ∙ is in
      let moved =
      t.moved new new_is in
      record {
        view = starting view [] view.sender;
        holder = halted;
        free = tt;
        stands = record {
          tight = subst (λ list. IsTight (threat_in split) (entries_of list) halted after) ended.last
              (pops top new halted new_is (t.is_bare.me ∙ me_is) refl t.is_bare.waiting (inr tt) (λ there. tt)
              (sym (ap (λ list. top_token (entries_of list)) ended.last)) (λ same. absurd (cc)));
          holds = holds_calm split c view after [] view.sender
              (holds_same split c view world after host old new t.flying t.holds t.obeys moved
              t.is_bare.rows t.is_bare.variables t.is_bare.frames) gives_up.none_out;
          sends = tt;
          does = (refl, refl, ended.ends);
          halts = λ has. refl;
        };
      }
  after_top top gives_up is (inr more) =
      let old = t.old in
      let bare : HostState = t.bare in
      let new : HostState = with_running (record bare { entries = top.below }) (Some more.thread) in
      let next = runs host more.thread in
      let new_is : without_message new ≡ t.outcome =
      ap without_message (sym more.is)
      ∙ ap (λ list. without_message (after_pop split.code bare list)) (sym top.entries_are) ∙ is in
      let moved =
      t.moved new new_is in
      record {
        view = starting view top.rest top.first.call;
        holder = next;
        free = tt;
        stands = record {
          tight = pops top new next new_is (t.is_bare.me ∙ me_is) refl t.is_bare.waiting (inl refl)
              (λ there. some_of (state_at after host) (λ s. s.running ≡ Some more.thread) new there refl) more.at.held
              (λ same. absurd (cc));
          holds = holds_calm split c view after top.rest top.first.call
              (holds_same split c view world after host old new t.flying t.holds t.obeys moved
              t.is_bare.rows t.is_bare.variables t.is_bare.frames) gives_up.none_out;
          sends = some_of (state_at after host)
              (λ s. HasWhatIsOwed split (starting view top.rest top.first.call) s host)
              new (mover_state world after host old new t.flying t.obeys moved) tt;
          does = (more.is_chain, more.at);
          halts = none_halted next new new_is t.is_bare.halts;
        };
      }

  -- no other entry of the chain has the token
  pub pops_own : (token : Token) → token.host ≡ host → top_token (entries_of view.chain) ≡ Some token →
      top_token t.old.entries ≡ Some token → IsNone (below_first (entries_of view.chain)) token →
      GivesUp split c view → without_message (after_pop split.code t.bare t.old.entries) ≡ t.outcome →
      Restarts split c after
  pops_own token own top also none gives_up is =
      let tops = make_tops token own top also none view.chain refl t.old.entries refl in
      after_top tops gives_up is
      (popped split c view tops.first tops.rest host t.bare tops.below
      (subst (IsChain split view.naming) tops.chain_is t.is_chain) gives_up.count
      (subst (λ list. IsLeft split c view.keeper (chain_due split list)) tops.chain_is gives_up.left) tops.own)

  -- so it is where the token is held here, and kept with no entry
  pub pops_held : (here : TokenPlace) → ((other : HostId) (at : ℕ) → here ≡ kept_on other at → ⊥) → (token : Token) →
      HoldsAt world token here → token.host ≡ host → top_token (entries_of view.chain) ≡ Some token →
      top_token t.old.entries ≡ Some token → GivesUp split c view →
      without_message (after_pop split.code t.bare t.old.entries) ≡ t.outcome → Goes split c after
  pops_held here apart token held own top also gives_up is =
      restarted split c after
      (pops_own token own top also
      (none_below (threat_in split) world t.lawful (entries_of view.chain) t.linked t.there t.unsent token here apart
      held) gives_up is)

  -- ---- the token is lost

  -- who gives it back alone has it
  only_here : (list : List StackEntry) (token : Token) (here : TokenPlace) →
      ((e : StackEntry) → IsAmong list e → IsStanding world e) → top_token list ≡ Some token →
      HoldsAt world token here → (place : TokenPlace) → HoldsAt world token place → place ≡ here
  only_here [] token here standing top held place also = absurd (cc)
  only_here (e ∷ list) token here standing top held place also =
      let same : e.token ≡ token = cc in
      let it = standing e (0, refl) in
      let at = one_of_some (state_at world e.token.host) (λ state. IsAmong state.entries e) it.there in
      let obeys : IsSome (state_at world token.host) =
      subst (λ (k : Token). IsSome (state_at world k.host)) same (subst (λ o. IsSome o) (sym at.is) refl) in
      held_once split.code world token place here (tokens_known (threat_in split) world t.lawful) obeys
      (subst (λ (k : Token). ¬ IsTokenSent world k) same it.unsent) also held

  -- another entry is on top, so the token is gone where it was nowhere else
  pub loses : (here : TokenPlace) →
      ((token : Token) → top_token (entries_of view.chain) ≡ Some token → HoldsAt world token here) →
      AllByRecursion (IsStanding world) (entries_of view.chain) → GivesUp split c view →
      without_message (with_one_ignored t.bare) ≡ t.outcome →
      ((token : Token) → ((place : TokenPlace) → HoldsAt world token place → place ≡ here) → (place : TokenPlace) →
      HoldsAt after token place → ⊥) → Goes split c after
  loses here held chain_stands gives_up is nobody =
      let standing_each : (e : StackEntry) → IsAmong (entries_of view.chain) e → IsStanding world e =
      λ e. each_among (IsStanding world) (entries_of view.chain) e chain_stands in
      let old = t.old in
      let new : HostState = with_one_ignored t.bare in
      let moved = t.moved new is in
      let me : new.me ≡ host = t.is_bare.me ∙ me_is in
      standing.stays view lost tt (record {
        tight = tight_from (threat_in split) (entries_of view.chain) (entries_of view.chain) holder lost world after
            t.lawful t.fits t.account t.outside (record {
              me = host;
              old = old;
              new = new;
              obeys = t.obeys;
              puts = moved.hosts;
              linked = t.linked;
              stands = λ e among.
                  on_some world after host e.token.host old new t.obeys moved.hosts (λ state. IsAmong state.entries e)
                  (t.there e among)
                  (λ same has. subst (λ list. IsAmong list e) (sym t.is_bare.entries) has);
              known = λ e among. inl (standing_each e among);
              there = tt;
              has_top = λ token top has.
                  nobody token (only_here (entries_of view.chain) token here standing_each top (held token top)) has.0
                  has.1;
              held = λ is_lost e among sent.
                  (standing_each e among).unsent (subst (λ list. Contains (tokens_in list) e.token) t.quiet sent);
              state = record {
                running = inr (subst (λ o. IfSome o (ThreadIsOpen (threat_in split) new.me)) (sym t.is_bare.rests) tt);
                waiting = waits_for lost new.me new.waiting me t.is_bare.waiting;
                entries = subst (All (λ e. IsAmong (entries_of view.chain) e ⊎ EntryIsOpen (threat_in split) e.entry))
                    (sym t.is_bare.entries) was.entries;
              };
              runs_as = λ other apart its. absurd (t.own_runs other apart its);
              waits_as = λ other one apart its. absurd (t.own_waits other one its);
              keeps_as = λ e apart among. among;
              flying = subst (FlyAs (λ from target said. OwnsMessage lost from target said
                  ⊎ MessageIsOpen (threat_in split) said)) (sym moved.flying) (all_flying lost);
            });
        holds = holds_same split c view world after host old new t.flying t.holds t.obeys moved t.is_bare.rows
            t.is_bare.variables t.is_bare.frames;
        sends = tt;
        does = (t.is_chain, gives_up);
        halts = none_halted lost new is t.is_bare.halts;
      })
