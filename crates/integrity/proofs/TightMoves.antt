-- A chain that stands and its holder, after an event of the holder's.
use Rattle.std.proofs.Common.{◌≡◌, ◌≢◌, ◌∙◌, ◌⊎◌, inl, inr, suc, List, [], ◌∷◌, Option, Some, None}
use Rattle.std.proofs.Common.{refl, sym, ap, subst, get_or}
use Rattle.std.specs.Prelude.{slice_set, All, IfSome}
use Rattle.std.specs.List.{AllByRecursion}
use Rattle.js_base.specs.declared.ids.HostId.{HostId}
use Rattle.ics_stack.specs.declared.stack.StackEntry.{StackEntry}
use Rattle.host_code.specs.Thread.{ThreadShape, WaitingShape}
use Rattle.host_core.specs.Fits.{StackEntryFits}
use Rattle.host_core.specs.Host.{HostState}
use Rattle.net_world.specs.Fits.{ShapeFits}
use Rattle.net_world.specs.World.{WorldShape, state_at}
use Rattle.net_world.proofs.Moved.{either}
use Rattle.token_laws.specs.Holders.{IsTokenSent, IsTokenHeld, kept_on}
use Rattle.token_laws.proofs.EachFlight.{StatesHave, of_state}
use Rattle.token_laws.proofs.HeldLaws.{own_before}
use Rattle.token_laws.proofs.WorldTokens.{Accounts}
use Rattle.integrity.specs.Holding.{IsAmong, Holder, runs, lost, IsThere, HasTop, OwnsRunning, OwnsWaiting, OwnsMessage}
use Rattle.integrity.specs.Holding.{StateIsOutside, IsOutsideBut, AreLinked, IsStanding, IsTight}
use Rattle.integrity.specs.Outside.{Threat, ThreadIsOpen, EntryIsOpen, MessageIsOpen}
use Rattle.integrity.proofs.Among.{each_among, all_among, one_of_some}
use Rattle.integrity.proofs.FliesOn.{FlyAs}
use Rattle.integrity.proofs.HeldTokens.{StandsThere, top_kept, held_or_lost, later_held, still_unsent}
use Rattle.integrity.proofs.OpenWorlds.{state_fits}
use Rattle.integrity.proofs.OutsideEvents.{other_of}
use Rattle.integrity.proofs.TightKept.{IsLawful, tokens_known}

-- ---- the states of hosts

-- the host that changed has it, and others have it where they had another thing
pub states_change : (P Q : HostState → Type 0) (world after : WorldShape) (me : HostId) (old new : HostState) →
    state_at world me ≡ Some old → after.hosts ≡ slice_set world.hosts me.0 (Some new) → StatesHave P world → Q new →
    ((host : HostId) (state : HostState) → host ≢ me → state_at world host ≡ Some state → P state → Q state) →
    (host : HostId) (o : Option HostState) → state_at after host ≡ o → IfSome o Q
states_change P Q world after me old new obeys puts has own other host None is = tt
states_change P Q world after me old new obeys puts has own other host (Some there) is =
    elim (either world after me old new after.flying obeys (record { hosts = puts; flying = refl }) host there is) [
      | inl mover ↦ subst Q (sym mover.is) own
      | inr one ↦
          other host there (λ same. one.apart (ap (λ (h : HostId). h.0) same)) one.obeys
          (of_state P world host there has one.obeys)
    ]

-- ---- a chain and its holder

-- What an event of the holder's changes, and the chain and the holder after it.
pub record Moves (threat : Threat) (chain now : List StackEntry) (holder next : Holder) (world after : WorldShape) :
    Type 0 where
  pub me : HostId
  pub old : HostState
  pub new : HostState
  pub obeys : state_at world me ≡ Some old
  pub puts : after.hosts ≡ slice_set world.hosts me.0 (Some new)
  pub linked : AreLinked now
  pub stands : (e : StackEntry) → IsAmong now e → StandsThere after e
  pub known : (e : StackEntry) → IsAmong now e → IsStanding world e ⊎ (¬ IsTokenSent after e.token)
  pub there : IsThere after next
  pub has_top : HasTop after now next
  pub held : next ≡ lost → (e : StackEntry) → IsAmong now e → ¬ IsTokenSent after e.token
  pub state : StateIsOutside threat now next new
  pub runs_as : (host : HostId) → host ≢ me → OwnsRunning holder host → OwnsRunning next host
  pub waits_as : (host : HostId) (one : WaitingShape) → host ≢ me → OwnsWaiting holder host one →
      OwnsWaiting next host one
  pub keeps_as : (e : StackEntry) → e.token.host ≢ me → IsAmong chain e → IsAmong now e
  pub flying : FlyAs (λ from to m. OwnsMessage next from to m ⊎ MessageIsOpen threat m) after.flying

pub as_other : {A B C : Type 0} → (A → B) → A ⊎ C → B ⊎ C
as_other change (inl a) = inl (change a)
as_other change (inr c) = inr c

pub all_as : {X : Type 0} (P Q : X → Type 0) (xs : List X) → ((x : X) → P x → Q x) → All P xs → All Q xs
all_as P Q xs each all k d lt = each (get_or xs k d) (all k d lt)

-- ... each entry of a stack has a token of its host
entries_as : (threat : Threat) (state : HostState) (P Q : StackEntry → Type 0) →
    All (StackEntryFits threat.code state.me) state.entries →
    ((e : StackEntry) → e.token.host ≡ state.me → P e → Q e) → All P state.entries → All Q state.entries
entries_as threat state P Q fits each all k d lt = each (get_or state.entries k d) (fits k d lt).token (all k d lt)

-- where a host stays as it is, what is outside there stays so
pub outside_as : (threat : Threat) (chain now : List StackEntry) (holder next : Holder) (state : HostState) →
    All (StackEntryFits threat.code state.me) state.entries →
    (OwnsRunning holder state.me → OwnsRunning next state.me) →
    ((one : WaitingShape) → OwnsWaiting holder state.me one → OwnsWaiting next state.me one) →
    ((e : StackEntry) → e.token.host ≡ state.me → IsAmong chain e → IsAmong now e) →
    StateIsOutside threat chain holder state → StateIsOutside threat now next state
outside_as threat chain now holder next state fits runs_as waits_as keeps_as was = record {
  running = as_other runs_as was.running;
  waiting = all_as (λ w. OwnsWaiting holder state.me w ⊎ ThreadIsOpen threat state.me w.thread)
      (λ w. OwnsWaiting next state.me w ⊎ ThreadIsOpen threat state.me w.thread) state.waiting
      (λ w. as_other (waits_as w)) was.waiting;
  entries = entries_as threat state (λ e. IsAmong chain e ⊎ EntryIsOpen threat e.entry)
      (λ e. IsAmong now e ⊎ EntryIsOpen threat e.entry) fits (λ e own. as_other (keeps_as e own)) was.entries;
}

-- all that waits where the holder's thread runs is open
pub waits_apart : (threat : Threat) (chain : List StackEntry) (host : HostId) (thread : ThreadShape)
    (state : HostState) → state.me ≡ host → StateIsOutside threat chain (runs host thread) state →
    All (λ w. ThreadIsOpen threat host w.thread) state.waiting
waits_apart threat chain host thread state me was =
    all_as (λ w. OwnsWaiting (runs host thread) state.me w ⊎ ThreadIsOpen threat state.me w.thread)
    (λ w. ThreadIsOpen threat host w.thread) state.waiting
    (λ w either. subst (λ h. ThreadIsOpen threat h w.thread) me (other_of either (λ never. never))) was.waiting

module _ (threat : Threat) (chain now : List StackEntry) (holder next : Holder) (world after : WorldShape)
    (is : IsLawful threat world) (fits : ShapeFits threat.code after) (step : Accounts world after)
    (outside : IsOutsideBut threat chain holder world) (move : Moves threat chain now holder next world after) where
  others : (host : HostId) (state : HostState) → host ≢ move.me → state_at world host ≡ Some state →
      StateIsOutside threat chain holder state → StateIsOutside threat now next state
  others host state apart obeys was =
      let state_is = state_fits threat world host state is.fits obeys in
      let far : state.me ≢ move.me = λ same. apart (sym state_is.me ∙ same) in
      outside_as threat chain now holder next state state_is.fits.entries (move.runs_as state.me far)
      (λ one. move.waits_as state.me one far) (λ e own. move.keeps_as e (λ same. far (sym own ∙ same))) was

  unsent_if : (e : StackEntry) → IsStanding world e ⊎ (¬ IsTokenSent after e.token) → IsTokenHeld after e.token →
      ¬ IsTokenSent after e.token
  unsent_if e (inl standing) held =
      let at = one_of_some (state_at world e.token.host) (λ state. IsAmong state.entries e) standing.there in
      still_unsent threat.code world after e.token at.one (tokens_known threat world is) fits step
      (own_before threat.code world e.token.host at.one at.has.0 e is.fits at.is at.has.1) at.is standing.unsent held
  unsent_if e (inr unsent) held = unsent

  unsent_top : (top : StackEntry) (below : List StackEntry) → HasTop after (top ∷ below) next →
      IsStanding world top ⊎ (¬ IsTokenSent after top.token) →
      (next ≡ lost → (e : StackEntry) → IsAmong (top ∷ below) e → ¬ IsTokenSent after e.token) →
      ¬ IsTokenSent after top.token
  unsent_top top below has known gone =
      elim (held_or_lost after next top.token (top_kept after next top below move.there has)) [
        | inl held ↦ unsent_if top known held
        | inr is_lost ↦ gone is_lost top (0, refl)
      ]

  stand_now : (list : List StackEntry) → AreLinked list → AllByRecursion (StandsThere after) list →
      HasTop after list next → ((e : StackEntry) → IsAmong list e → IsStanding world e
      ⊎ (¬ IsTokenSent after e.token)) →
      (next ≡ lost → (e : StackEntry) → IsAmong list e → ¬ IsTokenSent after e.token) →
      AllByRecursion (IsStanding after) list
  stand_now [] linked stands has known gone = tt
  stand_now (top ∷ below) linked stands has known gone = (
    record { there = stands.0; unsent = unsent_top top below has (known top (0, refl)) gone },
    all_among (IsStanding after) below (λ e among. record {
      there = each_among (StandsThere after) below e stands.1 among;
      unsent =
          let held = later_held after top below among.0 e linked stands among.1 in
          unsent_if e (known e (suc among.0, among.1)) (kept_on held.0 held.1, held.2);
    }),
  )

  pub tight_from : IsTight threat now next after
  tight_from = record {
    linked = move.linked;
    standing = stand_now now move.linked (all_among (StandsThere after) now move.stands) move.has_top move.known
        move.held;
    there = move.there;
    has_top = move.has_top;
    outside = record {
      states = λ host.
          states_change (StateIsOutside threat chain holder) (StateIsOutside threat now next) world after move.me
          move.old move.new move.obeys move.puts outside.states move.state others host (state_at after host) refl;
      flying = move.flying;
    };
  }

pub tight_moved : (threat : Threat) (chain now : List StackEntry) (holder next : Holder) (world after : WorldShape) →
    IsLawful threat world → ShapeFits threat.code after → Accounts world after → IsTight threat chain holder world →
    Moves threat chain now holder next world after → IsTight threat now next after
tight_moved threat chain now holder next world after is fits step tight move =
    tight_from threat chain now holder next world after is fits step tight.outside move
