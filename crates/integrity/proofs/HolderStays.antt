-- A chain that stands and its holder, after an event that is none of the holder's.
use Rattle.std.proofs.Common.{◌≡◌, ◌≢◌, ◌∙◌, inl, inr, zero, suc, List, [], ◌∷◌, Some}
use Rattle.std.proofs.Common.{refl, sym, ap, subst}
use Rattle.std.specs.Prelude.{slice_set, IsSomeAnd}
use Rattle.std.specs.List.{AllByRecursion}
use Rattle.std.proofs.lemmas.Bool.Decides.{eqb_tells}
use Rattle.js_base.specs.declared.ids.HostId.{HostId}
use Rattle.capability.specs.declared.token.Token.{Token}
use Rattle.ics_stack.specs.declared.stack.StackEntry.{StackEntry}
use Rattle.host_code.specs.declared.message.Message.{Message}
use Rattle.host_code.specs.Code.{CodeShape}
use Rattle.host_code.specs.Thread.{WaitingShape}
use Rattle.host_core.specs.Host.{HostState}
use Rattle.net_world.specs.Fits.{ShapeFits}
use Rattle.net_world.specs.Flying.{Flight}
use Rattle.net_world.specs.World.{WorldShape, state_at}
use Rattle.net_world.proofs.Moved.{mover_state, other_state, bad_moved}
use Rattle.net_world.proofs.Present.{same_id}
use Rattle.token_laws.specs.Holders.{IsTokenHeld, IsTokenSent, kept_on}
use Rattle.token_laws.proofs.HeldLaws.{IsKnown, own_before, stays_gone}
use Rattle.token_laws.proofs.WorldTokens.{Accounts}
use Rattle.integrity.specs.Holding.{IsAmong, Holder, runs, asked, answered, stuck, passes, lost, halted}
use Rattle.integrity.specs.Holding.{Waits, MessageFlies, IsThere, HasTop, OwnsRunning, OwnsWaiting, OwnsMessage}
use Rattle.integrity.specs.Holding.{AreLinked, IsStanding}
use Rattle.integrity.proofs.Among.{one_of_some, some_of, among_cons, each_among, all_among}
use Rattle.integrity.proofs.HeldTokens.{StandsThere, top_kept, held_or_lost, later_held, still_unsent}
use Rattle.integrity.proofs.StackMoves.{Restacks, stays, pushes, pops}

-- What an event changes that leaves the holder and the chain alone: one host's state, and what is in flight.
pub record LeavesAlone (chain : List StackEntry) (holder : Holder) (world after : WorldShape) : Type 0 where
  pub me : HostId
  pub old : HostState
  pub new : HostState
  pub obeys : state_at world me ≡ Some old
  pub puts : after.hosts ≡ slice_set world.hosts me.0 (Some new)
  pub apart : OwnsRunning holder me → ⊥
  pub stack : Restacks (λ token. (e : StackEntry) → IsAmong chain e → e.token ≢ token) old new
  pub waiting : (one : WaitingShape) → IsAmong old.waiting one → OwnsWaiting holder me one → IsAmong new.waiting one
  pub flying : (from to : HostId) (flight : Flight) → IsAmong (world.flying from to) flight →
      OwnsMessage holder from to flight.message → IsAmong (after.flying from to) flight

-- ---- hosts

-- what a host has that changed or did not
pub on_host : (world after : WorldShape) (me host : HostId) (old new state : HostState) → state_at world me ≡ Some old →
    after.hosts ≡ slice_set world.hosts me.0 (Some new) → state_at world host ≡ Some state →
    (P : HostState → Type 0) → P state → (host ≡ me → P old → P new) → IsSomeAnd (state_at after host) P
on_host world after me host old new state obeys puts there P has keeps = elim (eqb_tells host.0 me.0) [
  | inl same ↦
      let is : host ≡ me = same_id host me same.1 in
      let both : Some state ≡ Some old = sym there ∙ ap (state_at world) is ∙ obeys in
      let same_state : state ≡ old = cc in
      some_of (state_at after host) P new
      (ap (state_at after) is
      ∙ mover_state world after me old new after.flying obeys (record { hosts = puts; flying = refl }))
      (keeps is (subst P same_state has))
  | inr apart ↦
      some_of (state_at after host) P state
      (other_state world after me host new after.flying (record { hosts = puts; flying = refl }) apart.1 ∙ there) has
]

pub on_some : (world after : WorldShape) (me host : HostId) (old new : HostState) → state_at world me ≡ Some old →
    after.hosts ≡ slice_set world.hosts me.0 (Some new) → (P : HostState → Type 0) →
    IsSomeAnd (state_at world host) P → (host ≡ me → P old → P new) → IsSomeAnd (state_at after host) P
on_some world after me host old new obeys puts P has keeps =
    let at = one_of_some (state_at world host) P has in
    on_host world after me host old new at.one obeys puts at.is P at.has keeps

-- ---- entries

pub below_top : (top e : StackEntry) (below : List StackEntry) → IsAmong (top ∷ below) e → e.token ≢ top.token →
    IsAmong below e
below_top top e below (zero, is) apart =
    let same : top ≡ e = cc in
    absurd (apart (ap (λ (x : StackEntry). x.token) (sym same)))
below_top top e below (suc place, is) apart = (place, is)

restacked : (chain : List StackEntry) (old new : HostState) (e : StackEntry) → IsAmong chain e →
    Restacks (λ token. (x : StackEntry) → IsAmong chain x → x.token ≢ token) old new → IsAmong old.entries e →
    IsAmong new.entries e
restacked chain old new e among (stays is same) has = subst (λ list. IsAmong list e) (sym is) has
restacked chain old new e among (pushes on_stack is same next) has =
    subst (λ list. IsAmong list e) (sym is) (among_cons old.entries on_stack e has)
restacked chain old new e among (pops top is never same) has =
    below_top top e new.entries (subst (λ list. IsAmong list e) is has) (never e among)

module _ (chain : List StackEntry) (world after : WorldShape) where
  pub stands_after : (holder : Holder) → LeavesAlone chain holder world after → (e : StackEntry) → IsAmong chain e →
      StandsThere world e → StandsThere after e
  stands_after holder move e among has =
      on_some world after move.me e.token.host move.old move.new move.obeys move.puts
      (λ state. IsAmong state.entries e) has
      (λ is. restacked chain move.old move.new e among move.stack)

  -- ---- the holder

  waits_after : (holder : Holder) → LeavesAlone chain holder world after → (host : HostId) (waiting : WaitingShape) →
      Waits world host waiting → OwnsWaiting holder host waiting → Waits after host waiting
  waits_after holder move host waiting has own =
      on_some world after move.me host move.old move.new move.obeys move.puts (λ state. IsAmong state.waiting waiting)
      has (λ is among. move.waiting waiting among (subst (λ h. OwnsWaiting holder h waiting) is own))

  flies_after : (holder : Holder) → LeavesAlone chain holder world after → (from to : HostId) (m : Message) →
      MessageFlies world from to m → OwnsMessage holder from to m → MessageFlies after from to m
  flies_after holder move from to m has own = record {
    flight = has.flight;
    among = move.flying from to has.flight has.among (subst (OwnsMessage holder from to) (sym has.is) own);
    is = has.is;
  }

  pub there_after : (holder : Holder) → LeavesAlone chain holder world after → IsThere world holder →
      IsThere after holder
  there_after (runs host thread) move there =
      on_some world after move.me host move.old move.new move.obeys move.puts
      (λ state. state.running ≡ Some thread) there (λ is has. absurd (move.apart (sym is)))
  there_after (asked host waiting m) move there = (
    waits_after (asked host waiting m) move host waiting there.0 (refl, refl),
    flies_after (asked host waiting m) move host waiting.asked m there.1 (refl, refl, there.2),
    there.2,
  )
  there_after (answered host waiting m) move there = (
    waits_after (answered host waiting m) move host waiting there.0 (refl, refl),
    flies_after (answered host waiting m) move waiting.asked host m there.1 (refl, refl, there.2),
    there.2,
  )
  there_after (stuck host waiting) move there = (
    waits_after (stuck host waiting) move host waiting there.0 (refl, refl),
    bad_moved world after move.me move.old move.new after.flying move.obeys
        (record { hosts = move.puts; flying = refl }) waiting.asked ∙ there.1,
  )
  there_after (passes from to m) move there = flies_after (passes from to m) move from to m there (refl, refl, refl)
  there_after lost move there = tt
  there_after halted move there = tt

-- ---- its token

pub top_after : (chain : List StackEntry) (holder : Holder) (world after : WorldShape) →
    ((e : StackEntry) → IsAmong chain e → ¬ IsTokenHeld world e.token → ¬ IsTokenHeld after e.token) →
    HasTop world chain holder → HasTop after chain holder
top_after chain (runs host thread) world after gone has = has
top_after chain (asked host waiting m) world after gone has = has
top_after chain (answered host waiting m) world after gone has = has
top_after chain (stuck host waiting) world after gone has = has
top_after chain (passes from to m) world after gone has = has
top_after [] lost world after gone has = λ token is. absurd (cc)
top_after (top ∷ below) lost world after gone has =
    λ token is.
    let same : top.token ≡ token = cc in
    subst (λ (t : Token). ¬ IsTokenHeld after t) same (gone top (0, refl) (has top.token refl))
top_after chain halted world after gone has = has

-- ---- what was not sent

module _ (code : CodeShape) (world after : WorldShape) (is : IsKnown code world) (fits : ShapeFits code after)
    (step : Accounts world after) where
  pub gone_after : (e : StackEntry) → IsStanding world e → ¬ IsTokenHeld world e.token →
      (¬ IsTokenHeld after e.token) × ¬ IsTokenSent after e.token
  gone_after e standing nobody =
      let at = one_of_some (state_at world e.token.host) (λ state. IsAmong state.entries e) standing.there in
      stays_gone code world after e.token fits step
      (own_before code world e.token.host at.one at.has.0 e is.fits at.is at.has.1) nobody standing.unsent

  pub unsent_held : (e : StackEntry) → IsStanding world e → IsTokenHeld after e.token → ¬ IsTokenSent after e.token
  unsent_held e standing held =
      let at = one_of_some (state_at world e.token.host) (λ state. IsAmong state.entries e) standing.there in
      still_unsent code world after e.token at.one is fits step
      (own_before code world e.token.host at.one at.has.0 e is.fits at.is at.has.1) at.is standing.unsent held

  unsent_top : (holder : Holder) (top : StackEntry) (below : List StackEntry) → IsStanding world top →
      HasTop world (top ∷ below) holder → IsThere after holder → HasTop after (top ∷ below) holder →
      ¬ IsTokenSent after top.token
  unsent_top holder top below standing has there now =
      elim (held_or_lost after holder top.token (top_kept after holder top below there now)) [
        | inl held ↦ unsent_held top standing held
        | inr is_lost ↦ (gone_after top standing (subst (HasTop world (top ∷ below)) is_lost has top.token refl)).1
      ]

  -- each entry of the chain stands after the event
  pub chain_stands : (holder : Holder) (chain : List StackEntry) → AreLinked chain →
      AllByRecursion (IsStanding world) chain → AllByRecursion (StandsThere after) chain → HasTop world chain holder →
      IsThere after holder → HasTop after chain holder → AllByRecursion (IsStanding after) chain
  chain_stands holder [] linked standing stands has there now = tt
  chain_stands holder (top ∷ below) linked standing stands has there now = (
    record { there = stands.0; unsent = unsent_top holder top below standing.0 has there now },
    all_among (IsStanding after) below (λ e among. record {
      there = each_among (StandsThere after) below e stands.1 among;
      unsent =
          let held = later_held after top below among.0 e linked stands among.1 in
          unsent_held e (each_among (IsStanding world) below e standing.1 among) (kept_on held.0 held.1, held.2);
    }),
  )
